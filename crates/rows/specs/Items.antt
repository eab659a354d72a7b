-- Items handed out one by one, and answers of yes or no.
use Rattle.std.specs.Prelude.{◌≡◌, Bool, true, false, List, [], ◌∷◌, Some, None, Option}

-- one item at the items xs, with ys left; none exactly when no item is left
abbrev pub Given : {T : Type 0} → List T → Option T → List T → Type 0
Given xs None ys = (xs ≡ []) × (ys ≡ [])
Given xs (Some x) ys = xs ≡ x ∷ ys

-- the answer is yes exactly where P holds
abbrev pub Decides : Bool → Type 0 → Type 0
Decides true P = P
Decides false P = P → ⊥
