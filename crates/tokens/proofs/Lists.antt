-- Lists that are read item by item. Assumes nothing.
use Rattle.std.proofs.Common.{◌≡◌, List, [], ◌∷◌, ◌++◌, Some, None, Option, sym, refl, ap, ◌∙◌, append_assoc}
use Rattle.tokens.specs.Words.{added}

-- what was read before, and then the rest
abbrev pub prepended : {X : Type 0} → List X → Option (List X) → Option (List X)
prepended xs None = None
prepended xs (Some ys) = Some (xs ++ ys)

-- one turn of a loop that reads items: o is what the words left say, and all is what they said at first
module _ {X : Type 0} (xs : List X) (o all : Option (List X)) (inv : prepended xs o ≡ all) where
  pub one_more : (ys : List X) (x : X) (rest : Option (List X)) → ys ≡ xs ++ x ∷ [] → o ≡ added (Some x) rest → prepended ys rest ≡ all
  one_more ys x rest pushed e = ap (λ l. prepended l rest) pushed ∙ joined rest ∙ ap (prepended xs) (sym e) ∙ inv
    where
      joined : (r : Option (List X)) → prepended (xs ++ x ∷ []) r ≡ prepended xs (added (Some x) r)
      joined None = refl
      joined (Some ys) = ap Some (append_assoc xs (x ∷ []) ys)

pub none_yet : {X : Type 0} (o : Option (List X)) → prepended [] o ≡ o
none_yet None = refl
none_yet (Some ys) = refl
