-- What a place of items holds after a call.
use Rattle.std.specs.Prelude.{◌≡◌, ℕ, cond, List, length, take, drop, Ok, Err, Result, nat_lt}
use Rattle.refusals.specs.declared.fault.SelectionFault.{SelectionFault}
use Rattle.refusals.specs.declared.refusal.Refusal.{Refusal}
use Rattle.refusals.specs.Refusals.{refused, selection}

-- a place of the given size takes the items, and their number is told, or it is too small: 12, with the size needed
abbrev pub stored : {T : Type 0} → ℕ → List T → Result ℕ Refusal
stored size xs = cond (nat_lt size (length xs)) (refused 12 (length xs) selection) (Ok (length xs))

-- the items stand at the start of the place, and the rest is untouched; refused, all of it is
abbrev pub Stands : {T : Type 0} → List T → Result ℕ SelectionFault → List T → List T → Type 0
Stands xs (Ok n) old new = (take n new ≡ xs) × (drop n new ≡ drop n old)
Stands xs (Err e) old new = new ≡ old

-- what is told of each item is h of it
abbrev pub Tells : {A T : Type 0} → (A → T → Type 0) → (A → T) → Type 0
Tells {A} {T} told h = (x : A) (y : T) → told x y → y ≡ h x
