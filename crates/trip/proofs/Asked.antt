-- The shots at the selected rows from one number to another. Assumes nothing.
use Rattle.std.proofs.Common.{◌≡◌, ◌≤◌, nat_lt, ℕ, zero, suc, ◌-◌, Bool, true, false, cond, List, [], ◌∷◌, map, length, take, drop, refl, ap, ◌∙◌, sym, arith}
use Rattle.std.specs.List.{filter}
use Rattle.std.proofs.lemmas.Bool.{ltb-false}
use Rattle.std.proofs.lemmas.List.{drop_all}
use Rattle.rows.specs.Rows.{selected_count}
use Rattle.rows.specs.Rules.{skip_selected, offset, limit}
use Rattle.survey.specs.declared.shot.Shot.{Shot}
use Rattle.survey.specs.Filters.{picked}
use Rattle.tripfile.specs.declared.trip.Window.{Window}
use Rattle.trip.specs.Steps.{rows_in, numbered}

-- no more shots than selected rows
few-picked : (xs : List Bool) (ss : List Shot) → length (picked xs ss) ≤ selected_count xs
few-picked [] ss = omega arith
few-picked (x ∷ xs) [] = omega arith
few-picked (true ∷ xs) (s ∷ ss) = let h = few-picked xs ss in omega arith
few-picked (false ∷ xs) (s ∷ ss) = few-picked xs ss

-- the shots after the first n, where their rows are skipped and where offset leaves them out
after : (n : ℕ) (xs : List Bool) (ss : List Shot) → picked (skip_selected n xs) ss ≡ drop n (picked xs ss)
after zero xs ss = refl
after (suc n) [] ss = refl
after (suc n) (false ∷ xs) [] = refl
after (suc n) (true ∷ xs) [] = refl
after (suc n) (false ∷ xs) (s ∷ ss) = after (suc n) xs ss
after (suc n) (true ∷ xs) (s ∷ ss) = after n xs ss

from_first : (n : ℕ) (xs : List Bool) (ss : List Shot) → picked (offset n xs) ss ≡ drop n (picked xs ss)
from_first zero xs ss = refl
from_first (suc n) xs ss = step (nat_lt (suc n) (selected_count xs)) refl
  where
    step : (b : Bool) → nat_lt (suc n) (selected_count xs) ≡ b → picked (cond b (skip_selected (suc n) xs) []) ss ≡ drop (suc n) (picked xs ss)
    step true e = after (suc n) xs ss
    step false e =
        let few = few-picked xs ss in
        let none = ltb-false (suc n) (selected_count xs) e in
        sym (drop_all (suc n) (picked xs ss) (omega arith))

-- the first n shots
up-to : (n : ℕ) (xs : List Bool) (ss : List Shot) → picked (limit n xs) ss ≡ take n (picked xs ss)
up-to zero xs ss = refl
up-to (suc n) [] ss = refl
up-to (suc n) (false ∷ xs) [] = refl
up-to (suc n) (true ∷ xs) [] = refl
up-to (suc n) (false ∷ xs) (s ∷ ss) = up-to (suc n) xs ss
up-to (suc n) (true ∷ xs) (s ∷ ss) = ap (λ l. s ∷ l) (up-to n xs ss)

-- the shots that pass
passing : (p : Shot → Bool) (ss : List Shot) → picked (map p ss) ss ≡ filter p ss
passing p [] = refl
passing p (s ∷ ss) = step (p s) (passing p ss)
  where
    step : (b : Bool) → picked (map p ss) ss ≡ filter p ss → picked (b ∷ map p ss) (s ∷ ss) ≡ cond b (s ∷ filter p ss) (filter p ss)
    step true e = ap (λ l. s ∷ l) e
    step false e = e

pub asked-shots : (w : Window) (p : Shot → Bool) (ss : List Shot) → picked (rows_in w (map p ss)) ss ≡ numbered w (filter p ss)
asked-shots w p ss =
    let m = w.last - (w.first - 1) in
    let n = w.first - 1 in
    up-to m (offset n (map p ss)) ss ∙ ap (take m) (from_first n (map p ss) ss ∙ ap (drop n) (passing p ss))
