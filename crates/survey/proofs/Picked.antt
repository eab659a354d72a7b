-- The shots at a stretch of rows. Assumes nothing.
use Rattle.std.proofs.Common.{◌≡◌, ℕ, zero, suc, ◌-◌, min, Bool, true, false, ◌&&◌, List, [], ◌∷◌, ◌++◌, map, length, take, drop, replicate, sym, refl, ap, ◌∙◌, append_assoc, arith}
use Rattle.rows.specs.Rules.{and_then}
use Rattle.survey.specs.declared.shot.Shot.{Shot}
use Rattle.survey.specs.declared.filter.Filter.{Filter}
use Rattle.survey.specs.Filters.{passes, passes_both, picked}

no-shots : (xs : List Bool) → picked xs [] ≡ []
no-shots [] = refl
no-shots (x ∷ xs) = refl

-- a run of skipped rows, and one of selected rows, of which the shots go as far as m
pub skipped : (n m : ℕ) (xs : List Bool) (ss : List Shot) → m ≡ min n (length ss) → picked (replicate n false ++ xs) ss ≡ picked xs (drop m ss)
skipped zero m xs ss e = ap (λ k. picked xs (drop k ss)) (let z : 0 ≡ m = omega arith in z)
skipped (suc n) m xs [] e = sym (ap (λ k. picked xs (drop k [])) (let z : m ≡ 0 = omega arith in z) ∙ no-shots xs)
skipped (suc n) m xs (s ∷ ss) e =
    let z : suc (m - 1) ≡ m = omega arith in
    skipped n (m - 1) xs ss (omega arith) ∙ ap (λ k. picked xs (drop k (s ∷ ss))) z

pub selected : (n m : ℕ) (xs : List Bool) (ss : List Shot) → m ≡ min n (length ss) → picked (replicate n true ++ xs) ss ≡ take m ss ++ picked xs (drop m ss)
selected zero m xs ss e = ap (λ k. take k ss ++ picked xs (drop k ss)) (let z : 0 ≡ m = omega arith in z)
selected (suc n) m xs [] e = sym (ap (λ k. take k [] ++ picked xs (drop k [])) (let z : m ≡ 0 = omega arith in z) ∙ no-shots xs)
selected (suc n) m xs (s ∷ ss) e =
    let z : suc (m - 1) ≡ m = omega arith in
    ap (λ l. s ∷ l) (selected n (m - 1) xs ss (omega arith)) ∙ ap (λ k. take k (s ∷ ss) ++ picked xs (drop k (s ∷ ss))) z

-- one turn: what was found before and what is still to find make the whole
module _ (whole found : List Shot) (rows xs : List Bool) (n m : ℕ) (ahead : List Shot) (inv : found ++ picked rows ahead ≡ whole) (long : m ≡ min n (length ahead)) where
  pub pass-run : rows ≡ replicate n false ++ xs → found ++ picked xs (drop m ahead) ≡ whole
  pass-run e = ap (λ l. found ++ l) (sym (ap (λ r. picked r ahead) e ∙ skipped n m xs ahead long)) ∙ inv

  pub take-run : rows ≡ replicate n true ++ xs → (found ++ take m ahead) ++ picked xs (drop m ahead) ≡ whole
  take-run e = append_assoc found (take m ahead) (picked xs (drop m ahead)) ∙ ap (λ l. found ++ l) (sym (ap (λ r. picked r ahead) e ∙ selected n m xs ahead long)) ∙ inv

pub none_left : (rows : List Bool) (shots : List Shot) → rows ≡ [] → picked rows shots ≡ []
none_left rows shots e = ap (λ r. picked r shots) e

-- a second filter that judges the shots which a first one left, put back by rank, keeps just the shots that pass both
module _ (f g : Filter) where
  pub both-filters : (ss : List Shot) → and_then (map (passes f) ss) (map (passes g) (picked (map (passes f) ss) ss)) ≡ map (passes_both f g) ss
  both-filters [] = refl
  both-filters (s ∷ ss) = step (passes f s) (both-filters ss)
    where
      step : (b : Bool) → and_then (map (passes f) ss) (map (passes g) (picked (map (passes f) ss) ss)) ≡ map (passes_both f g) ss → and_then (b ∷ map (passes f) ss) (map (passes g) (picked (b ∷ map (passes f) ss) (s ∷ ss))) ≡ (b && passes g s) ∷ map (passes_both f g) ss
      step true e = ap (λ l. passes g s ∷ l) e
      step false e = ap (λ l. false ∷ l) e
