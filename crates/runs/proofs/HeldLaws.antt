-- A run begun, what is taken of it, and rows passed by. Assumes nothing.
use Rattle.std.proofs.Common.{◌≡◌, ℕ, zero, suc, ◌+◌, ◌-◌, ◌<◌, ◌≤◌, Bool, true, false, not, ◌||◌, List, ◌++◌, length, take, drop, replicate, refl, ap, ◌∙◌, subst, arith}
use Rattle.std.proofs.lemmas.List.{length-replicate}
use Rattle.std.proofs.Math.Seq.{take-append-add, drop-append-add}
use Rattle.rows.specs.declared.selector.RowSelector.{RowSelector}
use Rattle.rows.specs.Rows.{any_row}

-- what was taken of the run p that a source holds was taken of r, which is that run
pub taken-of : (p r : RowSelector) (n : ℕ) (xs ys : List Bool) → p ≡ r → replicate n (not p.skip) ++ ys ≡ xs → replicate n (not r.skip) ++ ys ≡ xs
taken-of p r n xs ys e = subst (λ q. replicate n (not q.skip) ++ ys ≡ xs) e

-- a run of equal rows in front
pub any-run : (m : ℕ) (b : Bool) (xs : List Bool) → 0 < m → any_row (replicate m b ++ xs) ≡ (b || any_row xs)
any-run zero b xs h = absurd (omega arith)
any-run (suc m) true xs h = refl
any-run (suc zero) false xs h = refl
any-run (suc (suc m)) false xs h = any-run (suc m) false xs (omega arith)

pub any-skipped : (m : ℕ) (b : Bool) (xs : List Bool) → 0 < m → b ≡ false → any_row (replicate m b ++ xs) ≡ any_row xs
any-skipped m b xs h e = any-run m b xs h ∙ ap (λ a. a || any_row xs) e

-- n rows of which the first m are a run
module _ (n m : ℕ) (b : Bool) (xs : List Bool) (within : m ≤ n) where
  parts : n ≡ length (replicate m b) + (n - m)
  parts = omega (arith, length-replicate m b)

  pub passed-any : 0 < m → any_row (take n (replicate m b ++ xs)) ≡ (b || any_row (take (n - m) xs))
  passed-any some = ap (λ k. any_row (take k (replicate m b ++ xs))) parts ∙ ap any_row (take-append-add (replicate m b) xs (n - m)) ∙ any-run m b (take (n - m) xs) some

  pub passed-rest : drop n (replicate m b ++ xs) ≡ drop (n - m) xs
  passed-rest = ap (λ k. drop k (replicate m b ++ xs)) parts ∙ drop-append-add (replicate m b) xs (n - m)
