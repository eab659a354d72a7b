-- Laws of raw runs. Assumes nothing.
use Rattle.std.proofs.Common.{◌≡◌, ℕ, suc, ◌+◌, ◌≤◌, Bool, true, false, cond, not, leb, List, [], ◌∷◌, length, refl, arith}
use Rattle.std.proofs.lemmas.Bool.{leb-true}
use Rattle.rows.specs.declared.selector.RowSelector.{RowSelector}
use Rattle.rows.specs.Rows.{row_limit, run_rows}
use Rattle.rows.proofs.Counts.{length_run}
use Rattle.runs.specs.RawRuns.{fitting}

-- where all fit, the rows are within the limit
fits-first : (b : Bool) (m k : ℕ) → suc k ≤ cond b (suc m) 0 → (b ≡ true) × (k ≤ m)
fits-first true m k h = (refl, omega arith)
fits-first false m k h = absurd (omega arith)

pub all_fit : (sum : ℕ) (rs : List RowSelector) → sum ≤ row_limit → length rs ≤ fitting sum rs → sum + length (run_rows rs) ≤ row_limit
all_fit sum [] h k = omega arith
all_fit sum (r ∷ rs) h k =
    let n = sum + r.row_count in
    let f = fits-first (leb n row_limit) (fitting n rs) (length rs) k in
    omega (arith, all_fit n rs (leb-true n row_limit f.0) f.1, length_run r.row_count (not r.skip) (run_rows rs))
