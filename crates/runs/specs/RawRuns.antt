-- Raw runs: zero runs and alike neighbours among them, and any numbers.
use Rattle.std.specs.Prelude.{ℕ, suc, ◌+◌, cond, List, [], ◌∷◌, length, nat_le, nat_lt}
use Rattle.refusals.specs.Refusals.{refused, selection}
use Rattle.rows.specs.declared.selector.RowSelector.{RowSelector}
use Rattle.rows.specs.Rows.{row_limit, run_rows}
use Rattle.runs.specs.Sinks.{Verdict, Sink, placed}

-- how many runs from the start on stay within the row limit, after so many rows
abbrev pub fitting : ℕ → List RowSelector → ℕ
fitting sum [] = 0
fitting sum (r ∷ rs) = cond (nat_le (sum + r.row_count) row_limit) (suc (fitting (sum + r.row_count) rs)) 0

-- refused by 1 at the run that passes the row limit, else by what the place says
abbrev pub collected : {S : Type 0} → Sink S → S → List RowSelector → Verdict
collected k s rs = cond (nat_lt (fitting 0 rs) (length rs)) (refused 1 (fitting 0 rs) selection) (placed k s (run_rows rs))
