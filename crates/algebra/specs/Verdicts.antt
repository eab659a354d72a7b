-- When an operation is refused.
use Rattle.std.specs.Prelude.{ℕ, Bool, cond, List, length, Some, None, nat_lt}
use Rattle.refusals.specs.Refusals.{refused, selection}
use Rattle.rows.specs.Ranges.{RowRange, bad_range, range_rows}
use Rattle.rows.specs.Rows.{row_limit, selected_count}
use Rattle.rows.specs.Rules.{and_then}
use Rattle.runs.specs.Sinks.{Verdict, Sink, placed}

-- and_then: the second's length is the first's selected count, or it is too short or too long
abbrev pub narrows : {S : Type 0} → Sink S → S → List Bool → List Bool → Verdict
narrows k s xs ys =
    cond (nat_lt (length ys) (selected_count xs)) (refused 4 (length ys) selection)
    (cond (nat_lt (selected_count xs) (length ys)) (refused 5 (selected_count xs) selection) (placed k s (and_then xs ys)))

-- ranges of a total: 1 where the total is too large, 3 at the first bad range, else what the place says
abbrev pub ranged : {S : Type 0} → Sink S → S → ℕ → List RowRange → Verdict
ranged k s total rs =
    cond (nat_lt row_limit total) (refused 1 0 selection)
    (elim (bad_range total 0 0 rs) [ Some i ↦ refused 3 i selection | None ↦ placed k s (range_rows total 0 rs) ])
