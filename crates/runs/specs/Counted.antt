-- Run lists, with their rows counted.
use Rattle.std.specs.Prelude.{◌≡◌, ◌≤◌, true, List, length}
use Rattle.rows.specs.declared.selector.RowSelector.{RowSelector}
use Rattle.rows.specs.Rows.{row_limit, run_rows, selected_count, canonical}
use Rattle.runs.specs.declared.counts.RowCounts.{RowCounts}

-- no run of zero rows, no two neighbours alike, at most the row limit; and n counts the rows
pub record IsRunList (ks : List RowSelector) (n : RowCounts) : Type 0 where
  pub whole : canonical ks ≡ true
  pub counted : n.all ≡ length (run_rows ks)
  pub chosen : n.selected ≡ selected_count (run_rows ks)
  pub within : n.all ≤ row_limit
