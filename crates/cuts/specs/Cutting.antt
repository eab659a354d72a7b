-- Where the rows of a run list go on after its first selected ones.
use Rattle.std.specs.Prelude.{◌≡◌, ℕ, ◌+◌, ◌-◌, ◌<◌, ◌≤◌, true, false, List, ◌++◌, length, drop, replicate}
use Rattle.rows.specs.declared.selector.RowSelector.{RowSelector}
use Rattle.rows.specs.Rows.{run_rows, selected_count}
use Rattle.rows.specs.Rules.{skip_selected}

-- the n-th selected row is passed in the run of this index, after so many skipped rows and within so many selected ones
pub record CutAt (n : ℕ) (runs : List RowSelector) (run skipped selected : ℕ) : Type 0 where
  pub inside : run < length runs
  pub past : n < selected
  pub some : n < selected_count (run_rows runs)
  pub few : skipped + selected ≤ length (run_rows runs)
  pub rows : skip_selected n (run_rows runs) ≡ replicate (skipped + n) false ++ (replicate (selected - n) true ++ run_rows (drop (run + 1) runs))
