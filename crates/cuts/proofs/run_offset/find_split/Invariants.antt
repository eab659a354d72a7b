use Rattle.std.proofs.Common.{◌≡◌, ◌+◌, ◌-◌, ◌≤◌, false, ◌++◌, length, drop, replicate}
use Rattle.rows.specs.Rows.{run_rows, selected_count}
use Rattle.rows.specs.Rules.{skip_selected}
use Rattle.cuts.proofs.run_offset.find_split.Given as goal

abbrev pub invariant-loop-run : goal.invariant-loop-run
invariant-loop-run l =
    let left = run_rows (drop l.run l.runs) in
    (l.selected ≤ l.n)
    × (l.skipped + l.selected + length left ≡ length (run_rows l.runs))
    × (l.selected + selected_count left ≡ selected_count (run_rows l.runs))
    × (skip_selected l.n (run_rows l.runs) ≡ replicate (l.skipped + l.selected) false ++ skip_selected (l.n - l.selected) left)
