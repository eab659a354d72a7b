use Rattle.std.proofs.Common.{◌≡◌, length}
use Rattle.runs.specs.HeldRows.{held_rows}
use Rattle.rows.specs.Rows.{any_row}
use Rattle.pages.proofs.pass.any_left.Given as goal

abbrev pub invariant-loop-run : goal.invariant-loop-run
invariant-loop-run g l = any_row (held_rows g.S.RunSource.rows l.initial.rows) ≡ any_row (held_rows g.S.RunSource.rows l.rows)

abbrev pub decreases-loop-run : goal.decreases-loop-run
decreases-loop-run g l = length (held_rows g.S.RunSource.rows l.rows)
