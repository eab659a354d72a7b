use Rattle.std.proofs.Common.{◌≡◌, ◌+◌, length}
use Rattle.rows.specs.Rows.{selected_count}
use Rattle.cuts.proofs.part.count_selected.Given as goal

abbrev pub invariant-loop-run : goal.invariant-loop-run
invariant-loop-run g l = l.n + selected_count (g.S.RunSource.rows l.rest) ≡ selected_count (g.S.RunSource.rows l.initial.rest)

abbrev pub decreases-loop-run : goal.decreases-loop-run
decreases-loop-run g l = length (g.S.RunSource.rows l.rest)
