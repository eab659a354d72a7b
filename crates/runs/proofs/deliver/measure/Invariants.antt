use Rattle.std.proofs.Common.{◌≡◌, ◌+◌, length}
use Rattle.rows.specs.Rows.{runs_after, count_runs}
use Rattle.runs.proofs.deliver.measure.Given as goal

abbrev pub invariant-loop-run : goal.invariant-loop-run
invariant-loop-run g l =
    let left = g.P.Pieces.rows l.rest in
    (l.all + length left ≡ length (g.P.Pieces.rows l.initial.rest)) × (l.runs + runs_after l.last left ≡ count_runs (g.P.Pieces.rows l.initial.rest))

abbrev pub decreases-loop-run : goal.decreases-loop-run
decreases-loop-run g l = length (g.P.Pieces.rows l.rest)
