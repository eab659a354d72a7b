use Rattle.std.proofs.Common.{◌≡◌, ◌++◌, length}
use Rattle.runs.proofs.deliver.pour.Given as goal

abbrev pub invariant-loop-run : goal.invariant-loop-run
invariant-loop-run g l =
    let k = g.K.RowSink.sink in
    (k.rows l.out ++ g.P.Pieces.rows l.rest ≡ g.P.Pieces.rows l.initial.rest)
    × (k.capacity l.out ≡ k.capacity l.initial.out)
    × k.keeps l.initial.out l.out

abbrev pub decreases-loop-run : goal.decreases-loop-run
decreases-loop-run g l = length (g.P.Pieces.rows l.rest)
