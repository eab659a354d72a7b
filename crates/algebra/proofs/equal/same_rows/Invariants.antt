use Rattle.std.proofs.Common.{◌≡◌, length}
use Rattle.algebra.proofs.equal.same_rows.Given as goal

abbrev pub invariant-loop-run : goal.invariant-loop-run
invariant-loop-run g l =
    let xs = g.A.RunSource.rows in
    let ys = g.B.RunSource.rows in
    (xs l.rest ≡ ys l.others → xs l.initial.rest ≡ ys l.initial.others)
    × (xs l.initial.rest ≡ ys l.initial.others → xs l.rest ≡ ys l.others)

abbrev pub decreases-loop-run : goal.decreases-loop-run
decreases-loop-run g l = length (g.A.RunSource.rows l.rest)
