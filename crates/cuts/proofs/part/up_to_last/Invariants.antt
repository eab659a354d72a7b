use Rattle.std.proofs.Common.{◌≡◌, ◌+◌, length}
use Rattle.cuts.proofs.Lasts.{kept, ends}
use Rattle.cuts.proofs.part.up_to_last.Given as goal

abbrev pub invariant-loop-run : goal.invariant-loop-run
invariant-loop-run g l =
    let left = g.S.RunSource.rows l.rest in
    let whole = g.S.RunSource.rows l.initial.rest in
    (l.at + length left ≡ length whole) × (kept whole ≡ ends l.at l.last (kept left))

abbrev pub decreases-loop-run : goal.decreases-loop-run
decreases-loop-run g l = length (g.S.RunSource.rows l.rest)
