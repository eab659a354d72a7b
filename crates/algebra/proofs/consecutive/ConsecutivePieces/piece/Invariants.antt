use Rattle.std.proofs.Common.{◌≡◌, length}
use Rattle.rows.specs.Ranges.{range_rows}
use Rattle.algebra.proofs.consecutive.ConsecutivePieces.piece.Given as goal

abbrev pub invariant-loop-self : goal.invariant-loop-self
invariant-loop-self l =
    let s = l.initial.self in
    let t = l.self in
    (t.total ≡ s.total) × (range_rows s.total s.at s.ranges.now ≡ range_rows t.total t.at t.ranges.now)

abbrev pub decreases-loop-self : goal.decreases-loop-self
decreases-loop-self l = length l.self.ranges.now
