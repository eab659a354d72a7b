use Rattle.std.proofs.Common.{◌≡◌, drop}
use Rattle.rows.specs.Ranges.{bad_range}
use Rattle.algebra.proofs.ranges.first_bad.Given as goal

abbrev pub invariant-loop-i : goal.invariant-loop-i
invariant-loop-i l = bad_range l.total 0 0 l.ranges ≡ bad_range l.total l.end l.i (drop l.i l.ranges)
