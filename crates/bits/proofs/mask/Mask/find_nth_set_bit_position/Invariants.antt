use Rattle.std.proofs.Common.{◌≡◌, ◌+◌, ◌<◌, min, drop}
use Rattle.rows.specs.Rules.{nth_end}
use Rattle.bits.specs.Masks.{rows}
use Rattle.bits.proofs.mask.Mask.find_nth_set_bit_position.Given as goal

abbrev pub invariant-loop-at : goal.invariant-loop-at
invariant-loop-at l = (0 < l.left) × (nth_end l.n (rows l.self) ≡ min l.at l.self.len + nth_end l.left (drop l.at (rows l.self)))
