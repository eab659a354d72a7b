use Rattle.std.proofs.Common.{◌≡◌, ◌-◌, ◌*◌, min}
use Rattle.rows.specs.Rows.{selected_count}
use Rattle.bits.specs.Bits.{mask_rows}
use Rattle.bits.proofs.mask.Mask.count_set_bits.Given as goal

abbrev pub invariant-loop-i : goal.invariant-loop-i
invariant-loop-i l = l.n ≡ selected_count (mask_rows l.self.bytes.now l.self.offset (min (8 * l.i) l.end - l.self.offset))
