use Rattle.std.proofs.Common.{◌+◌, ◌-◌, ◌*◌, min, get_or, sym, arith}
use Rattle.bits.specs.Bits.{row_at, bit_at}
use Rattle.bits.proofs.RowLaws.{selected-none, selected-rows-le}
use Rattle.bits.proofs.Words.{count-byte}
use Rattle.bits.proofs.mask.Mask.count_set_bits.Goals as goal

pub loop-i-init : goal.loop-i-init
loop-i-init c =
    let m = c.args.self.now in
    sym (selected-none (row_at m.bytes.now) m.offset (min 0 (m.offset + m.len) - m.offset) (omega arith))

pub overflow_add-n : goal.overflow_add-n
overflow_add-n c =
    let m = c.args.self.now in
    omega (
      arith,
      c.loop-i.invariant,
      c.ones_between-n.ensures,
      selected-rows-le (row_at m.bytes.now) m.offset (min (8 * c.loop-i.i) (m.offset + m.len) - m.offset),
      selected-rows-le (bit_at (get_or m.bytes.now c.loop-i.i 0)) c.saturating_sub-from.result (c.min-to.result - c.saturating_sub-from.result),
    )

pub loop-i-preserved : goal.loop-i-preserved
loop-i-preserved c =
    let m = c.args.self.now in
    omega (
      arith,
      c.loop-i.invariant,
      c.ones_between-n.ensures,
      count-byte m.bytes.now m.offset (m.offset + m.len) c.loop-i.i c.saturating_sub-from.result c.min-to.result
          (omega arith) (omega arith) (omega arith) (omega arith) (omega arith),
    )
