use Rattle.std.proofs.Common.{sym, ◌∙◌, arith}
use Rattle.bits.specs.Bits.{row_at}
use Rattle.bits.specs.Masks.{rows}
use Rattle.bits.proofs.RowLaws.{length-rows}
use Rattle.bits.proofs.WalkLaws.{has-row, no-change}
use Rattle.bits.proofs.mask.Mask.next_change.Goals as goal

pub stretch_end-requires : goal.stretch_end-requires
stretch_end-requires c =
    let m = c.args.self.now in
    omega (arith, has-row (rows m) c.args.at c.in-Some.set (sym c.value.ensures ∙ c.in-Some.is), length-rows (row_at m.bytes.now) m.offset m.len)

pub returns-in-None : goal.returns-in-None
returns-in-None c =
    let m = c.args.self.now in
    sym (no-change (rows m) c.args.at (sym c.value.ensures ∙ c.in-None.is) ∙ length-rows (row_at m.bytes.now) m.offset m.len)
