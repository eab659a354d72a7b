use Rattle.std.proofs.Common.{refl, arith}
use Rattle.std.proofs.lemmas.List.{drop_all}
use Rattle.bits.specs.Bits.{row_at}
use Rattle.bits.specs.Masks.{rows}
use Rattle.bits.proofs.RowLaws.{length-rows}
use Rattle.bits.proofs.walks.RowsLeft.first.Goals as goal

pub returns-then-self-clause-stands : goal.returns-then-self-clause-stands
returns-then-self-clause-stands c =
    let m = c.args.self.now.mask in
    drop_all c.stretch_end-self.result (rows m) (omega (arith, length-rows (row_at m.bytes.now) m.offset m.len))

pub returns-clause-stands : goal.returns-clause-stands
returns-clause-stands c =
    let m = c.args.self.now.mask in
    (refl, omega (arith, length-rows (row_at m.bytes.now) m.offset m.len))
