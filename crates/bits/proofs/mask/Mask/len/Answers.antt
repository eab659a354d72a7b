use Rattle.std.proofs.Common.{sym}
use Rattle.bits.specs.Bits.{row_at}
use Rattle.bits.proofs.RowLaws.{length-rows}
use Rattle.bits.proofs.mask.Mask.len.Goals as goal

pub returns : goal.returns
returns c = sym (length-rows (row_at c.args.self.now.bytes.now) c.args.self.now.offset c.args.self.now.len)
