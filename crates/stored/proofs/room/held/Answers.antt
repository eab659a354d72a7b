use Rattle.std.proofs.Common.{length, ap, ◌∙◌}
use Rattle.bits.specs.Bits.{row_at}
use Rattle.bits.proofs.RowLaws.{length-rows}
use Rattle.stored.proofs.room.held.Goals as goal

pub returns : goal.returns
returns c = c.len.ensures ∙ ap length c.mask.ensures ∙ length-rows (row_at c.args.place.now.bytes.now) 0 c.args.place.now.len
