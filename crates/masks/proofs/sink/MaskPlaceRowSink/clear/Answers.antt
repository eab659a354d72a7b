use Rattle.std.proofs.Common.{refl}
use Rattle.bits.specs.Bits.{row_at}
use Rattle.bits.proofs.RowLaws.{rows-nil}
use Rattle.masks.proofs.sink.MaskPlaceRowSink.clear.Goals as goal

pub returns-clause-none : goal.returns-clause-none
returns-clause-none c = let s = c.args.self.now in rows-nil (row_at s.bytes.now) 0 0 refl
