use Rattle.std.proofs.Common.{◌+◌, ◌-◌, ◌∙◌, arith}
use Rattle.bits.specs.Bits.{bit_at, row_at}
use Rattle.bits.proofs.RowLaws.{rows-front}
use Rattle.bits.proofs.Words.{word-selects, word_none}
use Rattle.bits.proofs.mask.Mask.word.Goals as goal

pub returns-then-at-self : goal.returns-then-at-self
returns-then-at-self c k h = let m = c.args.self.now in word_none (row_at m.bytes.now) m.offset m.len c.args.at k (omega arith)

pub returns-then-left-ge64 : goal.returns-then-left-ge64
returns-then-left-ge64 c k h =
    let m = c.args.self.now in
    word-selects (row_at m.bytes.now) m.offset m.len c.args.at 64 c.word_at.result (omega arith) (omega arith) c.word_at.ensures k h

pub returns : goal.returns
returns c k h =
    let m = c.args.self.now in
    let left = m.len - c.args.at in
    word-selects (row_at m.bytes.now) m.offset m.len c.args.at left c.low_bits.result (omega arith) c.low_bits.ensures.small
    (c.low_bits.ensures.rows ∙ rows-front (bit_at c.word_at-2.result) (row_at m.bytes.now) 0 (m.offset + c.args.at) left 64 (omega arith) c.word_at-2.ensures) k h
