use Rattle.std.proofs.Common.{arith}
use Rattle.bits.specs.Masks.{rows}
use Rattle.words.proofs.CutLaws.{skipped-whole, skipped-part}
use Rattle.words.proofs.skipped.SkippedToWordRows.word.Goals as goal

pub returns-then-skipped-ge64 : goal.returns-then-skipped-ge64
returns-then-skipped-ge64 c =
    let s = c.args.self.now in
    skipped-whole s.cut (rows s.mask) c.args.at (omega (arith, c.saturating_sub-skipped.ensures, c.if-skipped-ge64.true))

pub returns : goal.returns
returns c =
    let s = c.args.self.now in
    skipped-part s.cut (rows s.mask) c.args.at c.splice.result c.word.result c.saturating_sub-skipped.result c.saturating_sub-skipped.ensures c.word.ensures c.splice.ensures.under c.splice.ensures.over
