use Rattle.std.proofs.Common.{sym, ◌∙◌}
use Rattle.bits.specs.Masks.{rows}
use Rattle.words.specs.Shown.{length-skip_front}
use Rattle.words.proofs.skipped.SkippedToWordRows.len.Goals as goal

pub returns : goal.returns
returns c = let s = c.args.self.now in c.len.ensures ∙ sym (length-skip_front s.cut (rows s.mask))
