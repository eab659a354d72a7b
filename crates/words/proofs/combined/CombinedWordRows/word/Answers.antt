use Rattle.std.proofs.Common.{◌≡◌, ◌<◌, ◌≤◌, length, arith}
use Rattle.bits.specs.Masks.{rows}
use Rattle.words.proofs.CombineLaws.{combined-whole, combined-part}
use Rattle.words.proofs.combined.CombinedWordRows.word.Goals as goal
use Rattle.words.proofs.combined.CombinedWordRows.word.Goals.{then-len, else-len}

pub returns-then-both-ge64 : goal.returns-then-both-ge64
returns-then-both-ge64 g c =
    let s = c.args.self.now in
    combined-whole g.P.Policy.rule (rows s.first) (rows s.second) c.args.at c.word-x.result c.word-y.result c.word.result c.word-x.ensures c.word-y.ensures c.word.ensures
    (omega (arith, c.len.ensures, c.len-2.ensures)) (omega (arith, c.len.ensures, c.len-2.ensures))

pub returns : goal.returns
returns g c =
    let s = c.args.self.now in
    let xs = rows s.first in
    let ys = rows s.second in
    let isx : length ys < length xs → c.if-len.longer ≡ c.word-x.result = λ h. elim c.if-len.branch [ then-len w ↦ w.longer-is | else-len w ↦ absurd (omega (arith, w.if-len.false, c.len-3.ensures, c.len-4.ensures)) ] in
    let isy : length xs ≤ length ys → c.if-len.longer ≡ c.word-y.result = λ h. elim c.if-len.branch [ then-len w ↦ absurd (omega (arith, w.if-len.true, c.len-3.ensures, c.len-4.ensures)) | else-len w ↦ w.longer-is ] in
    combined-part g.P.Policy.rule xs ys c.args.at c.word-x.result c.word-y.result c.word-2.result c.word-x.ensures c.word-y.ensures c.word-2.ensures
    c.splice.result c.if-len.longer c.saturating_sub-both.result (omega (arith, c.len.ensures, c.len-2.ensures)) c.splice.ensures.under c.splice.ensures.over isx isy
