use Rattle.std.proofs.Common.{◌-◌, ap, arith}
use Rattle.bits.specs.Masks.{rows}
use Rattle.words.proofs.JoinLaws.{joined-part}
use Rattle.words.proofs.joined.JoinedWordRows.word.Goals as goal

pub returns : goal.returns
returns c =
    let s = c.args.self.now in
    let n = c.len-n.result - c.args.at in
    joined-part (rows s.first) (rows s.second) c.args.at c.splice.result c.word-w.result c.word-2.result n (ap (λ k. k - c.args.at) c.len-n.ensures) (omega (arith, c.len-n.ensures, c.if-at-n.false)) c.word-w.ensures c.word-2.ensures c.splice.ensures.under c.splice.ensures.over
