use Rattle.std.proofs.Common.{◌≡◌, ◌+◌, ◌*◌, subst, arith}
use Rattle.bits.specs.Masks.{rows}
use Rattle.words.proofs.SameLaws.{Agree, agree-more, agree-all, words-differ}
use Rattle.words.proofs.same.same_mask_rows.Goals as goal

pub returns-then-word : goal.returns-then-word
returns-then-word c = words-differ (rows c.args.a) (rows c.args.b) (64 * c.loop-i.i) c.word.result c.word-in-loop-i.result c.word.ensures c.word-in-loop-i.ensures c.word.type_inv c.word-in-loop-i.type_inv c.if-word.true

pub loop-i-preserved : goal.loop-i-preserved
loop-i-preserved c =
    let i = c.loop-i.i in
    let more = agree-more (rows c.args.a) (rows c.args.b) (64 * i) c.word.result c.word-in-loop-i.result c.word.ensures c.word-in-loop-i.ensures c.loop-i.invariant c.if-word.false in
    subst (Agree (rows c.args.a) (rows c.args.b)) (let e : 64 * i + 64 ≡ 64 * (i + 1) = omega arith in e) more

pub returns : goal.returns
returns c = agree-all (rows c.args.a) (rows c.args.b) (64 * c.loop-i.i) (omega (arith, c.len-n.ensures, c.len.ensures, c.if-len-n.false)) (omega (arith, c.len-n.ensures, c.div_ceil-i-end.ensures)) c.loop-i.invariant
