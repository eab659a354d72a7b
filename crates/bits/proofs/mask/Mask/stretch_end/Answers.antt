use Rattle.std.proofs.Common.{◌≡◌, ℕ, ◌+◌, ◌*◌, ◌<◌, ap, ◌∙◌, arith}
use Rattle.bits.specs.Bits.{row_at}
use Rattle.bits.proofs.RowLaws.{run_more}
use Rattle.bits.proofs.Words.{row_word}
use Rattle.bits.proofs.WalkLaws.{stretch-is}
use Rattle.bits.proofs.mask.Mask.stretch_end.Goals as goal

pub returns-then-n-lt64-clause-stretch : goal.returns-then-n-lt64-clause-stretch
returns-then-n-lt64-clause-stretch c =
    let m = c.args.self.now in
    let f = row_at m.bytes.now in
    let q = m.offset + (c.args.from + 64 * c.loop-i.i) in
    let n = c.same_bits-n.result in
    let at : (k : ℕ) → k < 64 → f (q + k) ≡ _ = λ k h. row_word m.bytes.now q c.word_at.result 64 k c.word_at.ensures h in
    stretch-is f c.args.set m.offset m.len c.args.from c.min.result (omega arith) (omega arith)
    (λ k l h. run_more f c.args.set (m.offset + c.args.from) q n c.loop-i.invariant (λ j i. at j (omega arith) ∙ c.same_bits-n.ensures.alike j i) k l (omega arith))
    (λ h. ap f (let e : m.offset + c.min.result ≡ q + n = omega arith in e) ∙ at n (omega arith) ∙ c.same_bits-n.ensures.stops (omega arith))

pub loop-i-preserved : goal.loop-i-preserved
loop-i-preserved c k l h =
    let m = c.args.self.now in
    let q = m.offset + (c.args.from + 64 * c.loop-i.i) in
    run_more (row_at m.bytes.now) c.args.set (m.offset + c.args.from) q 64 c.loop-i.invariant
    (λ j i. row_word m.bytes.now q c.word_at.result 64 j c.word_at.ensures i ∙ c.same_bits-n.ensures.alike j (omega arith)) k l (omega arith)

pub returns-clause-stretch : goal.returns-clause-stretch
returns-clause-stretch c =
    let m = c.args.self.now in
    stretch-is (row_at m.bytes.now) c.args.set m.offset m.len c.args.from m.len (omega arith) (omega arith)
    (λ k l h. c.loop-i.invariant k l (omega arith))
    (λ h. absurd (omega arith))
