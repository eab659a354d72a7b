use Rattle.std.proofs.Common.{not, sym, ap, ◌∙◌, arith}
use Rattle.std.specs.Int.{w64, trailing_zeros, trailing_ones}
use Rattle.bits.specs.Bits.{bit_at}
use Rattle.bits.proofs.Digits.{zeros-alike, zeros-end, ones-alike, ones-end, bit-clear, bit-set}
use Rattle.bits.proofs.word.same_bits.Goals as goal
use Rattle.bits.proofs.word.same_bits.Goals.{then-set, else-set}

pub returns-clause-alike : goal.returns-clause-alike
returns-clause-alike c k h =
    let w = c.args.w in
    elim c.if-set.branch [
      | then-set b ↦ bit-set w k (ones-alike w k (omega arith) (omega (arith, b.same-is, b.trailing_ones-same.ensures))) ∙ sym b.if-set.true
      | else-set b ↦ bit-clear w k (zeros-alike w k (omega arith) (omega (arith, b.same-is))) ∙ sym b.if-set.false
    ]

pub returns-clause-stops : goal.returns-clause-stops
returns-clause-stops c h =
    let w = c.args.w in
    elim c.if-set.branch [
      | then-set b ↦
          let e = b.same-is ∙ b.trailing_ones-same.ensures in
          ap (bit_at w) e ∙ bit-clear w (trailing_ones w64 w) (ones-end w (omega arith) (omega (arith, e))) ∙ ap not (sym b.if-set.true)
      | else-set b ↦
          ap (bit_at w) b.same-is ∙ bit-set w (trailing_zeros w64 w) (zeros-end w (omega arith) (omega (arith, b.same-is))) ∙ ap not (sym b.if-set.false)
    ]
