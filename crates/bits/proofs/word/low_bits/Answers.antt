use Rattle.std.proofs.Common.{ℕ, ◌%◌, ap, ◌∙◌, arith}
use Rattle.std.proofs.lemmas.Nat.{one_shl}
use Rattle.bits.specs.Bits.{word_rows}
use Rattle.bits.proofs.Words.{low_rows}
use Rattle.bits.proofs.word.low_bits.Goals as goal

pub returns-clause-rows : goal.returns-clause-rows
returns-clause-rows c =
    ap (λ (x : ℕ). word_rows (c.args.w % x) c.args.n) (one_shl c.args.n 64 (omega arith)) ∙ low_rows c.args.w c.args.n
