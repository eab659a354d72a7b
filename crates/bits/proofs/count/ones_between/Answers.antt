use Rattle.std.proofs.Common.{ℕ, ◌/◌, ◌%◌, ◌^◌, ap, ◌∙◌, arith}
use lib.Count.{ones}
use Rattle.std.proofs.lemmas.Nat.{one_shl}
use Rattle.bits.proofs.Words.{ones-part}
use Rattle.bits.proofs.count.ones_between.Goals as goal

pub returns : goal.returns
returns c =
    ap (λ (x : ℕ). ones (c.args.b % x / 2 ^ c.args.from)) (one_shl c.args.to 64 (omega arith))
    ∙ ones-part c.args.b c.args.from c.args.to (omega arith)
