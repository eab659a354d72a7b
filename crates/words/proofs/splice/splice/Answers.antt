use Rattle.std.proofs.Common.{arith}
use Rattle.words.proofs.SpliceLaws.{splice-fits, splice-under, splice-over}
use Rattle.words.proofs.splice.splice.Goals as goal

pub overflow_add-result : goal.overflow_add-result
overflow_add-result c = omega (arith, splice-fits c.args.low c.args.high c.args.n (omega arith) c.requires)

pub returns : goal.returns
returns c = record {
  under = splice-under c.args.low c.args.high c.args.n (omega arith) c.requires;
  over = splice-over c.args.low c.args.high c.args.n (omega arith) c.requires;
}
