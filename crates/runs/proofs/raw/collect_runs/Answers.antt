use Rattle.std.proofs.Common.{arith}
use Rattle.runs.proofs.RawLaws.{all_fit}
use Rattle.runs.proofs.raw.collect_runs.Goals as goal

pub deliver-requires : goal.deliver-requires
deliver-requires g c = omega (arith, all_fit 0 c.args.raw.now (omega arith) (omega (arith, c.within_limit-n.ensures, c.if-n-raw.false)))
