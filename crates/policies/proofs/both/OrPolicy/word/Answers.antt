use Rattle.policies.proofs.Laws.{bit-or}
use Rattle.policies.proofs.both.OrPolicy.word.Goals as goal

pub returns : goal.returns
returns c k h = bit-or c.args.a c.args.b k
