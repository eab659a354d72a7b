use Rattle.policies.proofs.Laws.{bit-and}
use Rattle.policies.proofs.both.AndPolicy.word.Goals as goal

pub returns : goal.returns
returns c k h = bit-and c.args.a c.args.b k
