use Rattle.std.proofs.Common.{arith}
use Rattle.words.specs.Shown.{few-rows}
use Rattle.words.proofs.join.join_masks.Goals as goal

pub overflow_add-len : goal.overflow_add-len
overflow_add-len g c = omega (arith, c.len.ensures, c.len-2.ensures, few-rows c.args.first, few-rows c.args.second)
