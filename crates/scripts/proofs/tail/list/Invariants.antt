use Rattle.std.proofs.Common.{◌≡◌, length, vec_items}
use Rattle.tokens.specs.Left.{left}
use Rattle.tokens.proofs.Lists.{prepended}
use Rattle.scripts.proofs.tail.list.Given as goal

abbrev pub invariant-loop-first : goal.invariant-loop-first
invariant-loop-first g l = prepended (vec_items l.found) (g.T.Item.listed (left l.words)) ≡ g.T.Item.listed (left l.initial.words)

abbrev pub decreases-loop-first : goal.decreases-loop-first
decreases-loop-first g l = length (left l.words)
