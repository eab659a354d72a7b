use Rattle.std.proofs.Common.{◌≡◌, drop, vec_items}
use Rattle.scripts.specs.Args.{with_args, head_of}
use Rattle.tokens.specs.Left.{left}
use Rattle.scripts.proofs.head.head.Given as goal

abbrev pub invariant-loop-kind : goal.invariant-loop-kind
invariant-loop-kind l = with_args (vec_items l.args) (head_of (drop l.kind-index l.kinds) (left l.words)) ≡ head_of l.kinds (left l.initial.words)
