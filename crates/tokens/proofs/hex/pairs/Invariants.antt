use Rattle.std.proofs.Common.{◌≡◌, drop, vec_items}
use Rattle.tokens.specs.Words.{hex_bytes}
use Rattle.tokens.proofs.Lists.{prepended}
use Rattle.tokens.proofs.Pairs.{pair_bytes}
use Rattle.tokens.proofs.hex.pairs.Given as goal

abbrev pub invariant-loop-high : goal.invariant-loop-high
invariant-loop-high l = prepended (vec_items l.found) (pair_bytes (drop l.high-index l.pairs)) ≡ hex_bytes l.word
