use Rattle.std.proofs.Common.{◌≡◌, ◌^◌, ◌<◌, drop}
use Rattle.tokens.specs.Words.{below, digits_after, number_of}
use Rattle.tokens.proofs.number.number.Given as goal

abbrev pub invariant-loop-b : goal.invariant-loop-b
invariant-loop-b l = (l.n < 2 ^ 64) × (below (2 ^ 64) (digits_after l.n (drop l.b-index l.word)) ≡ number_of l.word)
