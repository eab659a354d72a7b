use Rattle.std.proofs.Common.{◌≡◌, ◌*◌, take}
use Rattle.masks.specs.Written.{written, Untouched}
use Rattle.words.proofs.sink.MaskPlaceWordSink.take_words.Given as goal

abbrev pub invariant-loop-i : goal.invariant-loop-i
invariant-loop-i g l = (l.self.len ≡ 64 * l.i) × (written l.self ≡ take (64 * l.i) (g.W.WordRows.rows l.from)) × Untouched l.initial.self l.self
