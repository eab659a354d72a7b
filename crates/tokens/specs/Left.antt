-- The words that a walk through a line has left.
use Rattle.std.specs.Prelude.{List, []}
use Rattle.std.specs.Option.{option_map_or}
use Rattle.tokens.specs.declared.words.Words.{Words}
use Rattle.tokens.specs.Words.{Word, words_of}

abbrev pub left : Words → List Word
left w = option_map_or (λ rest. words_of rest.now) w.rest []
