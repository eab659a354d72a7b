use Rattle.std.proofs.Common.{◌/◌, ◌%◌, ap, ◌∙◌, arith}
use Rattle.std.specs.Option.{unwrap_or}
use Rattle.bits.proofs.Words.{shifted-rows}
use Rattle.bits.proofs.word.word_at.Goals as goal

pub returns : goal.returns
returns c =
    let p = c.args.p in
    shifted-rows c.args.bytes.now (p / 8) (p % 8) p c.eight_bytes-low.result c.unwrap_or-high.result
    (c.unwrap_or-high.ensures ∙ ap (λ x. unwrap_or x 0) c.copied.ensures ∙ c.get.ensures.lookup.4 (omega arith) 0)
    (omega arith) (omega arith) (omega arith) (omega arith) c.eight_bytes-low.ensures
