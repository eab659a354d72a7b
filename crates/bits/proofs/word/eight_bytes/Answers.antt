use Rattle.std.proofs.Common.{◌+◌, ◌-◌, get_or, take, drop, ap, ◌∙◌, arith, get_or-drop}
use Rattle.std.proofs.lemmas.List.{get_or-take}
use Rattle.bits.proofs.Words.{word-rows}
use Rattle.bits.proofs.word.eight_bytes.Goals as goal

pub returns-in-Some-first_chunk : goal.returns-in-Some-first_chunk
returns-in-Some-first_chunk c =
    let bytes = c.args.bytes.now in
    let i = c.args.i in
    word-rows bytes c.in-Some-first_chunk.eight.now i c.from_le_bytes.result (λ j. omega (arith, c.type_inv.bytes j))
    (λ j h. ap (λ xs. get_or xs j 0) (c.in-Some-first_chunk.ensures.cases.same ∙ ap (take 8) c.in-Some.ensures.lookup.0.2)
    ∙ get_or-take 8 (take (i + 8 - i) (drop i bytes)) j 0 h ∙ get_or-take (i + 8 - i) (drop i bytes) j 0 (omega arith) ∙ get_or-drop i bytes j 0)
    c.from_le_bytes.ensures
