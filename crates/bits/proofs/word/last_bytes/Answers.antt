use Rattle.std.proofs.Common.{◌≡◌, ℕ, ◌+◌, get_or, drop, ap, ◌∙◌, arith, get_or-drop}
use Rattle.bits.proofs.Words.{word-rows}
use Rattle.bits.proofs.word.last_bytes.Goals as goal

pub returns : goal.returns
returns c =
    let bytes = c.args.bytes.now in
    let i = c.args.i in
    let at : (j : ℕ) → get_or (drop i bytes) j 0 ≡ get_or bytes (i + j) 0 = λ j. get_or-drop i bytes j 0 in
    let first : get_or (drop i bytes) 0 0 ≡ get_or bytes i 0 = at 0 ∙ ap (λ (k : ℕ). get_or bytes k 0) (let e : i + 0 ≡ i = omega arith in e) in
    word-rows bytes (drop i bytes) i c.from_le_bytes.result (λ j. omega (arith, c.type_inv.bytes j)) (λ j h. at j)
    (omega (arith, first, at 1, at 2, at 3, at 4, at 5, at 6, at 7))
