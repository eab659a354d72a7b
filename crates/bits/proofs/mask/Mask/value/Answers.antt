use Rattle.std.proofs.Common.{◌≡◌, ℕ, ◌+◌, ◌<◌, ◌≤◌, Bool, false, ltb, Some, None, sym, ap, ◌∙◌, arith}
use Rattle.std.proofs.lemmas.Bool.{cond-true, cond-false, lt-ltb, le-ltb}
use Rattle.bits.specs.Bits.{row_at, rows_of}
use Rattle.bits.specs.Masks.{value_at}
use Rattle.bits.proofs.RowLaws.{rows_at, length-rows}
use Rattle.bits.proofs.mask.Mask.value.Goals as goal

has : (f : ℕ → Bool) (a n i : ℕ) → i < n → value_at (rows_of f a n) i ≡ Some (f (a + i))
has f a n i h =
    cond-true _ _ _ (ap (ltb i) (length-rows f a n) ∙ lt-ltb i n h) ∙ ap Some (rows_at f a n i false h)

hasnt : (f : ℕ → Bool) (a n i : ℕ) → n ≤ i → value_at (rows_of f a n) i ≡ None
hasnt f a n i h = cond-false _ _ _ (ap (ltb i) (length-rows f a n) ∙ le-ltb i n h)

pub returns-then-i-self : goal.returns-then-i-self
returns-then-i-self c =
    let m = c.args.self.now in
    ap Some c.bit_at.ensures ∙ sym (has (row_at m.bytes.now) m.offset m.len c.args.i (omega arith))

pub returns : goal.returns
returns c = let m = c.args.self.now in sym (hasnt (row_at m.bytes.now) m.offset m.len c.args.i (omega arith))
