-- A word of two selections combined, out of a word of each. Assumes nothing.
use Rattle.std.proofs.Common.{◌≡◌, ℕ, ◌+◌, ◌-◌, ◌<◌, ◌≤◌, min, Bool, ◌⊎◌, List, length, sym, ap, ◌∙◌, ap₂, inl, inr, arith}
use Rattle.std.proofs.lemmas.Bool.{cases_lt}
use Rattle.rows.specs.Rules.{combine}
use Rattle.rows.specs.Said.{Selects}
use Rattle.rows.proofs.Rules.{row-by-row}
use Rattle.bits.specs.Bits.{bit_at}
use Rattle.words.proofs.WordLaws.{Reads}

module _ (f : Bool → Bool → Bool) (xs ys : List Bool) (at x y w : ℕ) (first : Reads xs at x) (second : Reads ys at y) (joint : (k : ℕ) → k < 64 → bit_at w k ≡ f (bit_at x k) (bit_at y k)) where
  both-bit : (k : ℕ) → k < 64 → at + k < length xs → at + k < length ys → bit_at w k ≡ Selects (combine f xs ys) (at + k)
  both-bit k h i j = joint k h ∙ ap₂ f (first k h) (second k h) ∙ sym ((row-by-row f xs ys).both (at + k) i j)

  -- both have all rows of the word
  pub combined-whole : at + 64 ≤ length xs → at + 64 ≤ length ys → Reads (combine f xs ys) at w
  combined-whole i j k h = both-bit k h (omega arith) (omega arith)

  -- both have the first n rows of it, and v is a word of the longer
  module _ (r v n : ℕ) (shorter : n ≡ min (length xs) (length ys) - at) (under : (k : ℕ) → k < n → bit_at r k ≡ bit_at w k) (over : (k : ℕ) → n ≤ k → bit_at r k ≡ bit_at v k) where
    pub combined-part : (length ys < length xs → v ≡ x) → (length xs ≤ length ys → v ≡ y) → Reads (combine f xs ys) at r
    combined-part isx isy k h = go (cases_lt k n) (cases_lt (length ys) (length xs))
      where
        go : (k < n) ⊎ (n ≤ k) → (length ys < length xs) ⊎ (length xs ≤ length ys) → bit_at r k ≡ Selects (combine f xs ys) (at + k)
        go (inl t) u = under k t ∙ both-bit k h (omega arith) (omega arith)
        go (inr t) (inl u) = over k t ∙ ap (λ m. bit_at m k) (isx u) ∙ first k h ∙ sym ((row-by-row f xs ys).first (at + k) (omega arith))
        go (inr t) (inr u) = over k t ∙ ap (λ m. bit_at m k) (isy u) ∙ second k h ∙ sym ((row-by-row f xs ys).second (at + k) (omega arith))
