-- A word of rows after rows, out of words of both. Assumes nothing.
use Rattle.std.proofs.Common.{◌≡◌, ℕ, ◌+◌, ◌-◌, ◌*◌, ◌%◌, ◌^◌, ◌<◌, ◌≤◌, Bool, false, ◌⊎◌, List, ◌++◌, length, sym, refl, ap, ◌∙◌, ap₂, inl, inr, arith, pow_pos}
use Rattle.std.proofs.lemmas.List.{get_or_append_left, get_or-append_right}
use Rattle.std.proofs.lemmas.Bool.{cases_lt}
use Rattle.rows.specs.Said.{Selects}
use Rattle.bits.specs.Bits.{digit, bit_at}
use Rattle.bits.proofs.Digits.{digit_low, digit-over, bit-same}
use Rattle.words.proofs.WordLaws.{Reads}

-- `v << n`
shift-over : (v n k : ℕ) → n ≤ k → k < 64 → bit_at (v * 2 ^ n % 2 ^ 64) k ≡ bit_at v (k - n)
shift-over v n k h l =
    bit-same (v * 2 ^ n % 2 ^ 64) v k (k - n)
    (digit_low (v * 2 ^ n) 64 k l ∙ ap₂ digit (let e : v * 2 ^ n ≡ v * 2 ^ n + 0 = omega arith in e) (let e : k ≡ n + (k - n) = omega arith in e) ∙ digit-over v n 0 (k - n) (pow_pos n))

module _ (xs ys : List Bool) (at : ℕ) where
  before : (i : ℕ) → i < length xs → Selects (xs ++ ys) i ≡ Selects xs i
  before i h = get_or_append_left xs ys false i h

  after : (i : ℕ) → length xs ≤ i → Selects (xs ++ ys) i ≡ Selects ys (i - length xs)
  after i h = get_or-append_right xs ys (length xs) i false refl h

  -- n rows of the first, and after them the second's
  pub joined-part : (r w v n : ℕ) → n ≡ length xs - at → at < length xs → Reads xs at w → Reads ys 0 v → ((k : ℕ) → k < n → bit_at r k ≡ bit_at w k) → ((k : ℕ) → n ≤ k → bit_at r k ≡ bit_at (v * 2 ^ n % 2 ^ 64) k) → Reads (xs ++ ys) at r
  joined-part r w v n e inside first second under over k l = go (cases_lt k n)
    where
      go : (k < n) ⊎ (n ≤ k) → bit_at r k ≡ Selects (xs ++ ys) (at + k)
      go (inl t) = under k t ∙ first k l ∙ sym (before (at + k) (omega arith))
      go (inr t) =
          over k t ∙ shift-over v n k t l ∙ second (k - n) (omega arith)
          ∙ ap (Selects ys) (let d : 0 + (k - n) ≡ at + k - length xs = omega arith in d) ∙ sym (after (at + k) (omega arith))
