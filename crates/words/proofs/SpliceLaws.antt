-- Laws of a word that has the low bits of one word and the high bits of another. Assumes nothing.
use Rattle.std.proofs.Common.{◌≡◌, ℕ, ◌+◌, ◌-◌, ◌*◌, ◌/◌, ◌%◌, ◌^◌, ◌<◌, ◌≤◌, sym, ap, ◌∙◌, subst, ap₂, mod-lt, arith, pow_pos, pow-add, shl_exact, shr_lt}
use lib.Arith.{digits_lt}
use Rattle.std.proofs.lemmas.Nat.{one_shl}
use Rattle.bits.specs.Bits.{digit, bit_at}
use Rattle.bits.proofs.Digits.{digit-under, digit-over, digit_low, digit-shr, bit-same}

-- `((h >> n) << n) + l % (1 << n)`
abbrev pub spliced : ℕ → ℕ → ℕ → ℕ
spliced l h n = h / 2 ^ n * 2 ^ n % 2 ^ 64 + l % (1 * 2 ^ n % 2 ^ 64)

module _ (l h n : ℕ) (fits : h < 2 ^ 64) (few : n < 64) where
  rest_lt : h / 2 ^ n < 2 ^ (64 - n)
  rest_lt = shr_lt (64 - n) n (subst (λ (x : ℕ). h < 2 ^ x) (let e : 64 ≡ 64 - n + n = omega arith in e) fits)

  low-lt : l % 2 ^ n < 2 ^ n
  low-lt = mod-lt l (pow_pos n)

  parts : spliced l h n ≡ h / 2 ^ n * 2 ^ n + l % 2 ^ n
  parts = ap₂ (λ (x y : ℕ). x + l % y) (shl_exact (64 - n) n 64 rest_lt (omega arith)) (one_shl n 64 few)

  pub splice-fits : spliced l h n < 2 ^ 64
  splice-fits =
      subst (λ (x : ℕ). x < 2 ^ 64) (sym parts)
      (subst (λ (x : ℕ). h / 2 ^ n * 2 ^ n + l % 2 ^ n < x) (sym (pow-add 2 (64 - n) n) ∙ ap (λ (x : ℕ). 2 ^ x) (let e : 64 - n + n ≡ 64 = omega arith in e)) (digits_lt rest_lt low-lt))

  pub splice-under : (k : ℕ) → k < n → bit_at (spliced l h n) k ≡ bit_at l k
  splice-under k t = bit-same (spliced l h n) l k k (ap (λ (x : ℕ). digit x k) parts ∙ digit-under (h / 2 ^ n) n (l % 2 ^ n) k low-lt t ∙ digit_low l n k t)

  pub splice-over : (k : ℕ) → n ≤ k → bit_at (spliced l h n) k ≡ bit_at h k
  splice-over k t =
      let e : k ≡ n + (k - n) = omega arith in
      bit-same (spliced l h n) h k k
      (ap₂ digit parts e ∙ digit-over (h / 2 ^ n) n (l % 2 ^ n) (k - n) low-lt ∙ digit-shr h n (k - n) ∙ ap (digit h) (sym e))
