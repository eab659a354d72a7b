-- Rows are the same exactly where their words are. Assumes nothing.
use Rattle.std.proofs.Common.{◌≡◌, ℕ, zero, suc, ◌+◌, ◌-◌, ◌/◌, ◌%◌, ◌^◌, ◌<◌, ◌≤◌, Bool, false, eqb, ◌⊎◌, List, length, sym, refl, ap, ◌∙◌, subst, inl, inr, add-one, arith, shr_lt}
use Rattle.std.proofs.lemmas.List.{ext_get_or}
use Rattle.std.proofs.lemmas.Bool.{cases_lt, true≢false}
use Rattle.rows.specs.Said.{Selects}
use Rattle.bits.specs.Bits.{digit, bit_at}
use Rattle.bits.proofs.Digits.{digit_lt, digit-shr, bit-same}
use Rattle.words.proofs.WordLaws.{Reads}

digits_same : (x y : ℕ) → x < 2 → y < 2 → eqb x 1 ≡ eqb y 1 → x ≡ y
digits_same zero zero h k e = refl
digits_same zero (suc zero) h k e = absurd (true≢false (sym e))
digits_same zero (suc (suc y)) h k e = absurd (omega arith)
digits_same (suc zero) zero h k e = absurd (true≢false e)
digits_same (suc zero) (suc zero) h k e = refl
digits_same (suc zero) (suc (suc y)) h k e = absurd (omega arith)
digits_same (suc (suc x)) y h k e = absurd (omega arith)

first-digit : (w v : ℕ) → bit_at w 0 ≡ bit_at v 0 → w % 2 ≡ v % 2
unfolding bit_at digit
first-digit w v e =
    (let z : w % 2 ≡ w / 2 ^ 0 % 2 = omega arith in z) ∙ digits_same (w / 2 ^ 0 % 2) (v / 2 ^ 0 % 2) (digit_lt w 0) (digit_lt v 0) e ∙ (let z : v / 2 ^ 0 % 2 ≡ v % 2 = omega arith in z)

half : (w d : ℕ) → w < 2 ^ suc d → w / 2 < 2 ^ d
half w d h = shr_lt d 1 (subst (λ x. w < 2 ^ x) (sym (add-one d)) h)

half-bit : (w k : ℕ) → bit_at (w / 2) k ≡ bit_at w (1 + k)
half-bit w k = bit-same (w / 2) w k (1 + k) (digit-shr w 1 k)

-- numbers of d digits with the same bits
words_same : (d w v : ℕ) → w < 2 ^ d → v < 2 ^ d → ((k : ℕ) → k < d → bit_at w k ≡ bit_at v k) → w ≡ v
words_same zero w v h l e = omega arith
words_same (suc d) w v h l e =
    let low = first-digit w v (e 0 (omega arith)) in
    let high = words_same d (w / 2) (v / 2) (half w d h) (half v d l) (λ k t. half-bit w k ∙ e (1 + k) (omega arith) ∙ sym (half-bit v k)) in
    omega arith

-- rows that agree below a place
abbrev pub Agree : List Bool → List Bool → ℕ → Type 0
Agree xs ys n = (k : ℕ) → k < n → Selects xs k ≡ Selects ys k

module _ (xs ys : List Bool) (at w v : ℕ) (first : Reads xs at w) (second : Reads ys at v) where
  pub agree-more : Agree xs ys at → w ≡ v → Agree xs ys (at + 64)
  agree-more old e k h = go (cases_lt k at)
    where
      go : (k < at) ⊎ (at ≤ k) → Selects xs k ≡ Selects ys k
      go (inl t) = old k t
      go (inr t) =
          let d : k ≡ at + (k - at) = omega arith in
          ap (Selects xs) d ∙ sym (first (k - at) (omega arith)) ∙ ap (λ n. bit_at n (k - at)) e ∙ second (k - at) (omega arith) ∙ ap (Selects ys) (sym d)

  pub words-differ : w < 2 ^ 64 → v < 2 ^ 64 → (w ≡ v → ⊥) → xs ≡ ys → ⊥
  words-differ h l differ e = differ (words_same 64 w v h l (λ k t. first k t ∙ ap (λ zs. Selects zs (at + k)) e ∙ sym (second k t)))

pub agree-all : (xs ys : List Bool) (n : ℕ) → length xs ≡ length ys → length xs ≤ n → Agree xs ys n → xs ≡ ys
agree-all xs ys n e h agree = ext_get_or false xs ys e (λ k l. agree k (omega arith))
