-- Laws of a number's binary digits. Assumes nothing.
use Rattle.std.proofs.Common.{◌≡◌, ℕ, zero, suc, ◌+◌, ◌-◌, ◌*◌, ◌/◌, ◌%◌, ◌^◌, ◌<◌, ◌≤◌, max, true, false, eqb, ◌⊎◌, sym, refl, ap, ◌∙◌, subst, ap₂, inl, inr, add-zero, mod-lt, zero-lt-suc, mul_assoc, add_comm, pow-suc, arith, pow_pos, pow-add, shl_exact, shr-shr}
use lib.Arith.{digits_lt}
use Rattle.std.proofs.lemmas.Nat.{one_shl, trailing_le}
use Rattle.std.proofs.lemmas.Nat.Bits.{bit_at-zero, bit_at_or, bit_at_not, bit_at_ones, bit_at_above, bit_at_cat_low, bit_at_cat_high, bit_at-trailing_zeros}
use lib.Bits.{bit_or}
use lib.Count.{count_trailing_zeros}
use Rattle.std.specs.Int.{w64, bit_not, trailing_zeros, trailing_ones}
use lib.Pow.{ones_lt, field, mod-mod-pow, high}
use Rattle.std.proofs.lemmas.Bool.{cases_lt}
use Rattle.bits.specs.Bits.{digit, bit_at}

pub digit_lt : (n k : ℕ) → digit n k < 2
unfolding digit
digit_lt n k = mod-lt (n / 2 ^ k) (zero-lt-suc 1)

-- `n >> j`
pub digit-shr : (n j k : ℕ) → digit (n / 2 ^ j) k ≡ digit n (j + k)
unfolding digit
digit-shr n j k = ap (λ (x : ℕ). x % 2) (shr-shr n j k)

-- the j low digits
low_parts : (n i k : ℕ) → digit (n % 2 ^ (suc i + k)) k ≡ digit n k
unfolding digit
low_parts n i k =
    ap (λ (x : ℕ). x % 2) (field n (suc i) k)
    ∙ ap (λ (x : ℕ). n / 2 ^ k % 2 ^ x % 2) (let e : suc i ≡ i + 1 = omega arith in e)
    ∙ mod-mod-pow (n / 2 ^ k) i 1

pub digit_low : (n j k : ℕ) → k < j → digit (n % 2 ^ j) k ≡ digit n k
digit_low n j k h =
    ap (λ (x : ℕ). digit (n % 2 ^ x) k) (let e : j ≡ suc (j - suc k) + k = omega arith in e) ∙ low_parts n (j - suc k) k

-- `a` above, and j digits `r` below
pub digit-under : (a j r k : ℕ) → r < 2 ^ j → k < j → digit (a * 2 ^ j + r) k ≡ digit r k
unfolding digit
digit-under a j r k h l = bit_at_cat_low a j r k l

pub digit-over : (a j r k : ℕ) → r < 2 ^ j → digit (a * 2 ^ j + r) (j + k) ≡ digit a k
unfolding digit
digit-over a j r k h = bit_at_cat_high a j r (j + k) h (omega arith) ∙ ap (digit a) (let e : j + k - j ≡ k = omega arith in e)

-- past a number's length
pub digit-past : (n j k : ℕ) → n < 2 ^ j → j ≤ k → digit n k ≡ 0
unfolding digit
digit-past n j k h l = bit_at_above n j k h l

-- `a | b`
digit_or : (a b k : ℕ) → digit (bit_or a b) k ≡ max (digit a k) (digit b k)
unfolding digit
digit_or a b k = bit_at_or a b k

pub bit-same : (m n j k : ℕ) → digit m j ≡ digit n k → bit_at m j ≡ bit_at n k
unfolding bit_at
bit-same m n j k e = ap (λ (x : ℕ). eqb x 1) e

-- ---- n bytes as one number, the first byte lowest
abbrev pub le_of : (ℕ → ℕ) → ℕ → ℕ
le_of f zero = 0
le_of f (suc n) = le_of (λ j. f (suc j)) n * 2 ^ 8 + f 0

abbrev pub Bytes : (ℕ → ℕ) → ℕ → Type 0
Bytes f zero = Unit {0}
Bytes f (suc n) = (f 0 < 256) × Bytes (λ j. f (suc j)) n

pub bytes-all : (n : ℕ) (f : ℕ → ℕ) → ((j : ℕ) → f j < 256) → Bytes f n
bytes-all zero f h = tt
bytes-all (suc n) f h = (h 0, bytes-all n (λ j. f (suc j)) (λ j. h (suc j)))

pub le-digit : (n : ℕ) (f : ℕ → ℕ) → Bytes f n → (p : ℕ) → p < 8 * n → digit (le_of f n) p ≡ digit (f (p / 8)) (p % 8)
le-digit zero f h p l = absurd (omega arith)
le-digit (suc n) f h p l = go (le-digit n (λ j. f (suc j)) h.1) (cases_lt p 8)
  where
    go : ((q : ℕ) → q < 8 * n → digit (le_of (λ j. f (suc j)) n) q ≡ digit (f (suc (q / 8))) (q % 8))
        → (p < 8) ⊎ (8 ≤ p) → digit (le_of (λ j. f (suc j)) n * 2 ^ 8 + f 0) p ≡ digit (f (p / 8)) (p % 8)
    go ih (inl k) =
        digit-under (le_of (λ j. f (suc j)) n) 8 (f 0) p h.0 k
        ∙ ap₂ (λ (x y : ℕ). digit (f x) y) (let e : 0 ≡ p / 8 = omega arith in e) (let e : p ≡ p % 8 = omega arith in e)
    go ih (inr k) =
        ap (digit (le_of (λ j. f (suc j)) n * 2 ^ 8 + f 0)) (let e : p ≡ 8 + (p - 8) = omega arith in e)
        ∙ digit-over (le_of (λ j. f (suc j)) n) 8 (f 0) (p - 8) h.0 ∙ ih (p - 8) (omega arith)
        ∙ ap₂ (λ (x y : ℕ). digit (f x) y) (let e : suc ((p - 8) / 8) ≡ p / 8 = omega arith in e)
        (let e : (p - 8) % 8 ≡ p % 8 = omega arith in e)

-- ---- 64 bits from bit `sh` on of a word and the byte above it: `(lo >> sh) | ((hi << 1) << (63 - sh))`
abbrev pub shifted : ℕ → ℕ → ℕ → ℕ
shifted lo hi sh = bit_or (lo / 2 ^ sh) ((hi * 2 ^ 1 % 2 ^ 64) * 2 ^ (63 - sh) % 2 ^ 64)

module _ (lo hi sh : ℕ) (hl : lo < 2 ^ 64) (hh : hi < 256) (hs : sh < 8) where
  above : (hi * 2 ^ 1 % 2 ^ 64) * 2 ^ (63 - sh) ≡ hi * 2 ^ (64 - sh) + 0
  above =
      ap (λ (x : ℕ). x * 2 ^ (63 - sh)) (shl_exact 8 1 64 hh (omega arith)) ∙ mul_assoc hi (2 ^ 1) (2 ^ (63 - sh))
      ∙ ap (λ (x : ℕ). hi * x) (sym (pow-add 2 1 (63 - sh)))
      ∙ ap (λ (x : ℕ). hi * 2 ^ x) (let e : 1 + (63 - sh) ≡ 64 - sh = omega arith in e)
      ∙ sym (add-zero (hi * 2 ^ (64 - sh)))

  top : (k : ℕ) → k < 64 → digit ((hi * 2 ^ 1 % 2 ^ 64) * 2 ^ (63 - sh) % 2 ^ 64) k ≡ digit (hi * 2 ^ (64 - sh) + 0) k
  top k h = digit_low ((hi * 2 ^ 1 % 2 ^ 64) * 2 ^ (63 - sh)) 64 k h ∙ ap (λ (x : ℕ). digit x k) above

  pub shifted-low : (k : ℕ) → sh + k < 64 → digit (shifted lo hi sh) k ≡ digit lo (sh + k)
  shifted-low k h =
      let none : digit (hi * 2 ^ (64 - sh) + 0) k ≡ digit 0 k = digit-under hi (64 - sh) 0 k (pow_pos (64 - sh)) (omega arith) in
      omega (
        arith,
        digit_or (lo / 2 ^ sh) ((hi * 2 ^ 1 % 2 ^ 64) * 2 ^ (63 - sh) % 2 ^ 64) k,
        digit-shr lo sh k,
        top k (omega arith),
        none,
        digit-past 0 0 k (omega arith) (omega arith),
      )

  pub shifted-high : (k : ℕ) → k < 64 → 64 ≤ sh + k → digit (shifted lo hi sh) k ≡ digit hi (sh + k - 64)
  shifted-high k l h =
      omega (
        arith,
        digit_or (lo / 2 ^ sh) ((hi * 2 ^ 1 % 2 ^ 64) * 2 ^ (63 - sh) % 2 ^ 64) k,
        digit-shr lo sh k,
        digit-past lo 64 (sh + k) hl h,
        top k l,
        ap (digit (hi * 2 ^ (64 - sh) + 0)) (let e : k ≡ (64 - sh) + (sh + k - 64) = omega arith in e)
            ∙ digit-over hi (64 - sh) 0 (sh + k - 64) (pow_pos (64 - sh)),
      )

-- ---- the low digits of a word that are alike
pub zeros-alike : (n k : ℕ) → n < 2 ^ 64 → k < trailing_zeros w64 n → digit n k ≡ 0
unfolding digit
zeros-alike zero k h l = bit_at-zero k
zeros-alike (suc n) k h l = (bit_at-trailing_zeros w64 (suc n) (omega arith) h).2 k l

pub zeros-end : (n : ℕ) → n < 2 ^ 64 → trailing_zeros w64 n < 64 → digit n (trailing_zeros w64 n) ≡ 1
unfolding digit count_trailing_zeros
zeros-end zero h l = absurd (let none : trailing_zeros w64 0 ≡ 64 = refl in omega (arith, none))
zeros-end (suc n) h l = (bit_at-trailing_zeros w64 (suc n) (omega arith) h).1

-- a digit, where that of `!n` is known
turned : (n k : ℕ) → n < 2 ^ 64 → k < 64 → digit (bit_not w64 n) k ≡ 1 - digit n k
unfolding digit
turned n k h l = bit_at_not w64 n k h l

pub ones-alike : (n k : ℕ) → n < 2 ^ 64 → k < trailing_ones w64 n → digit n k ≡ 1
ones-alike n k h l =
    let small : k < 64 = omega (arith, trailing_le 64 (bit_not w64 n)) in
    omega (arith, zeros-alike (bit_not w64 n) k (omega arith) l, turned n k h small, digit_lt n k)

pub ones-end : (n : ℕ) → n < 2 ^ 64 → trailing_ones w64 n < 64 → digit n (trailing_ones w64 n) ≡ 0
ones-end n h l = omega (arith, zeros-end (bit_not w64 n) (omega arith) l, turned n (trailing_ones w64 n) h l, digit_lt n (trailing_ones w64 n))

pub digit_ones : (n k : ℕ) → k < n → digit (2 ^ n - 1) k ≡ 1
unfolding digit
digit_ones n k h = bit_at_ones n k h

pub bit-clear : (n k : ℕ) → digit n k ≡ 0 → bit_at n k ≡ false
unfolding bit_at
bit-clear n k e = ap (λ (x : ℕ). eqb x 1) e

pub bit-set : (n k : ℕ) → digit n k ≡ 1 → bit_at n k ≡ true
unfolding bit_at
bit-set n k e = ap (λ (x : ℕ). eqb x 1) e

-- ---- m set bits above s bits: `b + (((1 << m) - 1) << s)`
abbrev pub filled : ℕ → ℕ → ℕ → ℕ
filled b s m = b + (1 * 2 ^ m % 2 ^ 64 - 1) * 2 ^ s % 2 ^ 64

pub filled_is : (b s m : ℕ) → s + m ≤ 8 → filled b s m ≡ (2 ^ m - 1) * 2 ^ s + b
filled_is b s m h =
    ap (λ (x : ℕ). b + (x - 1) * 2 ^ s % 2 ^ 64) (one_shl m 64 (omega arith)) ∙ ap (λ (x : ℕ). b + x) (shl_exact m s 64 (ones_lt m) (omega arith))
    ∙ add_comm b ((2 ^ m - 1) * 2 ^ s)

pub filled-lt : (b s m : ℕ) → b < 2 ^ s → (2 ^ m - 1) * 2 ^ s + b < 2 ^ (m + s)
filled-lt b s m h = subst (λ (x : ℕ). (2 ^ m - 1) * 2 ^ s + b < x) (sym (pow-add 2 m s)) (digits_lt (ones_lt m) h)

pub filled-under : (b s m k : ℕ) → b < 2 ^ s → k < s → digit ((2 ^ m - 1) * 2 ^ s + b) k ≡ digit b k
filled-under b s m k h l = digit-under (2 ^ m - 1) s b k h l

pub filled-over : (b s m k : ℕ) → b < 2 ^ s → s ≤ k → k < s + m → digit ((2 ^ m - 1) * 2 ^ s + b) k ≡ 1
filled-over b s m k h l t =
    ap (digit ((2 ^ m - 1) * 2 ^ s + b)) (let e : k ≡ s + (k - s) = omega arith in e) ∙ digit-over (2 ^ m - 1) s b (k - s) h ∙ digit_ones m (k - s) (omega arith)

-- ---- a number of m digits and no fewer has the last of them set
pub top_digit : (w j : ℕ) → 2 ^ j ≤ w → w < 2 ^ suc j → digit w j ≡ 1
unfolding digit
top_digit w j l h =
    let d : 2 ^ suc j ≡ 2 ^ j * 2 = pow-suc 2 j in
    ap (λ (x : ℕ). x / 2 ^ j % 2) (let e : w ≡ 1 * 2 ^ j + (w - 2 ^ j) = omega arith in e)
    ∙ ap (λ (x : ℕ). x % 2) (high 1 j (let r : w - 2 ^ j < 2 ^ j = omega arith in r))
