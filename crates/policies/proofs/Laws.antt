-- From marks to rows, and from words to bits. Assumes nothing.
use mathlib.Core.Path.{◌≡◌, refl, ap, ap₂, ◌∙◌}
use mathlib.Core.Bool.{Bool, ◌&&◌, ◌||◌}
use mathlib.Core.List.{List, [], ◌∷◌}
use Prim.Native.Nat.{ℕ, zero, suc, ◌/◌, ◌%◌, ◌^◌, ◌<◌, min, max}
use native.Mathlib.Omega.{arith}
use lib.Bits.{bit_and, bit_or, and_shr, or_shr, and_step, or_step}
use lib.Dec.{eqb}
use Rattle.rows.specs.Rules.{combine}
use Rattle.bits.specs.Bits.{digit, bit_at}

module _ (f : Bool → Bool → Bool) where
  pub combine-assoc : ((x y z : Bool) → f (f x y) z ≡ f x (f y z)) → (xs ys zs : List Bool) → combine f (combine f xs ys) zs ≡ combine f xs (combine f ys zs)
  combine-assoc a [] ys zs = refl
  combine-assoc a (x ∷ xs) [] zs = refl
  combine-assoc a (x ∷ xs) (y ∷ ys) [] = refl
  combine-assoc a (x ∷ xs) (y ∷ ys) (z ∷ zs) = ap₂ (λ (m : Bool) (l : List Bool). m ∷ l) (a x y z) (combine-assoc a xs ys zs)

  pub combine-comm : ((x y : Bool) → f x y ≡ f y x) → (xs ys : List Bool) → combine f xs ys ≡ combine f ys xs
  combine-comm c [] [] = refl
  combine-comm c [] (y ∷ ys) = refl
  combine-comm c (x ∷ xs) [] = refl
  combine-comm c (x ∷ xs) (y ∷ ys) = ap₂ (λ (m : Bool) (l : List Bool). m ∷ l) (c x y) (combine-comm c xs ys)

  pub combine-idem : ((x : Bool) → f x x ≡ x) → (xs : List Bool) → combine f xs xs ≡ xs
  combine-idem d [] = refl
  combine-idem d (x ∷ xs) = ap₂ (λ (m : Bool) (l : List Bool). m ∷ l) (d x) (combine-idem d xs)

-- the lowest bit of `a & b` and of `a | b`
and_low : (a b : ℕ) → bit_and a b % 2 ≡ min (a % 2) (b % 2)
and_low a b = omega (arith, and_step a b)

or-low : (a b : ℕ) → bit_or a b % 2 ≡ max (a % 2) (b % 2)
or-low a b = omega (arith, or_step a b)

min-one : (x y : ℕ) → x < 2 → y < 2 → eqb (min x y) 1 ≡ (eqb x 1 && eqb y 1)
min-one zero zero h k = refl
min-one zero (suc zero) h k = refl
min-one zero (suc (suc y)) h k = absurd (omega arith)
min-one (suc zero) zero h k = refl
min-one (suc zero) (suc zero) h k = refl
min-one (suc zero) (suc (suc y)) h k = absurd (omega arith)
min-one (suc (suc x)) y h k = absurd (omega arith)

max-one : (x y : ℕ) → x < 2 → y < 2 → eqb (max x y) 1 ≡ (eqb x 1 || eqb y 1)
max-one zero zero h k = refl
max-one zero (suc zero) h k = refl
max-one zero (suc (suc y)) h k = absurd (omega arith)
max-one (suc zero) zero h k = refl
max-one (suc zero) (suc zero) h k = refl
max-one (suc zero) (suc (suc y)) h k = absurd (omega arith)
max-one (suc (suc x)) y h k = absurd (omega arith)

pub bit-and : (a b k : ℕ) → bit_at (bit_and a b) k ≡ (bit_at a k && bit_at b k)
unfolding bit_at digit
bit-and a b k =
    ap (λ (n : ℕ). eqb (n % 2) 1) (and_shr a b k) ∙ ap (λ (n : ℕ). eqb n 1) (and_low (a / 2 ^ k) (b / 2 ^ k))
    ∙ min-one (a / 2 ^ k % 2) (b / 2 ^ k % 2) (omega arith) (omega arith)

pub bit-or : (a b k : ℕ) → bit_at (bit_or a b) k ≡ (bit_at a k || bit_at b k)
unfolding bit_at digit
bit-or a b k =
    ap (λ (n : ℕ). eqb (n % 2) 1) (or_shr a b k) ∙ ap (λ (n : ℕ). eqb n 1) (or-low (a / 2 ^ k) (b / 2 ^ k))
    ∙ max-one (a / 2 ^ k % 2) (b / 2 ^ k % 2) (omega arith) (omega arith)
