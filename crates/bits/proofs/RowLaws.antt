-- Laws of lists of rows that a function of the place gives. Assumes nothing.
use Rattle.std.proofs.Common.{◌≡◌, ℕ, zero, suc, ◌+◌, ◌-◌, ◌<◌, ◌≤◌, min, Bool, true, false, cond, ◌⊎◌, List, [], ◌∷◌, ◌++◌, map, length, get_or, take, drop, replicate, sym, refl, ap, ◌∙◌, ap₂, inl, inr, arith}
use Rattle.std.specs.List.{range_with_len}
use Rattle.std.proofs.lemmas.List.FromFn.{length-map-range_with_len, get_or-map-range_with_len}
use Rattle.std.proofs.lemmas.Bool.{cases_lt}
use Rattle.rows.specs.Rows.{selected_count}
use Rattle.rows.proofs.Counts.{selected-append, selected-le}
use Rattle.bits.specs.Bits.{rows_of}

pub rows_ext : (f g : ℕ → Bool) (a b n : ℕ) → ((k : ℕ) → k < n → f (a + k) ≡ g (b + k)) → rows_of f a n ≡ rows_of g b n
unfolding rows_of
rows_ext f g a b zero h = refl
rows_ext f g a b (suc n) h =
    ap₂ (λ (x : Bool) (xs : List Bool). x ∷ xs)
    (ap f (let e : a ≡ a + 0 = omega arith in e) ∙ h 0 (omega arith) ∙ ap g (let e : b + 0 ≡ b = omega arith in e))
    (rows_ext f g (a + 1) (b + 1) n (λ k l.
    ap f (let e : a + 1 + k ≡ a + (1 + k) = omega arith in e) ∙ h (1 + k) (omega arith)
    ∙ ap g (let e : b + (1 + k) ≡ b + 1 + k = omega arith in e)))

pub rows_split : (f : ℕ → Bool) (a m n : ℕ) → rows_of f a (m + n) ≡ rows_of f a m ++ rows_of f (a + m) n
unfolding rows_of
rows_split f a zero n =
    ap₂ (λ (x y : ℕ). map f (range_with_len x y)) (let e : a ≡ a + 0 = omega arith in e) (let e : 0 + n ≡ n = omega arith in e)
rows_split f a (suc m) n =
    ap (λ (x : ℕ). map f (range_with_len a x)) (let e : suc m + n ≡ suc (m + n) = omega arith in e)
    ∙ ap (λ (xs : List Bool). f a ∷ xs)
    (rows_split f (a + 1) m n
    ∙ ap (λ (x : ℕ). map f (range_with_len (a + 1) m) ++ map f (range_with_len x n)) (let e : a + 1 + m ≡ a + suc m = omega arith in e))

-- the same, at the place q that the second part starts from and the number r of all
pub rows-parts : (f : ℕ → Bool) (a m n q r : ℕ) → a + m ≡ q → m + n ≡ r → rows_of f a r ≡ rows_of f a m ++ rows_of f q n
rows-parts f a m n q r e d =
    ap (rows_of f a) (sym d) ∙ rows_split f a m n ∙ ap (λ (x : ℕ). rows_of f a m ++ rows_of f x n) e

pub length-rows : (f : ℕ → Bool) (a n : ℕ) → length (rows_of f a n) ≡ n
unfolding rows_of
length-rows f a n = length-map-range_with_len f a n

pub rows_at : (f : ℕ → Bool) (a n k : ℕ) (d : Bool) → k < n → get_or (rows_of f a n) k d ≡ f (a + k)
unfolding rows_of
rows_at f a n k d h = get_or-map-range_with_len f a n k (a + k) d h refl

pub rows-point : (f g : ℕ → Bool) (a b n : ℕ) → rows_of f a n ≡ rows_of g b n → (k : ℕ) → k < n → f (a + k) ≡ g (b + k)
rows-point f g a b n e k h =
    sym (rows_at f a n k false h) ∙ ap (λ (xs : List Bool). get_or xs k false) e ∙ rows_at g b n k false h

-- the first m of n rows that agree
pub rows-front : (f g : ℕ → Bool) (a b m n : ℕ) → m ≤ n → rows_of f a n ≡ rows_of g b n → rows_of f a m ≡ rows_of g b m
rows-front f g a b m n l e = rows_ext f g a b m (λ k h. rows-point f g a b n e k (omega arith))

pub rows-nil : (f : ℕ → Bool) (a n : ℕ) → n ≡ 0 → rows_of f a n ≡ []
unfolding rows_of
rows-nil f a n e = ap (rows_of f a) e

-- rows after k dropped ones, and the first m of what is left
pub rows_drop : (f : ℕ → Bool) (a n k : ℕ) → k ≤ n → drop k (rows_of f a n) ≡ rows_of f (a + k) (n - k)
unfolding rows_of
rows_drop f a n zero h = ap₂ (rows_of f) (let e : a ≡ a + 0 = omega arith in e) (let e : n ≡ n - 0 = omega arith in e)
rows_drop f a zero (suc k) h = absurd (omega arith)
rows_drop f a (suc n) (suc k) h =
    rows_drop f (a + 1) n k (omega arith)
    ∙ ap₂ (rows_of f) (let e : a + 1 + k ≡ a + suc k = omega arith in e) (let e : n - k ≡ suc n - suc k = omega arith in e)

pub rows_take : (f : ℕ → Bool) (a n m : ℕ) → take m (rows_of f a n) ≡ rows_of f a (min m n)
unfolding rows_of
rows_take f a n zero = ap (rows_of f a) (let e : 0 ≡ min 0 n = omega arith in e)
rows_take f a zero (suc m) = ap (rows_of f a) (let e : 0 ≡ min (suc m) 0 = omega arith in e)
rows_take f a (suc n) (suc m) =
    ap (λ (xs : List Bool). f a ∷ xs) (rows_take f (a + 1) n m)
    ∙ ap (rows_of f a) (let e : suc (min m n) ≡ min (suc m) (suc n) = omega arith in e)

-- past the rows nothing is left to drop
rows-drop-past : (f : ℕ → Bool) (a n k : ℕ) → n ≤ k → drop k (rows_of f a n) ≡ []
unfolding rows_of
rows-drop-past f a zero zero h = refl
rows-drop-past f a zero (suc k) h = refl
rows-drop-past f a (suc n) zero h = absurd (omega arith)
rows-drop-past f a (suc n) (suc k) h = rows-drop-past f (a + 1) n k (omega arith)

-- m rows from row k on, clipped
pub rows-slice : (f : ℕ → Bool) (a n k m s l : ℕ) → s ≡ min k n → l ≡ min m (n - s) → rows_of f (a + s) l ≡ take m (drop k (rows_of f a n))
rows-slice f a n k m s l e d = sym (ap (take m) (dropped (cases_lt n k)) ∙ rows_take f (a + s) (n - s) m ∙ ap (rows_of f (a + s)) (sym d))
  where
    dropped : (n < k) ⊎ (k ≤ n) → drop k (rows_of f a n) ≡ rows_of f (a + s) (n - s)
    dropped (inl h) = rows-drop-past f a n k (omega arith) ∙ sym (rows-nil f (a + s) (n - s) (omega arith))
    dropped (inr h) = rows_drop f a n k h ∙ ap (λ (x : ℕ). rows_of f (a + x) (n - x)) (let x : k ≡ s = omega arith in x)

-- ---- counts

pub selected-cons : (b : Bool) (xs : List Bool) → selected_count (b ∷ xs) ≡ cond b 1 0 + selected_count xs
selected-cons true xs = omega arith
selected-cons false xs = omega arith

pub selected-none : (f : ℕ → Bool) (a n : ℕ) → n ≡ 0 → selected_count (rows_of f a n) ≡ 0
selected-none f a n e = ap selected_count (rows-nil f a n e)

pub selected-rows-le : (f : ℕ → Bool) (a n : ℕ) → selected_count (rows_of f a n) ≤ n
selected-rows-le f a n = omega (arith, selected-le (rows_of f a n), length-rows f a n)

-- one more stretch of n rows
pub selected-more : (f : ℕ → Bool) (a m n q r : ℕ) → a + m ≡ q → m + n ≡ r → selected_count (rows_of f a r) ≡ selected_count (rows_of f a m) + selected_count (rows_of f q n)
selected-more f a m n q r e d = ap selected_count (rows-parts f a m n q r e d) ∙ selected-append (rows_of f a m) (rows_of f q n)

-- ---- stretches of equal rows

pub rows_alike : (f : ℕ → Bool) (b : Bool) (a n : ℕ) → ((k : ℕ) → a ≤ k → k < a + n → f k ≡ b) → rows_of f a n ≡ replicate n b
unfolding rows_of
rows_alike f b a zero h = refl
rows_alike f b a (suc n) h =
    ap₂ (λ (x : Bool) (xs : List Bool). x ∷ xs) (h a (omega arith) (omega arith)) (rows_alike f b (a + 1) n (λ k l t. h k (omega arith) (omega arith)))

-- n rows more of one mark
pub run_more : (f : ℕ → Bool) (b : Bool) (p q n : ℕ) → ((k : ℕ) → p ≤ k → k < q → f k ≡ b) → ((k : ℕ) → k < n → f (q + k) ≡ b)
    → (k : ℕ) → p ≤ k → k < q + n → f k ≡ b
run_more f b p q n old more k l h = go (cases_lt k q)
  where
    go : (k < q) ⊎ (q ≤ k) → f k ≡ b
    go (inl t) = old k l t
    go (inr t) = ap f (let e : k ≡ q + (k - q) = omega arith in e) ∙ more (k - q) (omega arith)
