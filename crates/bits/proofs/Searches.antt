-- Laws of the searches: leading stretches, trimmed ends and the n-th selected row. Assumes nothing.
use Rattle.std.proofs.Common.{◌≡◌, ℕ, zero, suc, ◌+◌, ◌-◌, ◌<◌, ◌≤◌, Bool, true, false, cond, not, List, [], ◌∷◌, ◌++◌, length, take, drop, replicate, eqb, Some, None, sym, refl, ap, ◌∙◌, ap₂, arith, take-append-drop}
use Rattle.std.proofs.lemmas.Bool.{true≢false, eqb-true}
use Rattle.rows.specs.Rows.{same, selected_count}
use Rattle.rows.specs.Said.{Selects}
use Rattle.rows.proofs.Counts.{selected-append}
use Rattle.rows.specs.Rules.{keep_front, trimmed, nth_end}
use Rattle.rows.specs.Chunks.{leading}
use Rattle.bits.specs.Bits.{bit_at, rows_of, word_rows}
use Rattle.bits.specs.Masks.{last_selected}
use Rattle.bits.proofs.RowLaws.{rows-parts, rows_alike, length-rows}

-- ---- how many rows at the start have one mark

same-same : (b : Bool) → same b b ≡ true
same-same true = refl
same-same false = refl

same_not : (b : Bool) → same b (not b) ≡ false
same_not true = refl
same_not false = refl

pub leading-is : (f : ℕ → Bool) (b : Bool) (a n k : ℕ) → k ≤ n → ((j : ℕ) → a ≤ j → j < a + k → f j ≡ b) → (k < n → f (a + k) ≡ not b) → leading b (rows_of f a n) ≡ k
unfolding rows_of
leading-is f b a zero zero l h s = refl
leading-is f b a zero (suc k) l h s = absurd (omega arith)
leading-is f b a (suc n) zero l h s =
    let e : f a ≡ not b = ap f (let d : a ≡ a + 0 = omega arith in d) ∙ s (omega arith) in
    ap (λ (x : Bool). cond x (suc (leading b (rows_of f (a + 1) n))) 0) (ap (same b) e ∙ same_not b)
leading-is f b a (suc n) (suc k) l h s =
    ap (λ (x : Bool). cond x (suc (leading b (rows_of f (a + 1) n))) 0) (ap (same b) (h a (omega arith) (omega arith)) ∙ same-same b)
    ∙ ap suc (leading-is f b (a + 1) n k (omega arith) (λ j i t. h j (omega arith) (omega arith))
    (λ t. ap f (let d : a + 1 + k ≡ a + suc k = omega arith in d) ∙ s (omega arith)))

-- ---- the rows up to the last selected one

keep-length : (b : Bool) (zs : List Bool) → 0 < length zs → length (keep_front b zs) ≡ suc (length zs)
keep-length true zs h = refl
keep-length false [] h = absurd (omega arith)
keep-length false (z ∷ zs) h = refl

keep-none : (zs : List Bool) → length zs ≡ 0 → length (keep_front false zs) ≡ 0
keep-none [] e = refl
keep-none (z ∷ zs) e = absurd (omega arith)

none-selected : (xs : List Bool) → ((k : ℕ) → Selects xs k ≡ false) → length (trimmed xs) ≡ 0
none-selected [] h = refl
none-selected (x ∷ xs) h = ap (λ (b : Bool). length (keep_front b (trimmed xs))) (h 0) ∙ keep-none (trimmed xs) (none-selected xs (λ k. h (suc k)))

last-row : (xs : List Bool) (i : ℕ) → Selects xs i ≡ true → ((k : ℕ) → i < k → Selects xs k ≡ false) → length (trimmed xs) ≡ suc i
last-row [] i h s = absurd (true≢false (sym h))
last-row (x ∷ xs) zero h s = ap (λ (b : Bool). length (keep_front b (trimmed xs))) h ∙ ap suc (none-selected xs (λ k. s (suc k) (omega arith)))
last-row (x ∷ xs) (suc i) h s =
    let ih : length (trimmed xs) ≡ suc i = last-row xs i h (λ k l. s (suc k) (omega arith)) in
    keep-length x (trimmed xs) (omega arith) ∙ ap suc ih

pub last-none : (xs : List Bool) → ((k : ℕ) → Selects xs k ≡ false) → last_selected xs ≡ None
last-none xs h = ap (λ (n : ℕ). cond (eqb n 0) None (Some (n - 1))) (none-selected xs h)

pub last-is : (xs : List Bool) (i : ℕ) → Selects xs i ≡ true → ((k : ℕ) → i < k → Selects xs k ≡ false) → last_selected xs ≡ Some i
last-is xs i h s = go (eqb (length (trimmed xs)) 0) refl
  where
    n : length (trimmed xs) ≡ suc i
    n = last-row xs i h s

    go : (b : Bool) → eqb (length (trimmed xs)) 0 ≡ b → last_selected xs ≡ Some i
    go true e = absurd (omega (arith, n, eqb-true (length (trimmed xs)) 0 e))
    go false e = ap (λ (b : Bool). cond b None (Some (length (trimmed xs) - 1))) e ∙ ap Some (omega (arith, n))

-- ---- the n-th selected row

-- rows with fewer than n selected are passed
nth-skip : (n : ℕ) (xs ys : List Bool) → selected_count xs < n → nth_end n (xs ++ ys) ≡ length xs + nth_end (n - selected_count xs) ys
nth-skip zero xs ys h = absurd (omega arith)
nth-skip (suc n) [] ys h = (let e : nth_end (suc n) ys ≡ 0 + nth_end (suc n) ys = omega arith in e) ∙ ap (λ (x : ℕ). 0 + nth_end x ys) (let d : suc n ≡ suc n - 0 = omega arith in d)
nth-skip (suc n) (true ∷ xs) ys h =
    let d : nth_end (n - selected_count xs) ys ≡ nth_end (suc n - suc (selected_count xs)) ys = ap (λ (x : ℕ). nth_end x ys) (let e : n - selected_count xs ≡ suc n - suc (selected_count xs) = omega arith in e) in
    omega (arith, nth-skip n xs ys (omega arith))
nth-skip (suc n) (false ∷ xs) ys h = omega (arith, nth-skip (suc n) xs ys h)

-- where n are selected in the first rows, the others do not count
nth-front : (n : ℕ) (xs ys : List Bool) → n ≤ selected_count xs → nth_end n (xs ++ ys) ≡ nth_end n xs
nth-front zero xs ys h = refl
nth-front (suc n) [] ys h = absurd (omega arith)
nth-front (suc n) (true ∷ xs) ys h = ap suc (nth-front n xs ys (omega arith))
nth-front (suc n) (false ∷ xs) ys h = ap suc (nth-front (suc n) xs ys h)

-- the first m of the r rows from a on have c selected, fewer than n
pub nth-pass : (f : ℕ → Bool) (n a m q r c : ℕ) → a + m ≡ q → m ≤ r → selected_count (rows_of f a m) ≡ c → c < n
    → nth_end n (rows_of f a r) ≡ m + nth_end (n - c) (rows_of f q (r - m))
nth-pass f n a m q r c d l e h =
    ap (nth_end n) (rows-parts f a m (r - m) q r d (omega arith))
    ∙ nth-skip n (rows_of f a m) (rows_of f q (r - m)) (omega arith)
    ∙ ap₂ (λ (x y : ℕ). x + nth_end (n - y) (rows_of f q (r - m))) (length-rows f a m) e

-- and here n or more
pub nth_here : (f : ℕ → Bool) (n a m r : ℕ) → m ≤ r → n ≤ selected_count (rows_of f a m) → nth_end n (rows_of f a r) ≡ nth_end n (rows_of f a m)
nth_here f n a m r l h = ap (nth_end n) (rows-parts f a m (r - m) (a + m) r refl (omega arith)) ∙ nth-front n (rows_of f a m) (rows_of f (a + m) (r - m)) h

-- no rows, and one row
pub nth-none : (n : ℕ) (xs : List Bool) → length xs ≡ 0 → nth_end n xs ≡ 0
nth-none zero xs e = refl
nth-none (suc n) [] e = refl
nth-none (suc n) (x ∷ xs) e = absurd (omega arith)

pub nth-one : (n : ℕ) (xs : List Bool) → length xs ≤ 1 → 0 < n → n ≤ selected_count xs → nth_end n xs ≡ 1
nth-one n [] l s h = absurd (omega arith)
nth-one zero (x ∷ xs) l s h = absurd (omega arith)
nth-one (suc n) (false ∷ []) l s h = absurd (omega arith)
nth-one (suc n) (true ∷ []) l s h = ap (λ (x : ℕ). suc (nth_end x [])) (let e : n ≡ 0 = omega arith in e)
nth-one (suc n) (x ∷ (y ∷ xs)) l s h = absurd (omega arith)

pub nth-le : (n : ℕ) (xs : List Bool) → nth_end n xs ≤ length xs
nth-le zero xs = omega arith
nth-le (suc n) [] = omega arith
nth-le (suc n) (true ∷ xs) = omega (arith, nth-le n xs)
nth-le (suc n) (false ∷ xs) = omega (arith, nth-le (suc n) xs)

-- ---- a word of the rows ys, as far as they go

skipped-count : (m : ℕ) → selected_count (replicate m false) ≡ 0
skipped-count zero = refl
skipped-count (suc m) = skipped-count m

-- n rows of which the first are ys and the others are skipped
padded : (f : ℕ → Bool) (a n : ℕ) (ys : List Bool) → ((k : ℕ) → k < n → f (a + k) ≡ Selects ys k) → rows_of f a n ≡ take n ys ++ replicate (n - length ys) false
unfolding rows_of
padded f a zero ys h = ap (λ (k : ℕ). replicate k false) (let e : 0 ≡ 0 - length ys = omega arith in e)
padded f a (suc n) [] h =
    rows_alike f false a (suc n) (λ k l t. ap f (let e : k ≡ a + (k - a) = omega arith in e) ∙ h (k - a) (omega arith))
    ∙ ap (λ (k : ℕ). replicate k false) (let e : suc n ≡ suc n - 0 = omega arith in e)
padded f a (suc n) (y ∷ ys) h =
    ap₂ (λ (x : Bool) (xs : List Bool). x ∷ xs)
    (ap f (let e : a ≡ a + 0 = omega arith in e) ∙ h 0 (omega arith))
    (padded f (a + 1) n ys (λ k l. ap f (let e : a + 1 + k ≡ a + suc k = omega arith in e) ∙ h (suc k) (omega arith))
    ∙ ap (λ (k : ℕ). take n ys ++ replicate k false) (let e : n - length ys ≡ suc n - suc (length ys) = omega arith in e))

module _ (w : ℕ) (ys : List Bool) (same : (k : ℕ) → k < 64 → bit_at w k ≡ Selects ys k) where
  in-word : word_rows w 64 ≡ take 64 ys ++ replicate (64 - length ys) false
  in-word = padded (bit_at w) 0 64 ys (λ k h. ap (bit_at w) (let e : 0 + k ≡ k = omega arith in e) ∙ same k h)

  word-count : selected_count (word_rows w 64) ≡ selected_count (take 64 ys)
  word-count = omega (arith, ap selected_count in-word, selected-append (take 64 ys) (replicate (64 - length ys) false), skipped-count (64 - length ys))

  pub word-here : (n : ℕ) → n ≤ selected_count (word_rows w 64) → nth_end n ys ≡ nth_end n (word_rows w 64)
  word-here n h =
      ap (nth_end n) (sym (take-append-drop 64 ys)) ∙ nth-front n (take 64 ys) (drop 64 ys) (omega (arith, word-count))
      ∙ sym (ap (nth_end n) in-word ∙ nth-front n (take 64 ys) (replicate (64 - length ys) false) (omega (arith, word-count)))

  pub word-later : (n : ℕ) → selected_count (word_rows w 64) < n
      → nth_end n ys ≡ length (take 64 ys) + nth_end (n - selected_count (word_rows w 64)) (drop 64 ys)
  word-later n h =
      ap (nth_end n) (sym (take-append-drop 64 ys)) ∙ nth-skip n (take 64 ys) (drop 64 ys) (omega (arith, word-count))
      ∙ ap (λ (k : ℕ). length (take 64 ys) + nth_end (n - k) (drop 64 ys)) (sym word-count)
