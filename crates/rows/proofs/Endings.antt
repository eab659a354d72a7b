-- limit and trim, by how their rows end. Assumes nothing.
use Rattle.std.proofs.Common.{◌≡◌, ℕ, zero, suc, ◌-◌, ◌<◌, ◌≤◌, min, Bool, true, false, List, [], ◌∷◌, ◌++◌, length, get_or, take, replicate, sym, refl, ap, ◌∙◌, arith, length-append}
use lib.ListN.{length-replicate}
use Rattle.rows.specs.Rows.{selected_count}
use Rattle.rows.specs.Rules.{limit, keep_front, trimmed}
use Rattle.rows.specs.Said.{Limited, Trimmed}

limit-front : (n : ℕ) (xs : List Bool) → limit n xs ≡ take (length (limit n xs)) xs
limit-front zero xs = refl
limit-front (suc n) [] = refl
limit-front (suc n) (false ∷ xs) = ap (λ l. false ∷ l) (limit-front (suc n) xs)
limit-front (suc n) (true ∷ xs) = ap (λ l. true ∷ l) (limit-front n xs)

limit-count : (n : ℕ) (xs : List Bool) → selected_count (limit n xs) ≡ min n (selected_count xs)
limit-count zero xs = omega arith
limit-count (suc n) [] = omega arith
limit-count (suc n) (false ∷ xs) = limit-count (suc n) xs
limit-count (suc n) (true ∷ xs) = omega (arith, limit-count n xs)

limit-all : (n : ℕ) (xs : List Bool) → selected_count xs < n → limit n xs ≡ xs
limit-all zero xs h = absurd (omega arith)
limit-all (suc n) [] h = refl
limit-all (suc n) (false ∷ xs) h = ap (λ l. false ∷ l) (limit-all (suc n) xs h)
limit-all (suc n) (true ∷ xs) h = ap (λ l. true ∷ l) (limit-all n xs (omega arith))

-- one row in front leaves the last where it was
later : (x d : Bool) (zs : List Bool) → 0 < length zs → get_or (x ∷ zs) (length (x ∷ zs) - 1) d ≡ get_or zs (length zs - 1) d
later x d [] h = absurd (omega arith)
later x d (z ∷ zs) h = let e : length (x ∷ (z ∷ zs)) - 1 ≡ suc (length (z ∷ zs) - 1) = omega arith in ap (λ k. get_or (x ∷ (z ∷ zs)) k d) e

limit-some : (n : ℕ) (xs : List Bool) → 0 < n → n ≤ selected_count xs → 0 < length (limit n xs)
limit-some zero xs h k = absurd (omega arith)
limit-some (suc n) [] h k = absurd (omega arith)
limit-some (suc n) (false ∷ xs) h k = omega arith
limit-some (suc n) (true ∷ xs) h k = omega arith

limit-last : (n : ℕ) (xs : List Bool) → 0 < n → n ≤ selected_count xs → get_or (limit n xs) (length (limit n xs) - 1) false ≡ true
limit-last zero xs h k = absurd (omega arith)
limit-last (suc n) [] h k = absurd (omega arith)
limit-last (suc n) (false ∷ xs) h k = later false false (limit (suc n) xs) (limit-some (suc n) xs h k) ∙ limit-last (suc n) xs h k
limit-last (suc zero) (true ∷ xs) h k = refl
limit-last (suc (suc n)) (true ∷ xs) h k =
    let m : suc n ≤ selected_count xs = omega arith in
    later true false (limit (suc n) xs) (limit-some (suc n) xs (omega arith) m) ∙ limit-last (suc n) xs (omega arith) m

pub limited : (n : ℕ) (xs : List Bool) → Limited n xs (limit n xs)
limited n xs = record { front = limit-front n xs; count = limit-count n xs; all = limit-all n xs; none = λ e. ap (λ k. limit k xs) e; last = limit-last n xs }

keep-last : (x : Bool) (zs : List Bool) → get_or zs (length zs - 1) true ≡ true → get_or (keep_front x zs) (length (keep_front x zs) - 1) true ≡ true
keep-last true [] e = refl
keep-last true (z ∷ zs) e = later true true (z ∷ zs) (omega arith) ∙ e
keep-last false [] e = refl
keep-last false (z ∷ zs) e = later false true (z ∷ zs) (omega arith) ∙ e

pub trimmed-last : (xs : List Bool) → get_or (trimmed xs) (length (trimmed xs) - 1) true ≡ true
trimmed-last [] = refl
trimmed-last (x ∷ xs) = keep-last x (trimmed xs) (trimmed-last xs)

-- how many rows trimming drops, of those after x
dropped-after : Bool → List Bool → ℕ → ℕ
dropped-after true zs k = k
dropped-after false [] k = suc k
dropped-after false (z ∷ zs) k = k

keep-whole : (x : Bool) (zs xs : List Bool) (k : ℕ) → zs ++ replicate k false ≡ xs → keep_front x zs ++ replicate (dropped-after x zs k) false ≡ x ∷ xs
unfolding dropped-after
keep-whole true zs xs k e = ap (λ l. true ∷ l) e
keep-whole false [] xs k e = ap (λ l. false ∷ l) e
keep-whole false (z ∷ zs) xs k e = ap (λ l. false ∷ l) e

pub trim : (xs : List Bool) → Trimmed xs (trimmed xs)
trim [] = record { dropped = 0; whole = refl; last = refl }
trim (x ∷ xs) = let r = trim xs in record { dropped = dropped-after x (trimmed xs) r.dropped; whole = keep-whole x (trimmed xs) xs r.dropped r.whole; last = keep-last x (trimmed xs) r.last }

-- trimming keeps the selected rows
pub trimmed-count : (xs : List Bool) → selected_count (trimmed xs) ≡ selected_count xs
trimmed-count [] = refl
trimmed-count (true ∷ xs) = ap suc (trimmed-count xs)
trimmed-count (false ∷ xs) = keep-count (trimmed xs) ∙ trimmed-count xs
  where
    keep-count : (zs : List Bool) → selected_count (keep_front false zs) ≡ selected_count zs
    keep-count [] = refl
    keep-count (z ∷ zs) = refl

-- what is trimmed stands at the start
pub trimmed-front : (xs : List Bool) → trimmed xs ≡ take (length (trimmed xs)) xs
trimmed-front [] = refl
trimmed-front (true ∷ xs) = ap (λ l. true ∷ l) (trimmed-front xs)
trimmed-front (false ∷ xs) = keep-front (trimmed xs) (trimmed-front xs)
  where
    keep-front : (zs : List Bool) → zs ≡ take (length zs) xs → keep_front false zs ≡ take (length (keep_front false zs)) (false ∷ xs)
    keep-front [] e = refl
    keep-front (z ∷ zs) e = ap (λ l. false ∷ l) e

-- trimming is limiting to the selected rows there are
skipped-first : (xs : List Bool) (c : ℕ) → selected_count xs ≡ c → limit (selected_count xs) xs ≡ trimmed xs → limit c (false ∷ xs) ≡ keep_front false (trimmed xs)
skipped-first xs zero e ih = sym (ap (keep_front false) (sym ih ∙ ap (λ k. limit k xs) e))
skipped-first xs (suc c) e ih =
    let same = ap (λ k. limit k xs) (sym e) ∙ ih in
    ap (λ l. false ∷ l) same ∙ kept (trimmed xs) (omega (arith, limit-some (suc c) xs (omega arith) (omega arith), ap length same))
  where
    kept : (zs : List Bool) → 0 < length zs → false ∷ zs ≡ keep_front false zs
    kept [] h = absurd (omega arith)
    kept (z ∷ zs) h = refl

pub trimmed-limit : (xs : List Bool) → limit (selected_count xs) xs ≡ trimmed xs
trimmed-limit [] = refl
trimmed-limit (true ∷ xs) = ap (λ l. true ∷ l) (trimmed-limit xs)
trimmed-limit (false ∷ xs) = skipped-first xs (selected_count xs) refl (trimmed-limit xs)

-- skipped rows at the end are dropped, and a selected one keeps all before it
pub trimmed-skips : (xs : List Bool) (n : ℕ) → trimmed (xs ++ replicate n false) ≡ trimmed xs
trimmed-skips [] zero = refl
trimmed-skips [] (suc n) = ap (keep_front false) (trimmed-skips [] n)
trimmed-skips (x ∷ xs) n = ap (keep_front x) (trimmed-skips xs n)

pub keep_some : (x : Bool) (zs : List Bool) → 0 < length zs → keep_front x zs ≡ x ∷ zs
keep_some true zs h = refl
keep_some false [] h = absurd (omega arith)
keep_some false (z ∷ zs) h = refl

pub trimmed-selected : (xs : List Bool) (n : ℕ) → 0 < n → trimmed (xs ++ replicate n true) ≡ xs ++ replicate n true
trimmed-selected [] zero h = absurd (omega arith)
trimmed-selected [] (suc zero) h = refl
trimmed-selected [] (suc (suc n)) h = ap (λ l. true ∷ l) (trimmed-selected [] (suc n) (omega arith))
trimmed-selected (x ∷ xs) n h =
    ap (keep_front x) (trimmed-selected xs n h) ∙ keep_some x (xs ++ replicate n true) (omega (arith, length-append xs (replicate n true), length-replicate n true))
