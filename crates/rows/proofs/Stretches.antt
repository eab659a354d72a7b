-- The row rules at a stretch of equal rows. Assumes nothing.
use Rattle.std.proofs.Common.{◌≡◌, ℕ, zero, suc, ◌+◌, ◌-◌, ◌<◌, ◌≤◌, Bool, true, false, not, List, [], ◌∷◌, ◌++◌, take, drop, replicate, sym, refl, ap, ◌∙◌, append_assoc, arith}
use lib.ListN.{replicate-append-replicate}
use Rattle.rows.specs.Rules.{and_then, combine, limit, skip_selected}
use Rattle.rows.specs.Said.{Selects}

pub not-not : (b : Bool) → not (not b) ≡ b
not-not true = refl
not-not false = refl

-- a stretch in two parts
pub split-stretch : (n m : ℕ) (b : Bool) (xs : List Bool) → n ≤ m → replicate n b ++ (replicate (m - n) b ++ xs) ≡ replicate m b ++ xs
split-stretch n m b xs h =
    let e : n + (m - n) ≡ m = omega arith in
    sym (append_assoc (replicate n b) (replicate (m - n) b) xs) ∙ ap (λ l. l ++ xs) (replicate-append-replicate n (m - n) b ∙ ap (λ k. replicate k b) e)

-- rows that the first skips, rows that it selects beside as many of the second, and rows that it selects where the second has no more
pub and_then-skip : (n : ℕ) (xs ys : List Bool) → and_then (replicate n false ++ xs) ys ≡ replicate n false ++ and_then xs ys
and_then-skip zero xs ys = refl
and_then-skip (suc n) xs ys = ap (λ l. false ∷ l) (and_then-skip n xs ys)

pub and_then-take : (n : ℕ) (b : Bool) (xs ys : List Bool) → and_then (replicate n true ++ xs) (replicate n b ++ ys) ≡ replicate n b ++ and_then xs ys
and_then-take zero b xs ys = refl
and_then-take (suc n) b xs ys = ap (λ l. b ∷ l) (and_then-take n b xs ys)

pub and_then-out : (n : ℕ) (xs : List Bool) → and_then (replicate n true ++ xs) [] ≡ replicate n false ++ and_then xs []
and_then-out zero xs = refl
and_then-out (suc n) xs = ap (λ l. false ∷ l) (and_then-out n xs)

-- the rows of a stretch, and those after it
pub stretch-row : (n : ℕ) (b : Bool) (xs : List Bool) (i : ℕ) → i < n → Selects (replicate n b ++ xs) i ≡ b
stretch-row zero b xs i h = absurd (omega arith)
stretch-row (suc n) b xs zero h = refl
stretch-row (suc n) b xs (suc i) h = stretch-row n b xs i (omega arith)

pub past-stretch : (n : ℕ) (b : Bool) (xs : List Bool) (i : ℕ) → n ≤ i → Selects (replicate n b ++ xs) i ≡ Selects xs (i - n)
past-stretch zero b xs i h = ap (Selects xs) (omega arith)
past-stretch (suc n) b xs zero h = absurd (omega arith)
past-stretch (suc n) b xs (suc i) h = past-stretch n b xs i (omega arith) ∙ ap (Selects xs) (let e : i - n ≡ suc i - suc n = omega arith in e)

-- two stretches side by side, and nothing beside the rows
pub combine-both : (f : Bool → Bool → Bool) (n : ℕ) (b c : Bool) (xs ys : List Bool) → combine f (replicate n b ++ xs) (replicate n c ++ ys) ≡ replicate n (f b c) ++ combine f xs ys
combine-both f zero b c xs ys = refl
combine-both f (suc n) b c xs ys = ap (λ l. f b c ∷ l) (combine-both f n b c xs ys)

pub combine-nil : (f : Bool → Bool → Bool) (xs : List Bool) → combine f xs [] ≡ xs
combine-nil f [] = refl
combine-nil f (x ∷ xs) = refl

-- the first m selected rows, of which a stretch has none, or n
pub limit-nil : (m : ℕ) → limit m [] ≡ []
limit-nil zero = refl
limit-nil (suc m) = refl

pub limit-skip : (m n : ℕ) (xs : List Bool) → 0 < m → limit m (replicate n false ++ xs) ≡ replicate n false ++ limit m xs
limit-skip zero n xs h = absurd (omega arith)
limit-skip (suc m) zero xs h = refl
limit-skip (suc m) (suc n) xs h = ap (λ l. false ∷ l) (limit-skip (suc m) n xs h)

pub limit-take : (m n : ℕ) (xs : List Bool) → n ≤ m → limit m (replicate n true ++ xs) ≡ replicate n true ++ limit (m - n) xs
limit-take m zero xs h = ap (λ k. limit k xs) (omega arith)
limit-take zero (suc n) xs h = absurd (omega arith)
limit-take (suc m) (suc n) xs h = ap (λ l. true ∷ l) (limit-take m n xs (omega arith) ∙ ap (λ k. replicate n true ++ limit k xs) (let e : m - n ≡ suc m - suc n = omega arith in e))

-- the first m selected rows skipped instead
pub skip-nil : (m : ℕ) → skip_selected m [] ≡ []
skip-nil zero = refl
skip-nil (suc m) = refl

pub skip-skip : (m n : ℕ) (xs : List Bool) → skip_selected m (replicate n false ++ xs) ≡ replicate n false ++ skip_selected m xs
skip-skip zero n xs = refl
skip-skip (suc m) zero xs = refl
skip-skip (suc m) (suc n) xs = ap (λ l. false ∷ l) (skip-skip (suc m) n xs)

pub skip-take : (m n : ℕ) (xs : List Bool) → n ≤ m → skip_selected m (replicate n true ++ xs) ≡ replicate n false ++ skip_selected (m - n) xs
skip-take m zero xs h = ap (λ k. skip_selected k xs) (omega arith)
skip-take zero (suc n) xs h = absurd (omega arith)
skip-take (suc m) (suc n) xs h = ap (λ l. false ∷ l) (skip-take m n xs (omega arith) ∙ ap (λ k. replicate n false ++ skip_selected k xs) (let e : m - n ≡ suc m - suc n = omega arith in e))

-- rows from the front, and those after them, where a stretch is not longer
pub take-stretch : (m n : ℕ) (b : Bool) (xs : List Bool) → n ≤ m → take m (replicate n b ++ xs) ≡ replicate n b ++ take (m - n) xs
take-stretch m zero b xs h = ap (λ k. take k xs) (omega arith)
take-stretch zero (suc n) b xs h = absurd (omega arith)
take-stretch (suc m) (suc n) b xs h = ap (λ l. b ∷ l) (take-stretch m n b xs (omega arith) ∙ ap (λ k. replicate n b ++ take k xs) (let e : m - n ≡ suc m - suc n = omega arith in e))

pub drop-stretch : (m n : ℕ) (b : Bool) (xs : List Bool) → n ≤ m → drop m (replicate n b ++ xs) ≡ drop (m - n) xs
drop-stretch m zero b xs h = ap (λ k. drop k xs) (omega arith)
drop-stretch zero (suc n) b xs h = absurd (omega arith)
drop-stretch (suc m) (suc n) b xs h = drop-stretch m n b xs (omega arith) ∙ ap (λ k. drop k xs) (let e : m - n ≡ suc m - suc n = omega arith in e)
