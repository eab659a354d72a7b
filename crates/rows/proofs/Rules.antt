-- and_then, combining, split_off and offset, row by row. Assumes nothing.
use Rattle.std.proofs.Common.{◌≡◌, ℕ, zero, suc, ◌<◌, ◌≤◌, max, Bool, true, false, cond, ◌&&◌, List, [], ◌∷◌, length, take, drop, refl, ap, ◌∙◌, arith}
use Rattle.std.proofs.lemmas.Bool.{lt-ltb, le-ltb}
use Rattle.rows.specs.Rows.{selected_count, rank}
use Rattle.rows.specs.Rules.{and_then, combine, skip_selected, offset}
use Rattle.rows.specs.Said.{Selects, ByRank, RowByRow, Split, Offset}

pub length-and_then : (xs ys : List Bool) → length (and_then xs ys) ≡ length xs
length-and_then [] ys = refl
length-and_then (false ∷ xs) ys = ap suc (length-and_then xs ys)
length-and_then (true ∷ xs) [] = ap suc (length-and_then xs [])
length-and_then (true ∷ xs) (y ∷ ys) = ap suc (length-and_then xs ys)

at-rank : (xs ys : List Bool) (i : ℕ) → Selects (and_then xs ys) i ≡ (Selects xs i && Selects ys (rank xs i))
at-rank [] ys i = refl
at-rank (false ∷ xs) ys zero = refl
at-rank (false ∷ xs) ys (suc i) = at-rank xs ys i
at-rank (true ∷ xs) [] zero = refl
at-rank (true ∷ xs) [] (suc i) = at-rank xs [] i
at-rank (true ∷ xs) (y ∷ ys) zero = refl
at-rank (true ∷ xs) (y ∷ ys) (suc i) = at-rank xs ys i

pub by_rank : (xs ys : List Bool) → ByRank xs ys (and_then xs ys)
by_rank xs ys = (length-and_then xs ys, at-rank xs ys)

module _ (f : Bool → Bool → Bool) where
  length-combine : (xs ys : List Bool) → length (combine f xs ys) ≡ max (length xs) (length ys)
  length-combine [] ys = omega arith
  length-combine (x ∷ xs) [] = omega arith
  length-combine (x ∷ xs) (y ∷ ys) = omega (arith, length-combine xs ys)

  both-rows : (xs ys : List Bool) (i : ℕ) → i < length xs → i < length ys → Selects (combine f xs ys) i ≡ f (Selects xs i) (Selects ys i)
  both-rows [] ys i h k = absurd (omega arith)
  both-rows (x ∷ xs) [] i h k = absurd (omega arith)
  both-rows (x ∷ xs) (y ∷ ys) zero h k = refl
  both-rows (x ∷ xs) (y ∷ ys) (suc i) h k = both-rows xs ys i (omega arith) (omega arith)

  past : (xs : List Bool) (i : ℕ) → length xs ≤ i → Selects xs i ≡ false
  past [] i h = refl
  past (x ∷ xs) zero h = absurd (omega arith)
  past (x ∷ xs) (suc i) h = past xs i (omega arith)

  first_rows : (xs ys : List Bool) (i : ℕ) → length ys ≤ i → Selects (combine f xs ys) i ≡ Selects xs i
  first_rows [] ys i h = past ys i h
  first_rows (x ∷ xs) [] i h = refl
  first_rows (x ∷ xs) (y ∷ ys) zero h = absurd (omega arith)
  first_rows (x ∷ xs) (y ∷ ys) (suc i) h = first_rows xs ys i (omega arith)

  second-rows : (xs ys : List Bool) (i : ℕ) → length xs ≤ i → Selects (combine f xs ys) i ≡ Selects ys i
  second-rows [] ys i h = refl
  second-rows (x ∷ xs) [] i h = past (x ∷ xs) i h
  second-rows (x ∷ xs) (y ∷ ys) zero h = absurd (omega arith)
  second-rows (x ∷ xs) (y ∷ ys) (suc i) h = second-rows xs ys i (omega arith)

  pub row-by-row : (xs ys : List Bool) → RowByRow f xs ys (combine f xs ys)
  row-by-row xs ys = record { long = length-combine xs ys; both = both-rows xs ys; first = first_rows xs ys; second = second-rows xs ys }

pub in_two : (n : ℕ) (xs : List Bool) → Split n xs (take n xs) (drop n xs)
in_two zero xs = record { whole = refl; long = omega arith }
in_two (suc n) [] = record { whole = refl; long = omega arith }
in_two (suc n) (x ∷ xs) = let r = in_two n xs in record { whole = ap (λ l. x ∷ l) r.whole; long = omega (arith, r.long) }

pub length-skip : (n : ℕ) (xs : List Bool) → length (skip_selected n xs) ≡ length xs
length-skip zero xs = refl
length-skip (suc n) [] = refl
length-skip (suc n) (false ∷ xs) = ap suc (length-skip (suc n) xs)
length-skip (suc n) (true ∷ xs) = ap suc (length-skip n xs)

skip-early : (n : ℕ) (xs : List Bool) (i : ℕ) → rank xs i < n → Selects (skip_selected n xs) i ≡ false
skip-early zero xs i h = absurd (omega arith)
skip-early (suc n) [] i h = refl
skip-early (suc n) (false ∷ xs) zero h = refl
skip-early (suc n) (false ∷ xs) (suc i) h = skip-early (suc n) xs i h
skip-early (suc n) (true ∷ xs) zero h = refl
skip-early (suc n) (true ∷ xs) (suc i) h = skip-early n xs i (omega arith)

skip-late : (n : ℕ) (xs : List Bool) (i : ℕ) → n ≤ rank xs i → Selects (skip_selected n xs) i ≡ Selects xs i
skip-late zero xs i h = refl
skip-late (suc n) [] i h = refl
skip-late (suc n) (false ∷ xs) zero h = refl
skip-late (suc n) (false ∷ xs) (suc i) h = skip-late (suc n) xs i h
skip-late (suc n) (true ∷ xs) zero h = absurd (omega arith)
skip-late (suc n) (true ∷ xs) (suc i) h = skip-late n xs i (omega arith)

pub offset-rows : (n : ℕ) (xs : List Bool) → Offset n xs (offset n xs)
offset-rows zero xs = record { still = λ e. refl; empty = λ h k. absurd (omega arith); long = λ h. refl; early = λ h i k. absurd (omega arith); late = λ h i k. refl }
offset-rows (suc n) xs = record {
  still = λ e. absurd (omega arith);
  empty = λ h k. ap pick (le-ltb (suc n) (selected_count xs) k);
  long = λ h. ap length (some h) ∙ length-skip (suc n) xs;
  early = λ h i k. ap (λ l. Selects l i) (some h) ∙ skip-early (suc n) xs i k;
  late = λ h i k. ap (λ l. Selects l i) (some h) ∙ skip-late (suc n) xs i k;
}
  where
    pick : Bool → List Bool
    pick b = cond b (skip_selected (suc n) xs) []

    some : suc n < selected_count xs → offset (suc n) xs ≡ skip_selected (suc n) xs
    some h = ap pick (lt-ltb (suc n) (selected_count xs) h)
