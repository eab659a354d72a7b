-- The chunk rule in the words of `Said`. Assumes nothing.
use Rattle.std.proofs.Common.{◌≡◌, ℕ, zero, suc, ◌+◌, ◌-◌, ◌<◌, ◌≤◌, min, Bool, true, false, List, [], ◌∷◌, length, take, drop, Some, None, Option, sym, refl, ap, ◌∙◌, arith}
use Rattle.std.proofs.lemmas.List.{take-take, length-take}
use Rattle.std.proofs.lemmas.Bool.{true≢false}
use Rattle.rows.specs.Rows.{selected_count}
use Rattle.rows.specs.Rules.{limit, trimmed}
use Rattle.rows.specs.Chunks.{leading, next_selected, is_loaded, loaded_end}
use Rattle.rows.specs.Said.{Selects, ChunkRule}
use Rattle.rows.proofs.Endings.{limited, trimmed-last, trimmed-count, trimmed-front}

drop-row : (n : ℕ) (xs : List Bool) (i : ℕ) → Selects (drop n xs) i ≡ Selects xs (n + i)
drop-row zero xs i = ap (λ k. Selects xs k) (omega arith)
drop-row (suc n) [] i = refl
drop-row (suc n) (x ∷ xs) i = let e : suc n + i ≡ suc (n + i) = omega arith in drop-row n xs i ∙ ap (λ k. Selects (x ∷ xs) k) (sym e)

-- rows before the first that is not marked b have the mark b; that one has not
leading-rows : (b : Bool) (xs : List Bool) (i : ℕ) → i < leading b xs → Selects xs i ≡ b
leading-rows b [] i h = absurd (omega arith)
leading-rows true (true ∷ xs) zero h = refl
leading-rows true (true ∷ xs) (suc i) h = leading-rows true xs i (omega arith)
leading-rows true (false ∷ xs) i h = absurd (omega arith)
leading-rows false (false ∷ xs) zero h = refl
leading-rows false (false ∷ xs) (suc i) h = leading-rows false xs i (omega arith)
leading-rows false (true ∷ xs) i h = absurd (omega arith)

leading-false-end : (xs : List Bool) → 0 < selected_count xs → Selects xs (leading false xs) ≡ true
leading-false-end [] h = absurd (omega arith)
leading-false-end (true ∷ xs) h = refl
leading-false-end (false ∷ xs) h = leading-false-end xs h

leading-true-end : (xs : List Bool) → Selects xs (leading true xs) ≡ false
leading-true-end [] = refl
leading-true-end (true ∷ xs) = leading-true-end xs
leading-true-end (false ∷ xs) = refl

some-loaded : (xs : List Bool) → Selects xs 0 ≡ true → 0 < leading true xs
some-loaded [] e = absurd (true≢false (sym e))
some-loaded (true ∷ xs) e = omega arith
some-loaded (false ∷ xs) e = absurd (true≢false (sym e))

-- from k on, rows are as after k rows were dropped
from_row : (xs : List Bool) (k i : ℕ) → k ≤ i → Selects xs i ≡ Selects (drop k xs) (i - k)
from_row xs k i h = let e : i ≡ k + (i - k) = omega arith in ap (λ j. Selects xs j) e ∙ sym (drop-row k xs (i - k))

loaded-rows : (loaded : Option (List Bool)) (s len i : ℕ) → s ≤ i → i < loaded_end loaded s len → is_loaded loaded i ≡ true
loaded-rows None s len i h k = refl
loaded-rows (Some ls) s len i h k = from_row ls s i h ∙ leading-rows true (drop s ls) (i - s) (omega arith)

loaded-stops : (loaded : Option (List Bool)) (s len : ℕ) → loaded_end loaded s len < len → is_loaded loaded (loaded_end loaded s len) ≡ false
loaded-stops None s len h = absurd (omega arith)
loaded-stops (Some ls) s len h =
    let e : min len (s + leading true (drop s ls)) ≡ s + leading true (drop s ls) = omega arith in
    ap (λ k. Selects ls k) e ∙ sym (drop-row s ls (leading true (drop s ls))) ∙ leading-true-end (drop s ls)

-- the rows of a chunk stand at the start of the rows from s on
stands : (size n : ℕ) (ys : List Bool) → trimmed (limit size (take n ys)) ≡ take (length (trimmed (limit size (take n ys)))) ys
stands size n ys =
    let zs = limit size (take n ys) in
    let k = length (trimmed zs) in
    let a : k ≤ length zs = omega (arith, ap length (trimmed-front zs), length-take k zs) in
    let b : length zs ≤ n = omega (arith, ap length (limited size (take n ys)).front, length-take (length zs) (take n ys), length-take n ys) in
    trimmed-front zs ∙ ap (take k) (limited size (take n ys)).front ∙ take-take k (length zs) (take n ys) a ∙ take-take k n ys (omega arith)

pub chunk-rule : (size : ℕ) (loaded : Option (List Bool)) (xs : List Bool) (p : ℕ) → ChunkRule size loaded xs p
chunk-rule size loaded xs p some here =
    let s = next_selected xs p in
    let e = loaded_end loaded s (length xs) in
    record {
      passed = λ i h k. from_row xs p i h ∙ leading-rows false (drop p xs) (i - p) (omega arith);
      first = sym (drop-row p xs (leading false (drop p xs))) ∙ leading-false-end (drop p xs) some;
      loads = loaded-rows loaded s (length xs);
      ends = loaded-stops loaded s (length xs);
      stands = stands size (e - s) (drop s xs);
      count = trimmed-count (limit size (take (e - s) (drop s xs))) ∙ (limited size (take (e - s) (drop s xs))).count;
      last = trimmed-last (limit size (take (e - s) (drop s xs)));
    }
