-- Laws of the numbers of rows, selected rows and runs. Assumes nothing.
use Rattle.std.proofs.Common.{◌≡◌, ℕ, zero, suc, ◌+◌, ◌<◌, ◌≤◌, Bool, true, false, cond, not, List, [], ◌∷◌, ◌++◌, length, replicate, Some, None, Option, refl, ap, ◌∙◌, arith, length-append}
use lib.ListN.{length-replicate}
use Rattle.rows.specs.Rows.{selected_count, begins, runs_after, count_runs, NotFirst}

begins-same : (b : Bool) → begins (Some b) b ≡ 0
begins-same true = refl
begins-same false = refl

begins-le : (p : Option Bool) (b : Bool) → begins p b ≤ 1
begins-le None b = omega arith
begins-le (Some true) true = omega arith
begins-le (Some true) false = omega arith
begins-le (Some false) true = omega arith
begins-le (Some false) false = omega arith

runs_same : (n : ℕ) (b : Bool) (xs : List Bool) → runs_after (Some b) (replicate n b ++ xs) ≡ runs_after (Some b) xs
runs_same zero b xs = refl
runs_same (suc n) b xs = omega (arith, begins-same b, runs_same n b xs)

-- a run before xs
pub runs-more : (p : Option Bool) (n : ℕ) (b : Bool) (xs : List Bool) → 0 < n → runs_after p (replicate n b ++ xs) ≡ begins p b + runs_after (Some b) xs
runs-more p zero b xs h = absurd (omega arith)
runs-more p (suc n) b xs h = ap (λ k. begins p b + k) (runs_same n b xs)

pub runs-le : (p : Option Bool) (xs : List Bool) → runs_after p xs ≤ length xs
runs-le p [] = omega arith
runs-le p (x ∷ xs) = omega (arith, begins-le p x, runs-le (Some x) xs)

pub runs-front : (p : Option Bool) (xs ys : List Bool) → runs_after p xs ≤ runs_after p (xs ++ ys)
runs-front p [] ys = omega arith
runs-front p (x ∷ xs) ys = omega (arith, runs-front (Some x) xs ys)

differs : (b x : Bool) → (x ≡ b → ⊥) → begins (Some b) x ≡ 1
differs true true h = absurd (h refl)
differs true false h = refl
differs false true h = refl
differs false false h = absurd (h refl)

-- a whole run is one run more than what follows it
pub runs-whole : (n : ℕ) (b : Bool) (xs : List Bool) → 0 < n → NotFirst b xs → count_runs (replicate n b ++ xs) ≡ suc (count_runs xs)
runs-whole n b [] h s = omega (arith, runs-more None n b [] h)
runs-whole n b (x ∷ xs) h s = omega (arith, runs-more None n b (x ∷ xs) h, differs b x s)

pub length_run : (n : ℕ) (b : Bool) (xs : List Bool) → length (replicate n b ++ xs) ≡ n + length xs
length_run n b xs = length-append (replicate n b) xs ∙ ap (λ k. k + length xs) (length-replicate n b)

pub selected-run : (n : ℕ) (s : Bool) (xs : List Bool) → selected_count (replicate n (not s) ++ xs) ≡ cond s 0 n + selected_count xs
selected-run zero true xs = omega arith
selected-run zero false xs = omega arith
selected-run (suc n) true xs = selected-run n true xs
selected-run (suc n) false xs = omega (arith, selected-run n false xs)

pub selected-append : (xs ys : List Bool) → selected_count (xs ++ ys) ≡ selected_count xs + selected_count ys
selected-append [] ys = omega arith
selected-append (true ∷ xs) ys = omega (arith, selected-append xs ys)
selected-append (false ∷ xs) ys = selected-append xs ys

pub selected-le : (xs : List Bool) → selected_count xs ≤ length xs
selected-le [] = omega arith
selected-le (true ∷ xs) = omega (arith, selected-le xs)
selected-le (false ∷ xs) = omega (arith, selected-le xs)

-- what one piece takes off the rows xs
pub piece-length : (xs ys : List Bool) (n : ℕ) (b : Bool) → xs ≡ replicate n b ++ ys → length xs ≡ n + length ys
piece-length xs ys n b e = ap length e ∙ length_run n b ys

pub piece-runs : (p : Option Bool) (xs ys : List Bool) (n : ℕ) (b : Bool) → 0 < n → xs ≡ replicate n b ++ ys → runs_after p xs ≡ begins p b + runs_after (Some b) ys
piece-runs p xs ys n b h e = ap (runs_after p) e ∙ runs-more p n b ys h

pub piece-selected : (xs ys : List Bool) (n : ℕ) (s : Bool) → xs ≡ replicate n (not s) ++ ys → selected_count xs ≡ cond s 0 n + selected_count ys
piece-selected xs ys n s e = ap selected_count e ∙ selected-run n s ys
