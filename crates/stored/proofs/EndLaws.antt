-- Memory for all rows serves for a part of them. Assumes nothing.
use Rattle.std.proofs.Common.{◌≡◌, ℕ, zero, suc, ◌≤◌, Bool, List, [], ◌∷◌, length, take, drop, None, Ok, refl, ap, subst, arith}
use Rattle.std.proofs.lemmas.List.{take-append-drop, length-take, length-drop}
use Rattle.rows.specs.Rows.{count_runs}
use Rattle.rows.proofs.Counts.{runs-front}
use Rattle.runs.specs.Sinks.{Verdict}
use Rattle.stored.specs.Ends.{Serves}

runs-later : (x : Bool) (xs : List Bool) → count_runs xs ≤ count_runs (x ∷ xs)
runs-later x [] = omega arith
runs-later x (y ∷ xs) = omega arith

runs-rest : (n : ℕ) (xs : List Bool) → count_runs (drop n xs) ≤ count_runs xs
runs-rest zero xs = omega arith
runs-rest (suc n) [] = omega arith
runs-rest (suc n) (x ∷ xs) = omega (arith, runs-rest n xs, runs-later x xs)

runs-first : (n : ℕ) (xs : List Bool) → count_runs (take n xs) ≤ count_runs xs
runs-first n xs = subst (λ ys. count_runs (take n xs) ≤ count_runs ys) (take-append-drop n xs) (runs-front None (take n xs) (drop n xs))

-- the first rows, and those after them
pub serves-first : (n : ℕ) (xs : List Bool) → Serves (Ok tt) xs (Ok tt) (take n xs)
serves-first n xs = record { refused = refl; runs = runs-first n xs; rows = omega (arith, length-take n xs) }

pub serves-rest : (v : Verdict) (n : ℕ) (xs ys : List Bool) → ys ≡ xs → Serves (Ok tt) xs v (drop n ys)
serves-rest v n xs ys e = record {
  refused = refl;
  runs = subst (λ zs. count_runs (drop n ys) ≤ count_runs zs) e (runs-rest n ys);
  rows = omega (arith, length-drop n ys, ap length e);
}
