-- The row rules. Each is a recursion over the rows, so that a proof goes row by row; `Said` has what each says of row i.
use Rattle.std.specs.Prelude.{ℕ, zero, suc, ◌*◌, Bool, true, false, cond, ◌||◌, List, [], ◌∷◌, length, take, drop, ◌==◌, nat_lt}
use Rattle.rows.specs.declared.strategy.RowSelectionStrategy.{RowSelectionStrategy}
use Rattle.rows.specs.declared.strategy.RowSelectionStrategy.TheVariants.{Selectors, Mask}
use Rattle.rows.specs.Rows.{selected_count, count_runs}

-- and_then: the second's marks, in order, stand at the rows that the first selects
abbrev pub and_then : List Bool → List Bool → List Bool
and_then [] ys = []
and_then (false ∷ xs) ys = false ∷ and_then xs ys
and_then (true ∷ xs) [] = false ∷ and_then xs []
and_then (true ∷ xs) (y ∷ ys) = y ∷ and_then xs ys

-- combining under a policy f: beyond the shorter, the longer's rows pass through
abbrev pub combine : (Bool → Bool → Bool) → List Bool → List Bool → List Bool
combine f [] ys = ys
combine f (x ∷ xs) [] = x ∷ xs
combine f (x ∷ xs) (y ∷ ys) = f x y ∷ combine f xs ys

-- split_off: the answer is the first n rows, and the rest is kept
abbrev pub split_front : ℕ → List Bool → List Bool
split_front n xs = take n xs

abbrev pub split_rest : ℕ → List Bool → List Bool
split_rest n xs = drop n xs

-- the first n selected rows are skipped instead
abbrev pub skip_selected : ℕ → List Bool → List Bool
skip_selected zero xs = xs
skip_selected (suc n) [] = []
skip_selected (suc n) (false ∷ xs) = false ∷ skip_selected (suc n) xs
skip_selected (suc n) (true ∷ xs) = false ∷ skip_selected n xs

-- offset: where no selected row is past the n-th, nothing is left
abbrev pub offset : ℕ → List Bool → List Bool
offset zero xs = xs
offset (suc n) xs = cond (nat_lt (suc n) (selected_count xs)) (skip_selected (suc n) xs) []

-- limit: up to and with the n-th selected row, or all rows where there are fewer
abbrev pub limit : ℕ → List Bool → List Bool
limit zero xs = []
limit (suc n) [] = []
limit (suc n) (false ∷ xs) = false ∷ limit (suc n) xs
limit (suc n) (true ∷ xs) = true ∷ limit n xs

-- trim: a row is dropped when it and all rows after it are skipped
abbrev pub keep_front : Bool → List Bool → List Bool
keep_front true xs = true ∷ xs
keep_front false [] = []
keep_front false (x ∷ xs) = false ∷ (x ∷ xs)

abbrev pub trimmed : List Bool → List Bool
trimmed [] = []
trimmed (x ∷ xs) = keep_front x (trimmed xs)

-- one past the n-th selected row; 0 for n = 0, and the length where fewer are selected
abbrev pub nth_end : ℕ → List Bool → ℕ
nth_end n xs = length (limit n xs)

-- auto_selection_strategy: a mask where there are no runs, or fewer rows than runs times the threshold
abbrev pub strategy : ℕ → List Bool → RowSelectionStrategy
strategy threshold xs = cond (count_runs xs == 0 || nat_lt (length xs) (count_runs xs * threshold)) Mask Selectors
