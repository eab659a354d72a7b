-- Rows and runs. A selection is a list of row marks, true where the row is selected and false where it is skipped; row 0 stands first.
use Rattle.std.specs.Prelude.{◌≡◌, ℕ, suc, ◌+◌, Bool, true, false, cond, not, ◌&&◌, ◌||◌, List, [], ◌∷◌, ◌++◌, take, replicate, Some, None, Option, nat_lt}
use Rattle.rows.specs.declared.selector.RowSelector.{RowSelector}

-- the most rows that a selection may have
abbrev pub row_limit : ℕ
row_limit = 1073741824

-- how many rows are selected
abbrev pub selected_count : List Bool → ℕ
selected_count [] = 0
selected_count (true ∷ xs) = suc (selected_count xs)
selected_count (false ∷ xs) = selected_count xs

-- the rank of row i: how many rows are selected before it
abbrev pub rank : List Bool → ℕ → ℕ
rank xs i = selected_count (take i xs)

-- the numbers of the selected rows, where the first row has the number k
abbrev pub chosen : ℕ → List Bool → List ℕ
chosen k [] = []
chosen k (true ∷ xs) = k ∷ chosen (suc k) xs
chosen k (false ∷ xs) = chosen (suc k) xs

-- some row is selected
abbrev pub any_row : List Bool → Bool
any_row [] = false
any_row (x ∷ xs) = x || any_row xs

-- the two marks are alike
abbrev pub same : Bool → Bool → Bool
same true b = b
same false b = not b

-- the rows of a run, and of runs one after another
abbrev pub run_of : RowSelector → List Bool
run_of r = replicate r.row_count (not r.skip)

abbrev pub run_rows : List RowSelector → List Bool
run_rows [] = []
run_rows (r ∷ rs) = run_of r ++ run_rows rs

-- the selected rows of one run
abbrev pub selected_in : RowSelector → ℕ
selected_in r = cond r.skip 0 r.row_count

-- the runs rs do not begin with a run of the skip mark s
abbrev pub unlike : Bool → List RowSelector → Bool
unlike s [] = true
unlike s (r ∷ rs) = not (same r.skip s)

-- a run list: no run of zero rows, and no two neighbours alike
abbrev pub canonical : List RowSelector → Bool
canonical [] = true
canonical (r ∷ rs) = nat_lt 0 r.row_count && (unlike r.skip rs && canonical rs)

-- 1 where a row with the mark b begins a whole run after a row with the mark p, if any
abbrev pub begins : Option Bool → Bool → ℕ
begins None b = 1
begins (Some p) b = cond (same p b) 0 1

-- the whole runs that begin in xs, after a row with the mark p, if any
abbrev pub runs_after : Option Bool → List Bool → ℕ
runs_after p [] = 0
runs_after p (x ∷ xs) = begins p x + runs_after (Some x) xs

-- how many whole runs the rows have
abbrev pub count_runs : List Bool → ℕ
count_runs xs = runs_after None xs

-- xs does not begin with the mark b
abbrev pub NotFirst : Bool → List Bool → Type 0
NotFirst b [] = Unit {0}
NotFirst b (x ∷ xs) = x ≡ b → ⊥
