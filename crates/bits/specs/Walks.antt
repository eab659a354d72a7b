-- What a walk over the selected rows has left, and what a step of it gives.
use Rattle.std.specs.Prelude.{◌≡◌, ℕ, ◌-◌, ◌<◌, ◌≤◌, Bool, true, false, List, [], ◌++◌, length, drop, replicate, Option, MatchOption}
use Rattle.rows.specs.Rows.{chosen, NotFirst}
use Rattle.bits.specs.declared.walks.RowsLeft.{RowsLeft}
use Rattle.bits.specs.declared.walks.SetSlices.{SetSlices}
use Rattle.bits.specs.declared.walks.SetIndices.{SetIndices}
use Rattle.bits.specs.Masks.{rows}

-- the rows that are not passed, from row `at` on
abbrev pub rows_left : RowsLeft → List Bool
rows_left l = drop l.at (rows l.mask)

-- the given row of xs is row `at`, and there is none exactly where no row is left from there on
abbrev pub StandsAt : List Bool → ℕ → Option ℕ → Type 0
StandsAt xs at row = MatchOption row (drop at xs ≡ []) (λ i. (i ≡ at) × (i < length xs))

-- the rows that a walk over spans has not passed
abbrev pub slices_left : SetSlices → List Bool
slices_left s = rows_left s.left

-- the rows that a walk over single rows has not passed, and the numbers of the selected ones of them
abbrev pub indices_left : SetIndices → List Bool
indices_left s = rows_left s.left

abbrev pub indices : SetIndices → List ℕ
indices s = chosen s.left.at (indices_left s)

-- from row p on xs is: skipped rows up to row start, selected ones up to row end, and then, from row q on, ys, which does not begin with a selected row
pub record Spanned (p : ℕ) (xs : List Bool) (start end q : ℕ) (ys : List Bool) : Type 0 where
  pub after : p ≤ start
  pub some : start < end
  pub next : q ≡ end
  pub whole : xs ≡ replicate (start - p) false ++ (replicate (end - start) true ++ ys)
  pub stops : NotFirst true ys
