-- One call of a source, of a source with a run begun, and of a list of pieces.
use Rattle.std.specs.Prelude.{◌≡◌, ◌<◌, Bool, not, List, [], ◌++◌, Some, None, Option}
use Rattle.rows.specs.declared.selector.RowSelector.{RowSelector}
use Rattle.rows.specs.Rows.{run_of, NotFirst}

-- one call of next_run at the rows xs, with ys left: the whole leading run, or none exactly when no row is left
abbrev pub Next : List Bool → Option RowSelector → List Bool → Type 0
Next xs None ys = (xs ≡ []) × (ys ≡ [])
Next xs (Some r) ys = (0 < r.row_count) × (xs ≡ run_of r ++ ys) × NotFirst (not r.skip) ys

-- after a peek: the run begun, which has a row, or no row at all
abbrev pub Ready : Option RowSelector → RowSelector → List Bool → Type 0
Ready (Some r) run xs = (0 < r.row_count) × (run ≡ r)
Ready None run xs = xs ≡ []

-- one piece at the rows xs, with ys left; what follows may be alike
abbrev pub Piece : List Bool → Option RowSelector → List Bool → Type 0
Piece xs None ys = (xs ≡ []) × (ys ≡ [])
Piece xs (Some r) ys = (0 < r.row_count) × (xs ≡ run_of r ++ ys)
