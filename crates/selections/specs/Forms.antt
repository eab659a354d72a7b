-- The rows of a selection, whichever form it has.
use Rattle.std.specs.Prelude.{Bool, List}
use Rattle.either.specs.Either.{either}
use Rattle.rows.specs.Rows.{run_rows}
use Rattle.masks.specs.Left.{left}
use Rattle.selections.specs.declared.form.RowSelection.{RowSelection}

abbrev pub selection_rows : RowSelection → List Bool
selection_rows s = either (λ l. run_rows l.runs.now) left s.form
