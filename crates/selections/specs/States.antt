-- The rows of a selection and of a trimmed one, over any source.
use Rattle.std.specs.Prelude.{Bool, List}
use Rattle.selections.specs.declared.states.Selection.{Selection}
use Rattle.selections.specs.declared.states.TrimmedSelection.{TrimmedSelection}

abbrev pub rows_of : {S : Type 0} → (S → List Bool) → Selection S → List Bool
rows_of rows s = rows s.source

abbrev pub trimmed_rows : {S : Type 0} → (S → List Bool) → TrimmedSelection S → List Bool
trimmed_rows rows s = rows s.source
