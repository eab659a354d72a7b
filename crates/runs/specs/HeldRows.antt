-- What a source with a run begun has left.
use Rattle.std.specs.Prelude.{Bool, List, ◌++◌}
use Rattle.rows.specs.Rows.{run_of}
use Rattle.runs.specs.declared.held.Held.{Held}

abbrev pub held_rows : {S : Type 0} → (S → List Bool) → Held S → List Bool
held_rows rows h = run_of h.run ++ rows h.source
