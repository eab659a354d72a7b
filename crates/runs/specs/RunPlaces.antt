-- A run list that grows at its end.
use Rattle.std.specs.Prelude.{◌≡◌, ◌≤◌, Bool, List, ◌++◌, length, Some, None, Option, Ok, Err, Result, ◌≢◌}
use Rattle.rows.specs.declared.selector.RowSelector.{RowSelector}
use Rattle.rows.specs.Rows.{run_rows}
use Rattle.runs.specs.declared.place.Place.{Place}
use Rattle.runs.specs.declared.place.Full.{Full}
use Rattle.runs.specs.Places.{held, last_of}

-- the last run, if there is one, does not have the skip mark s
abbrev pub Apart : List RowSelector → Bool → Type 0
Apart ks s = (l : RowSelector) → last_of ks ≡ Some l → l.skip ≢ s

-- the last run, exactly where it has the skip mark s
abbrev pub Joins : List RowSelector → Bool → Option RowSelector → Type 0
Joins ks s None = Apart ks s
Joins ks s (Some l) = (last_of ks ≡ Some l) × (l.skip ≡ s)

-- rows offered to a list of runs: taken, or left where no slot is free
abbrev pub Offers : Place RowSelector → List Bool → Result (Unit {0}) Full → Place RowSelector → Type 0
Offers s ys (Ok u) t = run_rows (held t) ≡ run_rows (held s) ++ ys
Offers s ys (Err e) t = (length s.slots.now ≤ s.len) × (t ≡ s)
