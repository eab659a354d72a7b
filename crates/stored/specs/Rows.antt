-- The rows of selections that own their memory.
use Rattle.std.specs.Prelude.{Bool, true, false, List}
use Rattle.rows.specs.Rows.{run_rows}
use Rattle.bits.specs.Bits.{mask_rows}
use Rattle.stored.specs.declared.bytes.StoredMask.{StoredMask}
use Rattle.stored.specs.declared.stored_runs.StoredRuns.{StoredRuns}
use Rattle.stored.specs.declared.held.Stored.{Stored}
use Rattle.stored.specs.declared.held.Stored.TheVariants.{Runs, Mask}

abbrev pub rows_of_runs : StoredRuns → List Bool
rows_of_runs s = run_rows s.runs.items

abbrev pub rows_of_mask : StoredMask → List Bool
rows_of_mask m = mask_rows m.bytes.items m.offset m.len

abbrev pub stored_rows : Stored → List Bool
stored_rows (Runs s) = rows_of_runs s
stored_rows (Mask m) = rows_of_mask m

-- whether it is in a mask
abbrev pub in_mask : Stored → Bool
in_mask (Runs s) = false
in_mask (Mask m) = true
