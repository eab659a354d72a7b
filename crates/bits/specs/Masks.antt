-- What a mask says: its rows, when making one is refused, and what the searches in it answer.
use Rattle.std.specs.Prelude.{ℕ, ◌+◌, ◌-◌, ◌*◌, Bool, false, cond, List, length, drop, Some, None, Ok, Err, Option, Result, ◌==◌, nat_lt, slice_index_or}
use Rattle.refusals.specs.declared.refusal.Refusal.{Refusal}
use Rattle.refusals.specs.Refusals.{refused, selection, bits}
use Rattle.rows.specs.Rows.{row_limit}
use Rattle.rows.specs.Rules.{trimmed}
use Rattle.rows.specs.Chunks.{leading}
use Rattle.bits.specs.declared.mask.Mask.{Mask}
use Rattle.bits.specs.Bits.{mask_rows}

-- the rows of a mask
abbrev pub rows : Mask → List Bool
rows m = mask_rows m.bytes.now m.offset m.len

-- whether a call was refused, without its answer
abbrev pub answered : {X E : Type 0} → Result X E → Result (Unit {0}) E
answered (Ok x) = Ok tt
answered (Err e) = Err e

-- rows that lie in their bytes: refused by 2, at the number of rows that the bytes allow from the offset on
abbrev pub within_verdict : List ℕ → ℕ → ℕ → Result (Unit {0}) Refusal
within_verdict bytes offset len =
    cond (nat_lt (8 * length bytes) (offset + len)) (refused 2 (8 * length bytes - offset) bits) (Ok tt)

-- making a mask: refused by 1 past the row limit, then by 2 past the bytes
abbrev pub mask_verdict : List ℕ → ℕ → ℕ → Result (Unit {0}) Refusal
mask_verdict bytes offset len = cond (nat_lt row_limit len) (refused 1 0 selection) (within_verdict bytes offset len)

-- the mark of row i, where there is such a row
abbrev pub value_at : List Bool → ℕ → Option Bool
value_at xs i = cond (nat_lt i (length xs)) (Some (slice_index_or xs i false)) None

-- the first row after row i whose mark differs from that of row i, or the length
abbrev pub next_change : List Bool → ℕ → ℕ
next_change xs i = cond (nat_lt i (length xs)) (i + leading (slice_index_or xs i false) (drop i xs)) (length xs)

-- the last selected row, where there is one
abbrev pub last_selected : List Bool → Option ℕ
last_selected xs = cond (length (trimmed xs) == 0) None (Some (length (trimmed xs) - 1))
