-- What a mask place holds.
use Rattle.std.specs.Prelude.{◌≡◌, ℕ, ◌+◌, ◌≤◌, Bool, List, ◌++◌, length, drop}
use Rattle.rows.specs.Rows.{row_limit}
use Rattle.bits.specs.Bits.{mask_rows}
use Rattle.masks.specs.declared.place.MaskPlace.{MaskPlace}
use Rattle.masks.specs.Spares.{bytes_of}

-- its rows, from bit 0 on
abbrev pub written : MaskPlace → List Bool
written s = mask_rows s.bytes.now 0 s.len

-- the same memory, and nothing altered beyond the bytes that t uses
abbrev pub Untouched : MaskPlace → MaskPlace → Type 0
Untouched s t = (t.bytes.ghost_name ≡ s.bytes.ghost_name) × (length t.bytes.now ≡ length s.bytes.now) × (drop (bytes_of t.len) t.bytes.now ≡ drop (bytes_of t.len) s.bytes.now)

-- there is room for n rows more
abbrev pub HasRoom : MaskPlace → ℕ → Type 0
HasRoom s n = (bytes_of (s.len + n) ≤ length s.bytes.now) × (s.len + n ≤ row_limit)

-- the n rows xs stand after those of s, and nothing else is altered
pub record Appended (s : MaskPlace) (n : ℕ) (xs : List Bool) (t : MaskPlace) : Type 0 where
  pub rows : written t ≡ written s ++ xs
  pub len : t.len ≡ s.len + n
  pub rest : Untouched s t
