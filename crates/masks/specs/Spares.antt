-- The bytes of a mask that starts at bit 0.
use Rattle.std.specs.Prelude.{ℕ, ◌+◌, ◌/◌, ◌%◌, ◌^◌, ◌<◌, List, slice_index}

-- the bytes of n rows
abbrev pub bytes_of : ℕ → ℕ
bytes_of n = (n + 7) / 8

-- the spare bits of the last byte are zero
abbrev pub Spare : ℕ → List ℕ → Type 0
Spare n bytes = 0 < n % 8 → slice_index bytes (n / 8) < 2 ^ (n % 8)
