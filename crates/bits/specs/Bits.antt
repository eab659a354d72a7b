-- The rows of a string of bytes: row p is bit p mod 8 of byte p div 8, bit 0 the least significant.
use Rattle.std.specs.Prelude.{ℕ, ◌/◌, ◌%◌, ◌^◌, Bool, List, map, ◌==◌, slice_index}
use Rattle.std.specs.List.{range_with_len}

-- the binary digit of n at place k, 0 or 1
unfoldable pub digit : ℕ → ℕ → ℕ
digit n k = n / 2 ^ k % 2

-- whether bit k of n is set
unfoldable pub bit_at : ℕ → ℕ → Bool
bit_at n k = digit n k == 1

-- the bit at place p of a string of bytes; past the bytes it is not set
unfoldable pub row_at : List ℕ → ℕ → Bool
row_at bytes p = bit_at (slice_index bytes (p / 8)) (p % 8)

-- f a, f (a + 1), .., n of them
unfoldable pub rows_of : (ℕ → Bool) → ℕ → ℕ → List Bool
rows_of f a n = map f (range_with_len a n)

-- the rows of a mask: len of them, from the bit at offset on
abbrev pub mask_rows : List ℕ → ℕ → ℕ → List Bool
mask_rows bytes offset len = rows_of (row_at bytes) offset len

-- the n low bits of a word, as rows
abbrev pub word_rows : ℕ → ℕ → List Bool
word_rows w n = rows_of (bit_at w) 0 n
