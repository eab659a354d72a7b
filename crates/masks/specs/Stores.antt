-- Bytes of a word stored among others.
use Rattle.std.specs.Prelude.{◌≡◌, ℕ, ◌+◌, ◌*◌, ◌/◌, ◌%◌, ◌^◌, ◌<◌, List, length, drop, slice_index}

-- ys is xs with the n low bytes of the word w from byte i on
pub record Stored (xs : List ℕ) (i w n : ℕ) (ys : List ℕ) : Type 0 where
  pub long : length ys ≡ length xs
  pub old : (j : ℕ) → j < i → slice_index ys j ≡ slice_index xs j
  pub new : (j : ℕ) → j < n → slice_index ys (i + j) ≡ w / 2 ^ (8 * j) % 2 ^ 8
  pub rest : drop (i + n) ys ≡ drop (i + n) xs
