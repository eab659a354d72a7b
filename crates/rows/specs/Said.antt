-- The rules as people say them, of row i. Each statement is proved of the definitions in `Rules`, `Rows` and `Chunks`.
use Rattle.std.specs.Prelude.{◌≡◌, ℕ, ◌-◌, ◌<◌, ◌≤◌, min, max, Bool, true, false, ◌&&◌, List, [], ◌++◌, length, get_or, take, drop, replicate, Option, slice_index_or, slice_range}
use Rattle.rows.specs.declared.selector.RowSelector.{RowSelector}
use Rattle.rows.specs.Rows.{selected_count, rank, run_rows, canonical}
use Rattle.rows.specs.Rules.{and_then, combine, split_front, split_rest, offset, limit, trimmed}
use Rattle.rows.specs.Chunks.{next_selected, is_loaded, loaded_end, rows_of_chunk}

-- row i is selected; a row past the end is not
abbrev pub Selects : List Bool → ℕ → Bool
Selects xs i = slice_index_or xs i false

-- row i is selected iff the first selects it and the second selects its rank; the length is the first's
abbrev pub ByRank : List Bool → List Bool → List Bool → Type 0
ByRank xs ys zs = (length zs ≡ length xs) × ((i : ℕ) → Selects zs i ≡ (Selects xs i && Selects ys (rank xs i)))

-- where both have row i, its mark is f of the two; beyond the shorter, it is the longer's
pub record RowByRow (f : Bool → Bool → Bool) (xs ys zs : List Bool) : Type 0 where
  pub long : length zs ≡ max (length xs) (length ys)
  pub both : (i : ℕ) → i < length xs → i < length ys → Selects zs i ≡ f (Selects xs i) (Selects ys i)
  pub first : (i : ℕ) → length ys ≤ i → Selects zs i ≡ Selects xs i
  pub second : (i : ℕ) → length xs ≤ i → Selects zs i ≡ Selects ys i

-- the first n rows, or all when there are fewer, and the rows after them
pub record Split (n : ℕ) (xs front rest : List Bool) : Type 0 where
  pub whole : front ++ rest ≡ xs
  pub long : length front ≡ min n (length xs)

-- n = 0 changes nothing; with no selected row past the n-th nothing is left; else row i is selected iff it was and its rank is n or more
pub record Offset (n : ℕ) (xs zs : List Bool) : Type 0 where
  pub still : n ≡ 0 → zs ≡ xs
  pub empty : 0 < n → selected_count xs ≤ n → zs ≡ []
  pub long : n < selected_count xs → length zs ≡ length xs
  pub early : n < selected_count xs → (i : ℕ) → rank xs i < n → Selects zs i ≡ false
  pub late : n < selected_count xs → (i : ℕ) → n ≤ rank xs i → Selects zs i ≡ Selects xs i

-- rows from the start: all of them where fewer than n are selected, else up to the n-th selected one, which is the last; none for n = 0
pub record Limited (n : ℕ) (xs zs : List Bool) : Type 0 where
  pub front : zs ≡ take (length zs) xs
  pub count : selected_count zs ≡ min n (selected_count xs)
  pub all : selected_count xs < n → zs ≡ xs
  pub none : n ≡ 0 → zs ≡ []
  pub last : 0 < n → n ≤ selected_count xs → slice_index_or zs (length zs - 1) false ≡ true

-- only skipped rows are dropped, and the last row left, if any, is selected
pub record Trimmed (xs zs : List Bool) : Type 0 where
  pub dropped : ℕ
  pub whole : zs ++ replicate dropped false ≡ xs
  pub last : get_or zs (length zs - 1) true ≡ true

-- a chunk that is answered at the position p: s is the next selected row and e the end of the loaded run that holds it, at most the length;
-- the chunk starts at s, has the first selected rows before e up to the batch size, and ends just past the last of them
pub record Chunked (size : ℕ) (loaded : Option (List Bool)) (xs : List Bool) (p s e : ℕ) (rows : List Bool) : Type 0 where
  pub passed : (i : ℕ) → p ≤ i → i < s → Selects xs i ≡ false
  pub first : Selects xs s ≡ true
  pub loads : (i : ℕ) → s ≤ i → i < e → is_loaded loaded i ≡ true
  pub ends : e < length xs → is_loaded loaded e ≡ false
  pub stands : rows ≡ take (length rows) (drop s xs)
  pub count : selected_count rows ≡ min size (selected_count (slice_range xs s e))
  pub last : get_or rows (length rows - 1) true ≡ true

-- the chunk rule, of rows with a selected one from p on and the next selected one loaded
abbrev pub ChunkRule : ℕ → Option (List Bool) → List Bool → ℕ → Type 0
ChunkRule size loaded xs p =
    let s = next_selected xs p in
    let e = loaded_end loaded s (length xs) in
    0 < selected_count (drop p xs) → is_loaded loaded s ≡ true → Chunked size loaded xs p s e (rows_of_chunk size s e xs)

-- two run lists with the same rows are the same
abbrev pub OneList : List RowSelector → List RowSelector → Type 0
OneList ks ls = canonical ks ≡ true → canonical ls ≡ true → run_rows ks ≡ run_rows ls → ks ≡ ls

pub record Said : Type 0 where
  pub and_then : (xs ys : List Bool) → ByRank xs ys (and_then xs ys)
  pub combining : (f : Bool → Bool → Bool) (xs ys : List Bool) → RowByRow f xs ys (combine f xs ys)
  pub split_off : (n : ℕ) (xs : List Bool) → Split n xs (split_front n xs) (split_rest n xs)
  pub offsetting : (n : ℕ) (xs : List Bool) → Offset n xs (offset n xs)
  pub limiting : (n : ℕ) (xs : List Bool) → Limited n xs (limit n xs)
  pub trimming : (xs : List Bool) → Trimmed xs (trimmed xs)
  pub chunks : (size : ℕ) (loaded : Option (List Bool)) (xs : List Bool) (p : ℕ) → ChunkRule size loaded xs p
  pub one_list : (ks ls : List RowSelector) → OneList ks ls
