-- What words say behind the arguments of a command.
use Rattle.std.specs.Prelude.{ℕ, ◌-◌, ◌^◌, true, false, cond, ◌&&◌, List, [], ◌∷◌, ℤ, pos, neg_ℤ, Some, None, Option, int_le}
use Rattle.std.specs.Option.{option_map}
use Rattle.rows.specs.Ranges.{RowRange}
use Rattle.rows.specs.declared.selector.RowSelector.{RowSelector}
use Rattle.pages.specs.declared.page.PageLocation.{PageLocation}
use Rattle.tokens.specs.Words.{Word, added, behind, number_of, signed_of, bytes_of}
use Rattle.scripts.specs.declared.grammar.Ending.{Ending}
use Rattle.scripts.specs.declared.grammar.Ending.TheVariants as ending

abbrev selected : ℕ → RowSelector
selected n = record { row_count = n; skip = false }

abbrev skipped : ℕ → RowSelector
skipped n = record { row_count = n; skip = true }

-- behind '+' (43), and behind '-' (45)
abbrev pub by_mark : Option Word → Option Word → Option RowSelector
by_mark None None = None
by_mark None (Some digits) = option_map skipped (number_of digits)
by_mark (Some digits) skip = option_map selected (number_of digits)

-- '+' and a number for selected rows, '-' and a number for skipped ones
abbrev pub run_of : Word → Option RowSelector
run_of w = by_mark (behind 43 w) (behind 45 w)

-- a run for each word
abbrev pub runs_of : List Word → Option (List RowSelector)
runs_of [] = Some []
runs_of (w ∷ ws) = added (run_of w) (runs_of ws)

abbrev pub range_from : Option ℕ → Option ℕ → Option RowRange
range_from None end = None
range_from (Some start) None = None
range_from (Some start) (Some end) = Some (record { start = start; end = end })

-- a start and an end
abbrev pub range_of : Word → Word → Option RowRange
range_of a b = range_from (number_of a) (number_of b)

-- a range for each two words
abbrev pub ranges_of : List Word → Option (List RowRange)
ranges_of [] = Some []
ranges_of (a ∷ []) = None
ranges_of (a ∷ b ∷ ws) = added (range_of a b) (ranges_of ws)

-- a signed number of k bits besides its sign: from -2^k up to 2^k - 1
abbrev pub fitting : ℕ → Option ℤ → Option ℤ
fitting k None = None
fitting k (Some z) = cond (int_le (neg_ℤ (pos (2 ^ k))) z && int_le z (pos (2 ^ k - 1))) (Some z) None

abbrev pub page_from : Option ℤ → Option ℤ → Option ℤ → Option PageLocation
page_from None size first = None
page_from (Some offset) None first = None
page_from (Some offset) (Some size) None = None
page_from (Some offset) (Some size) (Some first) = Some (record { offset = offset; compressed_page_size = size; first_row_index = first })

-- an offset, a size and a first row
abbrev pub page_of : Word → Word → Word → Option PageLocation
page_of a b c = page_from (fitting 63 (signed_of a)) (fitting 31 (signed_of b)) (fitting 63 (signed_of c))

-- a page for each three words
abbrev pub pages_of : List Word → Option (List PageLocation)
pages_of [] = Some []
pages_of (a ∷ []) = None
pages_of (a ∷ b ∷ []) = None
pages_of (a ∷ b ∷ c ∷ ws) = added (page_of a b c) (pages_of ws)

-- what stands behind the arguments
pub data Listed : Type 0 where
  nothing : Listed
  bytes : List ℕ → Listed
  runs : List RowSelector → Listed
  ranges : List RowRange → Listed
  pages : List PageLocation → Listed

-- no word at all
abbrev pub end_of : List Word → Option Listed
end_of [] = Some nothing
end_of (w ∷ ws) = None

-- just one word
abbrev pub lone_of : List Word → Option (List ℕ)
lone_of [] = None
lone_of (w ∷ []) = bytes_of w
lone_of (w ∷ x ∷ ws) = None

abbrev pub tail_of : Ending → List Word → Option Listed
tail_of ending.Nothing ws = end_of ws
tail_of ending.Bytes ws = option_map bytes (lone_of ws)
tail_of ending.Runs ws = option_map runs (runs_of ws)
tail_of ending.Ranges ws = option_map ranges (ranges_of ws)
tail_of ending.Pages ws = option_map pages (pages_of ws)
