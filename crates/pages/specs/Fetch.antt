-- What is fetched, in terms of the rows that pages hold: no page too few, and none too many.
use Rattle.std.specs.Prelude.{◌≡◌, ℕ, suc, ◌<◌, ◌≤◌, Bool, true, false, ◌⊎◌, List, [], ◌∷◌, map, length, drop, pos, slice_index_or}
use Rattle.pages.specs.declared.page.PageLocation.{PageLocation}
use Rattle.rows.specs.Ranges.{RowRange}
use Rattle.pages.specs.declared.span.PageSpan.{PageSpan}
use Rattle.pages.specs.Pages.{ByteRange, first_row, byte_range, next_of, span, span_rows}

-- what is read past the end of a list
abbrev pub no_page : PageLocation
no_page = record { offset = pos 0; compressed_page_size = pos 0; first_row_index = pos 0 }

-- page k of a list
abbrev pub page_at : List PageLocation → ℕ → PageLocation
page_at ps k = slice_index_or ps k no_page

-- page k of a list with the one after it, if any
abbrev pub span_at : List PageLocation → ℕ → PageSpan
span_at ps k = span (page_at ps k) (next_of (drop (suc k) ps))

-- the bytes of page k: from its offset up to its offset and size
abbrev pub bytes_at : List PageLocation → ℕ → ByteRange
bytes_at ps k = byte_range (page_at ps k)

-- the rows of page k: from its first up to the next page's first, the last page up to the total
abbrev pub rows_at : ℕ → List PageLocation → ℕ → RowRange
rows_at total ps k = span_rows total (span_at ps k)

-- page k holds the row r: from its first row up to the next page's, the last page every row from its first on
abbrev pub Holds : List PageLocation → ℕ → ℕ → Type 0
Holds ps k r = (k < length ps) × (first_row (page_at ps k) ≤ r) × (suc k < length ps → r < first_row (page_at ps (suc k)))

-- the row r is selected; a row past the end is not
abbrev pub Selected : List Bool → ℕ → Type 0
Selected rows r = slice_index_or rows r false ≡ true

-- k stands in ks
abbrev pub In : ℕ → List ℕ → Type 0
In k [] = ⊥
In k (j ∷ ks) = (k ≡ j) ⊎ In k ks

-- in order, each once
abbrev pub Ascending : List ℕ → Type 0
Ascending [] = Unit {0}
Ascending (k ∷ ks) = ((j : ℕ) → In j ks → k < j) × Ascending ks

-- each selected row lies in a page of the choice
abbrev pub Covers : List PageLocation → List Bool → (ℕ → Type 0) → Type 0
Covers ps rows choice = (r : ℕ) → Selected rows r → (k : ℕ) × (choice k × Holds ps k r)

-- the ranges are those of the fewest pages that together hold every selected row: each page fetched holds one,
-- all selected rows lie in pages fetched, and no other choice of pages that holds them all can do without any of these
pub record FewestPages {X : Type 0} (ps : List PageLocation) (rows : List Bool) (range_at : ℕ → X) (ranges : List X) : Type 0 where
  pub fetched : List ℕ
  pub ranges_are : ranges ≡ map range_at fetched
  pub in_order : Ascending fetched
  pub each_holds : (k : ℕ) → In k fetched → (r : ℕ) × (Selected rows r × Holds ps k r)
  pub all_held : Covers ps rows (λ k. In k fetched)
  pub none_spare : (choice : ℕ → Bool) → Covers ps rows (λ k. choice k ≡ true) → (k : ℕ) → In k fetched → choice k ≡ true
