-- Pages, the lists of them that are accepted, and the ones that hold a selected row.
use Rattle.std.specs.Prelude.{◌≡◌, ℕ, suc, ◌+◌, ◌-◌, Bool, cond, ◌&&◌, List, [], ◌∷◌, map, length, take, drop, pos, Some, None, Option, ◌==◌, int_le, int_lt, nat_lt, unsigned_abs}
use Rattle.rows.specs.Rows.{row_limit}
use Rattle.pages.specs.declared.page.PageLocation.{PageLocation}
use Rattle.rows.specs.declared.range.Span.{Span}
use Rattle.rows.specs.Ranges.{RowRange}
use Rattle.rows.specs.Rows.{any_row}
use Rattle.pages.specs.declared.span.PageSpan.{PageSpan}

-- bytes of a column, from the start on, before the end
abbrev pub ByteRange : Type 0
ByteRange = Span ℕ

-- the numbers of a page, none of which is negative where it is fine
abbrev pub first_row : PageLocation → ℕ
first_row p = unsigned_abs p.first_row_index

abbrev pub start_of : PageLocation → ℕ
start_of p = unsigned_abs p.offset

abbrev pub size_of : PageLocation → ℕ
size_of p = unsigned_abs p.compressed_page_size

-- the bytes of a page
abbrev pub byte_range : PageLocation → ByteRange
byte_range p = record { start = start_of p; end = start_of p + size_of p }

-- nothing is negative, and the first row is within the row limit
abbrev pub fine : PageLocation → Bool
fine p = int_le (pos 0) p.offset && (int_le (pos 0) p.compressed_page_size && (int_le (pos 0) p.first_row_index && int_le p.first_row_index (pos row_limit)))

-- the first page starts at row 0; after another page, offset and first row rise
abbrev pub follows : Option PageLocation → PageLocation → Bool
follows None p = first_row p == 0
follows (Some q) p = int_lt q.offset p.offset && int_lt q.first_row_index p.first_row_index

-- the page p may stand after the page q, if any
abbrev pub fits : Option PageLocation → PageLocation → Bool
fits q p = fine p && follows q p

-- how many pages from the start on are in order, after the page q, if any
abbrev pub in_order : Option PageLocation → List PageLocation → ℕ
in_order q [] = 0
in_order q (p ∷ ps) = cond (fits q p) (suc (in_order (Some p) ps)) 0

-- an accepted list has a page, and all its pages are in order
abbrev pub accepted : List PageLocation → Bool
accepted ps = nat_lt 0 (length ps) && in_order None ps == length ps

-- the first page of a list
abbrev pub next_of : List PageLocation → Option PageLocation
next_of [] = None
next_of (p ∷ ps) = Some p

-- of the rows from a page's first row on, those that it holds
abbrev pub own : PageLocation → Option PageLocation → List Bool → List Bool
own p None xs = xs
own p (Some q) xs = take (first_row q - first_row p) xs

-- and those after them
abbrev pub later : PageLocation → Option PageLocation → List Bool → List Bool
later p None xs = []
later p (Some q) xs = drop (first_row q - first_row p) xs

-- the rows that are left after a page's own; after the last page, nothing is said
abbrev pub Left : PageLocation → Option PageLocation → List Bool → List Bool → Type 0
Left p None xs ys = Unit {0}
Left p (Some q) xs ys = ys ≡ later p (Some q) xs

-- a page with the one after it, if any
abbrev pub span : PageLocation → Option PageLocation → PageSpan
span p q = record { page = p; next = q }

-- the pages that hold a selected row, in order, each with the one after it; the rows count from the first page's first row
abbrev pub wanted_pages : List PageLocation → List Bool → List PageSpan
wanted_pages [] xs = []
wanted_pages (p ∷ ps) xs = cond (any_row (own p (next_of ps) xs)) (span p (next_of ps) ∷ wanted_pages ps (later p (next_of ps) xs)) (wanted_pages ps (later p (next_of ps) xs))

-- the bytes of a page with the one after it
abbrev pub span_bytes : PageSpan → ByteRange
span_bytes s = byte_range s.page

-- the row before which a page ends: the next page's first, or the total for the last page
abbrev pub end_of : ℕ → Option PageLocation → ℕ
end_of total None = total
end_of total (Some q) = first_row q

-- the rows of a page with the one after it
abbrev pub span_rows : ℕ → PageSpan → RowRange
span_rows total s = record { start = first_row s.page; end = end_of total s.next }

-- the byte ranges of the pages that hold a selected row
abbrev pub scanned : List PageLocation → List Bool → List ByteRange
scanned ps xs = map span_bytes (wanted_pages ps xs)

-- the row ranges of those pages, where the last page ends at the total
abbrev pub page_rows : ℕ → List PageLocation → List Bool → List RowRange
page_rows total ps xs = map (span_rows total) (wanted_pages ps xs)

-- the last page's first row
abbrev pub last_first : List PageLocation → ℕ
last_first [] = 0
last_first (p ∷ []) = first_row p
last_first (p ∷ q ∷ ps) = last_first (q ∷ ps)
