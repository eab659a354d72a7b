-- What is refused, in which order, and the number of ranges that is told otherwise.
use Rattle.std.specs.Prelude.{ℕ, Bool, cond, ◌||◌, List, length, None, Result, nat_le, nat_lt}
use Rattle.refusals.specs.declared.refusal.Refusal.{Refusal}
use Rattle.refusals.specs.Refusals.{refused, selection}
use Rattle.rows.specs.Rows.{row_limit}
use Rattle.pages.specs.declared.page.PageLocation.{PageLocation}
use Rattle.pages.specs.Pages.{in_order, accepted, scanned, page_rows, last_first}
use Rattle.pages.specs.Items.{stored}

-- refused by 6 at the first page at fault, else as given
abbrev pub if_accepted : List PageLocation → Result ℕ Refusal → Result ℕ Refusal
if_accepted ps given = cond (accepted ps) given (refused 6 (in_order None ps) selection)

-- the list by 6, then the place by 12
abbrev pub scan_verdict : ℕ → List PageLocation → List Bool → Result ℕ Refusal
scan_verdict size ps xs = if_accepted ps (stored size (scanned ps xs))

-- a total below the selection's length, or not above the last page's first row
abbrev pub bad_total : ℕ → List PageLocation → List Bool → Bool
bad_total total ps xs = nat_lt total (length xs) || nat_le total (last_first ps)

-- a total above the row limit by 1, the list by 6, a bad total by 7, then the place by 12
abbrev pub rows_verdict : ℕ → ℕ → List PageLocation → List Bool → Result ℕ Refusal
rows_verdict size total ps xs =
    cond (nat_lt row_limit total) (refused 1 0 selection)
    (if_accepted ps (cond (bad_total total ps xs) (refused 7 total selection) (stored size (page_rows total ps xs))))
