-- Consecutive ranges of a total: which lists of ranges are accepted, and which rows they select.
use Rattle.std.specs.Prelude.{◌≡◌, ℕ, suc, ◌-◌, Bool, true, false, cond, ◌&&◌, ◌||◌, List, [], ◌∷◌, ◌++◌, length, replicate, Some, None, Option, ◌==◌, nat_le, nat_lt}
use Rattle.rows.specs.declared.range.Span.{Span}
use Rattle.rows.specs.Said.{Selects}

-- rows from the start on, before the end
abbrev pub RowRange : Type 0
RowRange = Span ℕ

-- a range with no row, which is ignored wherever it stands
abbrev pub is_void : RowRange → Bool
is_void r = r.start == r.end

-- a range that runs backward, before the previous end p, or past the total
abbrev pub is_bad : ℕ → ℕ → RowRange → Bool
is_bad total p r = nat_lt r.end r.start || (nat_lt r.start p || nat_lt total r.end)

-- the first bad range, where the first of them has the index k and the previous end is p
abbrev pub bad_range : ℕ → ℕ → ℕ → List RowRange → Option ℕ
bad_range total p k [] = None
bad_range total p k (r ∷ rs) =
    cond (is_void r) (bad_range total p (suc k) rs)
    (cond (is_bad total p r) (Some k) (bad_range total r.end (suc k) rs))

-- the rows from row p on: skipped up to each range, selected in it, and skipped after the last up to the total
abbrev pub range_rows : ℕ → ℕ → List RowRange → List Bool
range_rows total p [] = replicate (total - p) false
range_rows total p (r ∷ rs) =
    cond (is_void r) (range_rows total p rs)
    (replicate (r.start - p) false ++ (replicate (r.end - r.start) true ++ range_rows total r.end rs))

-- some range holds row i
abbrev pub holds : RowRange → ℕ → Bool
holds r i = nat_le r.start i && nat_lt i r.end

abbrev pub any_holds : List RowRange → ℕ → Bool
any_holds [] i = false
any_holds (r ∷ rs) i = holds r i || any_holds rs i

-- there are as many rows as the total says, and a row is selected iff some range holds it
abbrev pub InRanges : ℕ → List RowRange → List Bool → Type 0
InRanges total rs zs = (length zs ≡ total) × ((i : ℕ) → Selects zs i ≡ any_holds rs i)
