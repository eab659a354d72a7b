-- Consecutive ranges by their first one. Assumes nothing.
use Rattle.std.proofs.Common.{◌≡◌, ℕ, suc, ◌+◌, ◌-◌, ◌<◌, Bool, true, false, cond, List, ◌∷◌, ◌++◌, length, get_or, drop, replicate, Some, Option, ap, ◌∙◌}
use Rattle.std.proofs.lemmas.List.{drop_more}
use Rattle.std.proofs.lemmas.Bool.{ne_eqb}
use Rattle.rows.specs.Ranges.{RowRange, is_void, is_bad, bad_range, range_rows}

-- ranges xs with the first range r
module _ (total p : ℕ) (xs : List RowRange) (r : RowRange) (rs : List RowRange) (e : xs ≡ r ∷ rs) where
  abbrev more : List Bool
  more = replicate (r.start - p) false ++ (replicate (r.end - r.start) true ++ range_rows total r.end rs)

  module _ (v : r.start ≡ r.end → ⊥) where
    pub some_first : range_rows total p xs ≡ more
    some_first = ap (range_rows total p) e ∙ ap (λ b. cond b (range_rows total p rs) more) (ne_eqb r.start r.end v)

    pub hold-first : r.start - p ≡ 0 → range_rows total p xs ≡ replicate (r.end - r.start) true ++ range_rows total r.end rs
    hold-first z = some_first ∙ ap (λ k. replicate k false ++ (replicate (r.end - r.start) true ++ range_rows total r.end rs)) z

-- the first bad range, one range further
module _ (total p : ℕ) (xs : List RowRange) (i : ℕ) (d : RowRange) (h : i < length xs) where
  abbrev here : RowRange
  here = get_or xs i d

  abbrev judged : Option ℕ
  judged = cond (is_bad total p here) (Some i) (bad_range total here.end (suc i) (drop (i + 1) xs))

  first : bad_range total p i (drop i xs) ≡ cond (is_void here) (bad_range total p (suc i) (drop (i + 1) xs)) judged
  first = ap (bad_range total p i) (drop_more xs i d h)

  some : (here.start ≡ here.end → ⊥) → bad_range total p i (drop i xs) ≡ judged
  some v = first ∙ ap (λ b. cond b (bad_range total p (suc i) (drop (i + 1) xs)) judged) (ne_eqb _ _ v)
