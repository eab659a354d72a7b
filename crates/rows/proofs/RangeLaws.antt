-- What consecutive ranges select, row by row. Assumes nothing.
use Rattle.std.proofs.Common.{◌≡◌, ℕ, zero, suc, ◌+◌, ◌-◌, ◌<◌, ◌≤◌, Bool, true, false, cond, ◌||◌, ltb, leb, ◌⊎◌, List, [], ◌∷◌, ◌++◌, length, replicate, Some, None, sym, refl, ap, ◌∙◌, subst, inl, inr, arith}
use lib.ListN.{length-replicate}
use Rattle.std.proofs.lemmas.Bool.{cases_lt, cases_Bool, ltb-false, eqb-true, or_parts, or_from, or_left, and_from, and_left, and_right, lt-ltb, le-ltb, le-leb, lt-leb, cond-true, cond-false}
use Rattle.rows.specs.Said.{Selects}
use Rattle.rows.specs.Ranges.{RowRange, is_void, is_bad, bad_range, range_rows, holds, any_holds, InRanges}
use Rattle.rows.proofs.Counts.{length_run}
use Rattle.rows.proofs.Stretches.{stretch-row, past-stretch}

-- a range that is accepted after the previous end p
pub good-range : (total p : ℕ) (r : RowRange) → is_bad total p r ≡ false → (r.start ≤ r.end) × (p ≤ r.start) × (r.end ≤ total)
good-range total p r e =
    let a = or_parts (ltb r.end r.start) (ltb r.start p || ltb total r.end) e in
    let b = or_parts (ltb r.start p) (ltb total r.end) a.1 in
    (ltb-false _ _ a.0, ltb-false _ _ b.0, ltb-false _ _ b.1)

-- an accepted list: its first range is void, or good with the rest accepted after it
module _ (total p k : ℕ) (r : RowRange) (rs : List RowRange) (ok : bad_range total p k (r ∷ rs) ≡ None) where
  pub rest-void : is_void r ≡ true → bad_range total p (suc k) rs ≡ None
  rest-void v = sym (ap (λ b. cond b (bad_range total p (suc k) rs) (cond (is_bad total p r) (Some k) (bad_range total r.end (suc k) rs))) v) ∙ ok

  judged : is_void r ≡ false → cond (is_bad total p r) (Some k) (bad_range total r.end (suc k) rs) ≡ None
  judged v = sym (ap (λ b. cond b (bad_range total p (suc k) rs) (cond (is_bad total p r) (Some k) (bad_range total r.end (suc k) rs))) v) ∙ ok

  pub rest-good : is_void r ≡ false → (is_bad total p r ≡ false) × (bad_range total r.end (suc k) rs ≡ None)
  rest-good v = go (is_bad total p r) refl (judged v)
    where
      go : (b : Bool) → is_bad total p r ≡ b → cond (is_bad total p r) (Some k) (bad_range total r.end (suc k) rs) ≡ None → (is_bad total p r ≡ false) × (bad_range total r.end (suc k) rs ≡ None)
      go true e h = absurd (let f : Some k ≡ None = sym (ap (λ b. cond b (Some k) (bad_range total r.end (suc k) rs)) e) ∙ h in let z : ◌≡◌ {A = ℕ} 0 1 = cc in omega arith)
      go false e h = (e, sym (ap (λ b. cond b (Some k) (bad_range total r.end (suc k) rs)) e) ∙ h)

-- no range holds a row outside of it
outside_low : (r : RowRange) (i : ℕ) → i < r.start → holds r i ≡ false
outside_low r i h = and_left (leb r.start i) (ltb i r.end) (lt-leb _ _ h)

outside_high : (r : RowRange) (i : ℕ) → r.end ≤ i → holds r i ≡ false
outside_high r i h = and_right (leb r.start i) (ltb i r.end) (le-ltb _ _ h)

void-holds : (r : RowRange) (i : ℕ) → is_void r ≡ true → holds r i ≡ false
void-holds r i v = go (cases_lt i r.start)
  where
    go : (i < r.start) ⊎ (r.start ≤ i) → holds r i ≡ false
    go (inl h) = outside_low r i h
    go (inr h) = outside_high r i (omega (arith, eqb-true r.start r.end v))

-- before the previous end no accepted range holds a row
none_before : (total p k : ℕ) (rs : List RowRange) → bad_range total p k rs ≡ None → (i : ℕ) → i < p → any_holds rs i ≡ false
none_before total p k [] ok i h = refl
none_before total p k (r ∷ rs) ok i h =
    elim (cases_Bool (is_void r)) [
      | inl v ↦ or_from (holds r i) (any_holds rs i) (void-holds r i v) (none_before total p (suc k) rs (rest-void total p k r rs ok v) i h)
      | inr v ↦
          let g = rest-good total p k r rs ok v in
          let fit = good-range total p r g.0 in
          or_from (holds r i) (any_holds rs i) (outside_low r i (omega arith)) (none_before total r.end (suc k) rs g.1 i (omega arith))
    ]

-- rows as ranges hold them, from row p on
abbrev From : ℕ → ℕ → List RowRange → List Bool → Type 0
From total p rs zs = (length zs ≡ total - p) × ((i : ℕ) → Selects zs i ≡ any_holds rs (p + i))

no-range : (n i : ℕ) → Selects (replicate n false) i ≡ false
no-range zero i = refl
no-range (suc n) zero = refl
no-range (suc n) (suc i) = no-range n i

-- one range r after the previous end p, and the rows zs after it
module _ (total p : ℕ) (r : RowRange) (rs : List RowRange) (zs : List Bool) (forth : r.start ≤ r.end) (after : p ≤ r.start) (inside : r.end ≤ total)
    (none : (i : ℕ) → i < r.end → any_holds rs i ≡ false) (ih : From total r.end rs zs) where
  abbrev more : List Bool
  more = replicate (r.end - r.start) true ++ zs

  at : (i : ℕ) → (i < r.start - p) ⊎ (r.start - p ≤ i) → (i < r.end - p) ⊎ (r.end - p ≤ i) → Selects (replicate (r.start - p) false ++ more) i ≡ any_holds (r ∷ rs) (p + i)
  at i (inl h) c =
      stretch-row (r.start - p) false more i h
      ∙ sym (or_from (holds r (p + i)) (any_holds rs (p + i)) (outside_low r (p + i) (omega arith)) (none (p + i) (omega arith)))
  at i (inr h) (inl c) =
      past-stretch (r.start - p) false more i h ∙ stretch-row (r.end - r.start) true zs (i - (r.start - p)) (omega arith)
      ∙ sym (or_left (holds r (p + i)) (any_holds rs (p + i)) (and_from (leb r.start (p + i)) (ltb (p + i) r.end) (le-leb _ _ (omega arith)) (lt-ltb _ _ (omega arith))))
  at i (inr h) (inr c) =
      let d : i - (r.start - p) - (r.end - r.start) ≡ i - (r.end - p) = omega arith in
      let q : r.end + (i - (r.end - p)) ≡ p + i = omega arith in
      past-stretch (r.start - p) false more i h ∙ past-stretch (r.end - r.start) true zs (i - (r.start - p)) (omega arith)
      ∙ ap (λ j. Selects zs j) d ∙ ih.1 (i - (r.end - p)) ∙ ap (any_holds rs) q
      ∙ sym (ap (λ b. b || any_holds rs (p + i)) (outside_high r (p + i) (omega arith)))

  one-range : From total p (r ∷ rs) (replicate (r.start - p) false ++ more)
  one-range = (
    omega (arith, length_run (r.start - p) false more, length_run (r.end - r.start) true zs, ih.0),
    λ i. at i (cases_lt i (r.start - p)) (cases_lt i (r.end - p)),
  )

from_row : (total p k : ℕ) (rs : List RowRange) → p ≤ total → bad_range total p k rs ≡ None → From total p rs (range_rows total p rs)
from_row total p k [] l ok = (length-replicate (total - p) false, λ i. no-range (total - p) i)
from_row total p k (r ∷ rs) l ok =
    let P = From total p (r ∷ rs) in
    elim (cases_Bool (is_void r)) [
      | inl v ↦
          let ih = from_row total p (suc k) rs l (rest-void total p k r rs ok v) in
          let same : From total p (r ∷ rs) (range_rows total p rs) = (ih.0, λ i. ih.1 i ∙ sym (ap (λ b. b || any_holds rs (p + i)) (void-holds r (p + i) v))) in
          subst P (sym (cond-true (is_void r) _ _ v)) same
      | inr v ↦
          let g = rest-good total p k r rs ok v in
          let fit = good-range total p r g.0 in
          let ih = from_row total r.end (suc k) rs fit.2 g.1 in
          subst P (sym (cond-false (is_void r) _ _ v)) (one-range total p r rs (range_rows total r.end rs) fit.0 fit.1 fit.2 (none_before total r.end (suc k) rs g.1) ih)
    ]

pub in-ranges : (total : ℕ) (rs : List RowRange) → bad_range total 0 0 rs ≡ None → InRanges total rs (range_rows total 0 rs)
in-ranges total rs ok =
    let all = from_row total 0 0 rs (omega arith) ok in
    (omega (arith, all.0), λ i. all.1 i ∙ ap (any_holds rs) (let e : 0 + i ≡ i = omega arith in e))
