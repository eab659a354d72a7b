-- The pages that hold a selected row are the fewest that hold them all. Assumes nothing.
use Rattle.std.proofs.Common.{◌≡◌, ℕ, zero, suc, ◌+◌, ◌-◌, ◌<◌, ◌≤◌, Bool, true, false, cond, List, [], ◌∷◌, map, length, get_or, take, IfOk, Some, Ok, Err, Result, sym, refl, ap, ◌∙◌, subst, inl, inr, ⊎_elim, arith, length-take}
use Rattle.std.proofs.lemmas.List.{get_or-take, get_or-drop}
use Rattle.std.proofs.lemmas.Bool.{true≢false, cases_lt}
use Rattle.refusals.specs.declared.fault.SelectionFault.{SelectionFault}
use Rattle.pages.specs.declared.page.PageLocation.{PageLocation}
use Rattle.pages.specs.declared.span.PageSpan.{PageSpan}
use Rattle.pages.specs.Items.{Stands}
use Rattle.rows.specs.Rows.{any_row}
use Rattle.pages.specs.Pages.{first_row, next_of, own, later, span, wanted_pages, accepted}
use Rattle.pages.specs.Fetch.{page_at, span_at, Holds, Selected, In, Ascending, Covers, FewestPages}
use Rattle.pages.proofs.PageLaws.{Rises, first_of, accepted-parts}

-- first rows rise
rising : (ps : List PageLocation) → Rises ps → (i j : ℕ) → i ≤ j → j < length ps → first_row (page_at ps i) ≤ first_row (page_at ps j)
rising [] w i j h k = absurd (omega arith)
rising (p ∷ ps) w (suc i) zero h k = absurd (omega arith)
rising (p ∷ ps) w (suc i) (suc j) h k = rising ps w.1 i j (omega arith) (omega arith)
rising (p ∷ ps) w zero zero h k = omega arith
rising (p ∷ []) w zero (suc j) h k = absurd (omega arith)
rising (p ∷ q ∷ ps) w zero (suc j) h k = omega (arith, w.0, rising (q ∷ ps) w.1 zero j (omega arith) (omega arith))

-- a row lies in one page
module _ (ps : List PageLocation) (w : Rises ps) where
  not-before : (j k r : ℕ) → Holds ps j r → Holds ps k r → j < k → ⊥
  not-before j k r hj hk lt = omega (arith, hj.2 (omega (arith, hk.0)), hk.1, rising ps w (suc j) k (omega arith) hk.0)

  one-page : (j k r : ℕ) → Holds ps j r → Holds ps k r → j ≡ k
  one-page j k r hj hk = omega (arith, not-before j k r hj hk, not-before k j r hk hj)

-- a row is selected exactly where one can be named
some-row : (xs : List Bool) → any_row xs ≡ true → (r : ℕ) × Selected xs r × (r < length xs)
some-row [] e = absurd (true≢false (sym e))
some-row (true ∷ xs) e = (0, refl, omega arith)
some-row (false ∷ xs) e = let s = some-row xs e in (suc s.0, s.1, omega (arith, s.2))

row-some : (xs : List Bool) (r : ℕ) → Selected xs r → any_row xs ≡ true
row-some [] r e = absurd (true≢false (sym e))
row-some (true ∷ xs) r e = refl
row-some (false ∷ xs) zero e = absurd (true≢false (sym e))
row-some (false ∷ xs) (suc r) e = row-some xs r e

-- the pages asked for, by their places, where the list's first is k
abbrev asked : ℕ → List PageLocation → List Bool → List ℕ
asked k [] xs = []
asked k (p ∷ ps) xs = cond (any_row (own p (next_of ps) xs)) (k ∷ asked (suc k) ps (later p (next_of ps) xs)) (asked (suc k) ps (later p (next_of ps) xs))

-- what page j holds, it holds with a page in front
holds-suc : (p : PageLocation) (ps : List PageLocation) (j r n : ℕ) → r ≡ n → Holds ps j r → Holds (p ∷ ps) (suc j) n
holds-suc p ps j r n e h = (omega (arith, h.0), omega (arith, h.1), λ l. omega (arith, h.2 (omega arith)))

-- k is the place, counted from k₀, of a page that holds a selected row
abbrev Asked : ℕ → List PageLocation → List Bool → ℕ → Type 0
Asked k₀ ps xs k = (j : ℕ) × (k ≡ k₀ + j) × (r : ℕ) × Selected xs r × Holds ps j (first_of ps + r)

asked-suc : (k₀ : ℕ) (p q : PageLocation) (ps : List PageLocation) (xs : List Bool) (k : ℕ) → first_row p < first_row q → Asked (suc k₀) (q ∷ ps) (later p (Some q) xs) k → Asked k₀ (p ∷ q ∷ ps) xs k
asked-suc k₀ p q ps xs k lt a =
    let n = first_row q - first_row p in
    (suc a.0, omega (arith, a.1), n + a.2, sym (get_or-drop n xs a.2 false) ∙ a.3, holds-suc p (q ∷ ps) a.0 (first_row q + a.2) (first_row p + (n + a.2)) (omega arith) a.4)

asked_here : (k₀ : ℕ) (p : PageLocation) (ps : List PageLocation) (xs : List Bool) (k : ℕ) → Rises (p ∷ ps) → any_row (own p (next_of ps) xs) ≡ true → k ≡ k₀ → Asked k₀ (p ∷ ps) xs k
asked_here k₀ p [] xs k w e same =
    let s = some-row xs e in
    (0, omega arith, s.0, s.1, (omega arith, omega arith, λ l. absurd (omega arith)))
asked_here k₀ p (q ∷ ps) xs k w e same =
    let n = first_row q - first_row p in
    let s = some-row (take n xs) e in
    let under : s.0 < n = omega (arith, s.2, length-take n xs) in
    (0, omega arith, s.0, sym (get_or-take n xs s.0 false under) ∙ s.1, (omega arith, omega arith, λ l. omega (arith, w.0)))

either : {P : Type 0} (b : Bool) (k j : ℕ) (ks : List ℕ) → In k (cond b (j ∷ ks) ks) → (b ≡ true → k ≡ j → P) → (In k ks → P) → P
either true k j ks m here there = ⊎_elim (here refl) there m
either false k j ks m here there = there m

-- each page asked for holds a selected row
needed-at : (k₀ : ℕ) (ps : List PageLocation) (xs : List Bool) → Rises ps → (k : ℕ) → In k (asked k₀ ps xs) → Asked k₀ ps xs k
needed-at k₀ [] xs w k m = absurd m
needed-at k₀ (p ∷ []) xs w k m = either (any_row xs) k k₀ [] m (λ e s. asked_here k₀ p [] xs k w e s) (λ n. absurd n)
needed-at k₀ (p ∷ q ∷ ps) xs w k m =
    either (any_row (own p (Some q) xs)) k k₀ (asked (suc k₀) (q ∷ ps) (later p (Some q) xs)) m
    (λ e s. asked_here k₀ p (q ∷ ps) xs k w e s)
    (λ n. asked-suc k₀ p q ps xs k w.0 (needed-at (suc k₀) (q ∷ ps) (later p (Some q) xs) w.1 k n))

in-more : (b : Bool) (k j : ℕ) (ks : List ℕ) → In k ks → In k (cond b (j ∷ ks) ks)
in-more true k j ks m = inr m
in-more false k j ks m = m

in-first : (b : Bool) (k j : ℕ) (ks : List ℕ) → b ≡ true → k ≡ j → In k (cond b (j ∷ ks) ks)
in-first true k j ks e s = inl s
in-first false k j ks e s = absurd (true≢false (sym e))

abbrev Found : ℕ → List PageLocation → List Bool → ℕ → Type 0
Found k₀ ps xs r = (j : ℕ) × In (k₀ + j) (asked k₀ ps xs) × Holds ps j (first_of ps + r)

-- each selected row lies in a page asked for
enough-at : (k₀ : ℕ) (ps : List PageLocation) (xs : List Bool) → Rises ps → 0 < length ps → (r : ℕ) → Selected xs r → Found k₀ ps xs r
enough-at k₀ [] xs w some r e = absurd (omega arith)
enough-at k₀ (p ∷ []) xs w some r e =
    (0, in-first (any_row xs) (k₀ + 0) k₀ [] (row-some xs r e) (omega arith), (omega arith, omega arith, λ l. absurd (omega arith)))
enough-at k₀ (p ∷ q ∷ ps) xs w some r e =
    let n = first_row q - first_row p in
    let rest = later p (Some q) xs in
    let own-rows = any_row (take n xs) in
    let others = asked (suc k₀) (q ∷ ps) rest in
    elim (cases_lt r n) [
      | inl less ↦ (0, in-first own-rows (k₀ + 0) k₀ others (row-some (take n xs) r (get_or-take n xs r false less ∙ e)) (omega arith), (omega arith, omega arith, λ l. omega (arith, w.0)))
      | inr more ↦
          let back : n + (r - n) ≡ r = omega arith in
          let f = enough-at (suc k₀) (q ∷ ps) rest w.1 (omega arith) (r - n) (get_or-drop n xs (r - n) false ∙ ap (λ k. get_or xs k false) back ∙ e) in
          let here : suc k₀ + f.0 ≡ k₀ + suc f.0 = omega arith in
          (suc f.0, in-more own-rows (k₀ + suc f.0) k₀ others (subst (λ k. In k others) here f.1), holds-suc p (q ∷ ps) f.0 (first_row q + (r - n)) (first_row p + r) (omega (arith, w.0)) f.2)
    ]

-- they are asked for in order
from_on : (k₀ : ℕ) (ps : List PageLocation) (xs : List Bool) (k : ℕ) → In k (asked k₀ ps xs) → k₀ ≤ k
from_on k₀ [] xs k m = absurd m
from_on k₀ (p ∷ ps) xs k m = either (any_row (own p (next_of ps) xs)) k k₀ (asked (suc k₀) ps (later p (next_of ps) xs)) m (λ e s. omega arith) (λ n. omega (arith, from_on (suc k₀) ps (later p (next_of ps) xs) k n))

asc-cond : (b : Bool) (k : ℕ) (ks : List ℕ) → ((j : ℕ) → In j ks → k < j) → Ascending ks → Ascending (cond b (k ∷ ks) ks)
asc-cond true k ks h a = (h, a)
asc-cond false k ks h a = a

ascending : (k₀ : ℕ) (ps : List PageLocation) (xs : List Bool) → Ascending (asked k₀ ps xs)
ascending k₀ [] xs = tt
ascending k₀ (p ∷ ps) xs = asc-cond (any_row (own p (next_of ps) xs)) k₀ _ (λ j m. omega (arith, from_on (suc k₀) ps (later p (next_of ps) xs) j m)) (ascending (suc k₀) ps (later p (next_of ps) xs))

-- one page in front of the wanted pages ss, which are asked for by ks
map-front : {X : Type 0} (f : PageSpan → X) (g : ℕ → X) (s : PageSpan) (k : ℕ) (ss : List PageSpan) (ks : List ℕ) (b : Bool) → f s ≡ g k → map f ss ≡ map g ks → map f (cond b (s ∷ ss) ss) ≡ map g (cond b (k ∷ ks) ks)
map-front f g s k ss ks true h e = ap (λ l. f s ∷ l) e ∙ ap (λ x. x ∷ map g ks) h
map-front f g s k ss ks false h e = e

-- their ranges
ranges-at : {X : Type 0} (f : PageSpan → X) (g : ℕ → X) (k₀ : ℕ) (ps : List PageLocation) (xs : List Bool) → ((j : ℕ) → f (span_at ps j) ≡ g (k₀ + j)) → map f (wanted_pages ps xs) ≡ map g (asked k₀ ps xs)
ranges-at f g k₀ [] xs same = refl
ranges-at f g k₀ (p ∷ ps) xs same =
    map-front f g (span p (next_of ps)) k₀ (wanted_pages ps (later p (next_of ps) xs)) (asked (suc k₀) ps (later p (next_of ps) xs)) (any_row (own p (next_of ps) xs))
    (let e : k₀ + 0 ≡ k₀ = omega arith in same 0 ∙ ap g e)
    (ranges-at f g (suc k₀) ps (later p (next_of ps) xs) (λ j. let e : k₀ + suc j ≡ suc k₀ + j = omega arith in same (suc j) ∙ ap g e))

module _ (ps : List PageLocation) (rows : List Bool) (ok : accepted ps ≡ true) where
  parts : (0 < length ps) × Rises ps × (first_of ps ≡ 0)
  parts = accepted-parts ps ok

  each : (k : ℕ) → In k (asked 0 ps rows) → (r : ℕ) × (Selected rows r × Holds ps k r)
  each k m =
      let a = needed-at 0 ps rows parts.1 k m in
      let here : a.0 ≡ k = omega (arith, a.1) in
      let row : first_of ps + a.2 ≡ a.2 = omega (arith, parts.2) in
      (a.2, (a.3, subst (λ j. Holds ps j a.2) here (subst (λ r. Holds ps a.0 r) row a.4)))

  all : Covers ps rows (λ k. In k (asked 0 ps rows))
  all r s =
      let f = enough-at 0 ps rows parts.1 parts.0 r s in
      let here : 0 + f.0 ≡ f.0 = omega arith in
      let row : first_of ps + r ≡ r = omega (arith, parts.2) in
      (f.0, (subst (λ k. In k (asked 0 ps rows)) here f.1, subst (λ n. Holds ps f.0 n) row f.2))

  fewest : {X : Type 0} (f : PageSpan → X) → FewestPages ps rows (λ k. f (span_at ps k)) (map f (wanted_pages ps rows))
  fewest f = record {
    fetched = asked 0 ps rows;
    ranges_are = ranges-at f (λ k. f (span_at ps k)) 0 ps rows (λ j. let e : j ≡ 0 + j = omega arith in ap (λ k. f (span_at ps k)) e);
    in_order = ascending 0 ps rows;
    each_holds = each;
    all_held = all;
    none_spare = λ choice covers k m.
        let a = each k m in
        let c = covers a.0 a.1.0 in
        subst (λ j. choice j ≡ true) (one-page ps parts.1 c.0 k a.0 c.1.1 a.1.1) c.1.0;
  }

  -- of what stands in the place
  pub fetched : {X : Type 0} (f : PageSpan → X) (r : Result ℕ SelectionFault) (old new : List X) → Stands (map f (wanted_pages ps rows)) r old new → IfOk r (λ n. FewestPages ps rows (λ k. f (span_at ps k)) (take n new))
  fetched f (Ok n) old new s = subst (λ l. FewestPages ps rows (λ k. f (span_at ps k)) l) (sym s.0) (fewest f)
  fetched f (Err e) old new s = tt

-- no more wanted pages than pages
pub wanted-few : (ps : List PageLocation) (xs : List Bool) → length (wanted_pages ps xs) ≤ length ps
wanted-few [] xs = omega arith
wanted-few (p ∷ ps) xs = one (any_row (own p (next_of ps) xs)) (wanted-few ps (later p (next_of ps) xs))
  where
    one : (b : Bool) → length (wanted_pages ps (later p (next_of ps) xs)) ≤ length ps → length (cond b (span p (next_of ps) ∷ wanted_pages ps (later p (next_of ps) xs)) (wanted_pages ps (later p (next_of ps) xs))) ≤ suc (length ps)
    one true h = omega arith
    one false h = omega arith
