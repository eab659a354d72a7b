-- Laws of page lists. Assumes nothing.
use Rattle.std.proofs.Common.{◌≡◌, ℕ, suc, ◌-◌, ◌<◌, Bool, true, false, cond, eqb, ltb, List, [], ◌∷◌, length, get_or, ℤ, pos, negsuc, nat_abs, Some, None, Option, sym, refl, ap, ◌∙◌, arith}
use lib.Signed.{le_z, lt_z}
use Rattle.std.proofs.lemmas.Bool.{and_parts, ltb-true, eqb-true, true≢false}
use Rattle.pages.specs.declared.page.PageLocation.{PageLocation}
use Rattle.pages.specs.Pages.{fine, first_row, fits, in_order, accepted, last_first}

-- the last page's first row, as the code reads it
pub last-first : (ps : List PageLocation) (d : PageLocation) → 0 < length ps → first_row (get_or ps (length ps - 1) d) ≡ last_first ps
last-first [] d h = absurd (omega arith)
last-first (p ∷ []) d h = refl
last-first (p ∷ q ∷ ps) d h =
    let e : length (p ∷ q ∷ ps) - 1 ≡ suc (length (q ∷ ps) - 1) = omega arith in
    ap (λ k. first_row (get_or (p ∷ q ∷ ps) k d)) e ∙ last-first (q ∷ ps) d (omega arith)

-- first rows rise from page to page
abbrev Below : PageLocation → List PageLocation → Type 0
Below p [] = Unit {0}
Below p (q ∷ ps) = first_row p < first_row q

abbrev pub Rises : List PageLocation → Type 0
Rises [] = Unit {0}
Rises (p ∷ ps) = Below p ps × Rises ps

abbrev pub first_of : List PageLocation → ℕ
first_of [] = 0
first_of (p ∷ ps) = first_row p

nat_abs-rises : (a b : ℤ) → le_z (pos 0) a ≡ true → lt_z a b ≡ true → nat_abs a < nat_abs b
nat_abs-rises (pos m) (pos n) h e = ltb-true m n e
nat_abs-rises (pos m) (negsuc n) h e = absurd (true≢false (sym e))
nat_abs-rises (negsuc m) b h e = absurd (true≢false (sym h))

-- the first row of a fine page is not negative
fine-first : (p : PageLocation) → fine p ≡ true → le_z (pos 0) p.first_row_index ≡ true
fine-first p w = (and_parts _ _ (and_parts _ _ (and_parts _ _ w).1).1).0

-- a list that is in order after the page q, if any
order-first : (b : Bool) (m n : ℕ) → cond b (suc m) 0 ≡ suc n → (b ≡ true) × (m ≡ n)
order-first true m n e = (refl, omega arith)
order-first false m n e = absurd (omega arith)

order-rises : (q : Option PageLocation) (ps : List PageLocation) → in_order q ps ≡ length ps → Rises ps
order-rises q [] e = tt
order-rises q (p ∷ []) e = (tt, tt)
order-rises q (p ∷ r ∷ ps) e =
    let one = order-first (fits q p) (in_order (Some p) (r ∷ ps)) (suc (length ps)) e in
    let two = order-first (fits (Some p) r) (in_order (Some r) ps) (length ps) one.1 in
    let follows = (and_parts _ _ (and_parts (fine r) _ two.0).1).1 in
    (nat_abs-rises p.first_row_index r.first_row_index (fine-first p (and_parts (fine p) _ one.0).0) follows, order-rises (Some p) (r ∷ ps) one.1)

order-zero : (ps : List PageLocation) → in_order None ps ≡ length ps → first_of ps ≡ 0
order-zero [] e = refl
order-zero (p ∷ ps) e = eqb-true (first_row p) 0 (and_parts (fine p) _ (order-first (fits None p) (in_order (Some p) ps) (length ps) e).0).1

-- an accepted list has a page, and its first rows rise from 0
pub accepted-parts : (ps : List PageLocation) → accepted ps ≡ true → (0 < length ps) × Rises ps × (first_of ps ≡ 0)
accepted-parts ps e =
    let both = and_parts (ltb 0 (length ps)) (eqb (in_order None ps) (length ps)) e in
    let order = eqb-true (in_order None ps) (length ps) both.1 in
    (ltb-true 0 (length ps) both.0, order-rises None ps order, order-zero ps order)
