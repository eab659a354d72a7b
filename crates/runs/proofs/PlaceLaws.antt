-- Laws of a list that grows over lent memory. Assumes nothing.
use Rattle.std.proofs.Common.{◌≡◌, ℕ, zero, suc, ◌-◌, ◌<◌, List, [], ◌∷◌, ◌++◌, length, get_or, take, Some, None, Option, sym, refl, ap, ◌∙◌, arith}
use Rattle.std.specs.List.{slice_get}
use Rattle.std.proofs.lemmas.List.{length-take-le}
use Rattle.runs.specs.declared.place.Place.{Place}
use Rattle.runs.specs.Places.{held, last_of, but_last, Replaced}

-- the last item, as the checker reads `[.., last]`
pub last-at : {X : Type 0} (xs : List X) (d : X) → 0 < length xs → last_of xs ≡ Some (get_or xs (length xs - 1) d)
last-at [] d h = absurd (omega arith)
last-at (x ∷ []) d h = refl
last-at (x ∷ y ∷ xs) d h =
    let e : length (x ∷ y ∷ xs) - 1 ≡ suc (length (y ∷ xs) - 1) = omega arith in
    last-at (y ∷ xs) d (omega arith) ∙ sym (ap (λ k. Some (get_or (x ∷ y ∷ xs) k d)) e)

pub last-get : {X : Type 0} (xs : List X) → last_of xs ≡ slice_get xs (length xs - 1)
last-get [] = refl
last-get (x ∷ []) = refl
last-get (x ∷ y ∷ xs) =
    let k : length (x ∷ y ∷ xs) - 1 ≡ suc (length (y ∷ xs) - 1) = omega arith in
    last-get (y ∷ xs) ∙ sym (ap (slice_get (x ∷ y ∷ xs)) k)

pub none-last : {X : Type 0} (xs : List X) → last_of xs ≡ None → length xs ≡ 0
none-last [] e = refl
none-last (x ∷ []) e = absurd (cc)
none-last (x ∷ y ∷ xs) e = absurd (let h = none-last (y ∷ xs) e in omega arith)

-- all but the last item, and the last
pub with-last : {X : Type 0} (xs : List X) (l : X) → last_of xs ≡ Some l → xs ≡ but_last xs ++ l ∷ []
with-last [] l e = absurd (let z : ◌≡◌ {A = ℕ} 0 1 = cc in omega arith)
with-last (x ∷ []) l e = let h : x ≡ l = cc in ap (λ y. y ∷ []) h
with-last (x ∷ y ∷ xs) l e =
    let k : length (x ∷ y ∷ xs) - 1 ≡ suc (length (y ∷ xs) - 1) = omega arith in
    ap (λ zs. x ∷ zs) (with-last (y ∷ xs) l e) ∙ sym (ap (λ j. take j (x ∷ y ∷ xs) ++ l ∷ []) k)

pub some-last : {X : Type 0} (xs : List X) (n : ℕ) (l : X) → last_of (take n xs) ≡ Some l → 0 < n
some-last xs zero l e = absurd (let z : ◌≡◌ {A = ℕ} 0 1 = cc in omega arith)
some-last xs (suc n) l e = omega arith

-- a last item that is there is replaced
pub replaced : {X : Type 0} (s t : Place X) (x : X) (r : Option X) → 0 < s.len → Replaced s x r t → (t.len ≡ s.len) × (held t ≡ but_last (held s) ++ (x ∷ []))
replaced s t x (Some y) h p = (p.1, p.2)
replaced s t x None h p = absurd (omega arith)

-- with no last item there is nothing to replace
pub not-replaced : {X : Type 0} (s : Place X) (x : X) (r : Option X) → r ≡ None → None ≡ last_of (held s) → Replaced s x r s
not-replaced s x (Some y) e h = absurd (cc)
not-replaced s x None e h = (omega (arith, none-last (held s) (sym h), length-take-le s.len s.slots.now s.inside), refl)
