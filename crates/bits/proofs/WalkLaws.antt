-- Laws of leading stretches, and of a step of a walk over the selected rows. Assumes nothing.
use Rattle.std.proofs.Common.{◌≡◌, ℕ, suc, ◌+◌, ◌-◌, ◌<◌, ◌≤◌, Bool, true, false, cond, not, ltb, List, [], ◌∷◌, ◌++◌, length, get_or, drop, replicate, Some, None, sym, refl, ap, ◌∙◌, subst, ap₂, arith}
use Rattle.std.proofs.lemmas.List.{drop-drop, drop_more}
use Rattle.std.proofs.lemmas.Bool.{ltb-true, true≢false}
use Rattle.rows.specs.Rows.{selected_count, chosen, NotFirst}
use Rattle.rows.specs.Chunks.{leading}
use Rattle.bits.specs.Bits.{rows_of}
use Rattle.bits.specs.Masks.{value_at, next_change}
use Rattle.bits.specs.Walks.{Spanned}
use Rattle.bits.proofs.RowLaws.{rows_drop}
use Rattle.bits.proofs.Searches.{leading-is}

-- rows by their leading stretch of the mark b
pub leads : (b : Bool) (xs : List Bool) → xs ≡ replicate (leading b xs) b ++ drop (leading b xs) xs
leads b [] = refl
leads true (true ∷ xs) = ap (λ l. true ∷ l) (leads true xs)
leads true (false ∷ xs) = refl
leads false (false ∷ xs) = ap (λ l. false ∷ l) (leads false xs)
leads false (true ∷ xs) = refl

pub stops : (b : Bool) (xs : List Bool) → NotFirst b (drop (leading b xs) xs)
stops b [] = tt
stops true (true ∷ xs) = stops true xs
stops true (false ∷ xs) = λ e. true≢false (sym e)
stops false (false ∷ xs) = stops false xs
stops false (true ∷ xs) = λ e. true≢false e

-- the end r of the stretch of the mark b from row p on, of n rows from place o on
pub stretch-is : (f : ℕ → Bool) (b : Bool) (o n p r : ℕ) → p ≤ r → r ≤ n → ((k : ℕ) → o + p ≤ k → k < o + r → f k ≡ b) → (r < n → f (o + r) ≡ not b)
    → r ≡ p + leading b (drop p (rows_of f o n))
stretch-is f b o n p r l m alike ends =
    let e : leading b (drop p (rows_of f o n)) ≡ r - p =
    ap (leading b) (rows_drop f o n p (omega arith))
    ∙ leading-is f b (o + p) (n - p) (r - p) (omega arith) (λ k i j. alike k i (omega arith))
    (λ t. ap f (let d : o + p + (r - p) ≡ o + r = omega arith in d) ∙ ends (omega arith)) in
    omega arith

-- row i has the mark b
module _ (xs : List Bool) (i : ℕ) (b : Bool) (here : value_at xs i ≡ Some b) where
  pub has-row : i < length xs
  has-row = go (ltb i (length xs)) refl
    where
      go : (t : Bool) → ltb i (length xs) ≡ t → i < length xs
      go true e = ltb-true i (length xs) e
      go false e = absurd (let f : None ≡ Some b = sym (ap (λ t. cond t (Some (get_or xs i false)) None) e) ∙ here in let z : ◌≡◌ {A = ℕ} 0 1 = cc in omega arith)

-- there is no row i
pub no-change : (xs : List Bool) (i : ℕ) → value_at xs i ≡ None → next_change xs i ≡ length xs
no-change xs i here = go (ltb i (length xs)) refl
  where
    go : (t : Bool) → ltb i (length xs) ≡ t → next_change xs i ≡ length xs
    go true e = absurd (let f : Some (get_or xs i false) ≡ None = sym (ap (λ t. cond t (Some (get_or xs i false)) None) e) ∙ here in let z : ◌≡◌ {A = ℕ} 0 1 = cc in omega arith)
    go false e = ap (λ t. cond t (i + leading (get_or xs i false) (drop i xs)) (length xs)) e

chosen-first : (k : ℕ) (xs : List Bool) → chosen k xs ≡ chosen (k + leading false xs) (drop (leading false xs) xs)
chosen-first k [] = refl
chosen-first k (true ∷ xs) = ap (λ x. chosen x (true ∷ xs)) (let e : k ≡ k + 0 = omega arith in e)
chosen-first k (false ∷ xs) = chosen-first (suc k) xs ∙ ap (λ x. chosen x (drop (leading false xs) xs)) (let e : suc k + leading false xs ≡ k + suc (leading false xs) = omega arith in e)

count-first : (xs : List Bool) → selected_count xs ≡ selected_count (drop (leading false xs) xs)
count-first [] = refl
count-first (true ∷ xs) = refl
count-first (false ∷ xs) = count-first xs

first-row : (x : Bool) (xs : List Bool) → NotFirst false (x ∷ xs) → x ≡ true
first-row true xs h = refl
first-row false xs h = absurd (h refl)

-- the first selected row of xs from row p on is row a, if there is one
module _ (xs : List Bool) (p a : ℕ) (first : a ≡ p + leading false (drop p xs)) where
  to-first : drop (leading false (drop p xs)) (drop p xs) ≡ drop a xs
  to-first = drop-drop (leading false (drop p xs)) p xs ∙ ap (λ k. drop k xs) (sym first)

  indices-from : chosen p (drop p xs) ≡ chosen a (drop a xs)
  indices-from = chosen-first p (drop p xs) ∙ ap₂ chosen (sym first) to-first

  pub no_index : drop a xs ≡ [] → chosen p (drop p xs) ≡ []
  no_index e = indices-from ∙ ap (chosen a) e

  pub no_span : drop a xs ≡ [] → selected_count (drop p xs) ≡ 0
  no_span e = count-first (drop p xs) ∙ ap selected_count (to-first ∙ e)

  module _ (before : a < length xs) where
    selected : drop a xs ≡ true ∷ drop (a + 1) xs
    selected =
        let e = drop_more xs a false before in
        e ∙ ap (λ x. x ∷ drop (a + 1) xs) (first-row (get_or xs a false) (drop (a + 1) xs) (subst (NotFirst false) (to-first ∙ e) (stops false (drop p xs))))

    pub next-index : chosen p (drop p xs) ≡ a ∷ chosen (a + 1) (drop (a + 1) xs)
    next-index = indices-from ∙ ap (chosen a) selected ∙ ap (λ k. a ∷ chosen k (drop (a + 1) xs)) (let e : suc a ≡ a + 1 = omega arith in e)

    -- and the selected rows from there on end at row e
    pub next-span : (e : ℕ) → e ≡ a + leading true (drop a xs) → Spanned p (drop p xs) a e e (drop e xs)
    next-span e ends = record {
      after = omega arith;
      some = omega (arith, ap (leading true) selected);
      next = refl;
      whole =
          leads false (drop p xs)
          ∙ ap₂ (λ k ys. replicate k false ++ ys) (let d : leading false (drop p xs) ≡ a - p = omega arith in d)
          (to-first ∙ leads true (drop a xs) ∙ ap₂ (λ k ys. replicate k true ++ ys) (let d : leading true (drop a xs) ≡ e - a = omega arith in d) rest);
      stops = subst (NotFirst true) rest (stops true (drop a xs));
    }
      where
        rest : drop (leading true (drop a xs)) (drop a xs) ≡ drop e xs
        rest = drop-drop (leading true (drop a xs)) a xs ∙ ap (λ k. drop k xs) (sym ends)
