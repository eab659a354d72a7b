-- Laws of run lists. Assumes nothing.
use Rattle.std.proofs.Common.{◌≡◌, ℕ, zero, suc, ◌+◌, ◌-◌, ◌<◌, Bool, true, false, cond, not, ◌&&◌, ltb, List, [], ◌∷◌, ◌++◌, length, get_or, take, drop, replicate, sym, refl, ap, ◌∙◌, arith, take_all}
use Rattle.std.proofs.lemmas.Bool.{and_parts, ltb-true, true≢false}
use Rattle.rows.specs.declared.selector.RowSelector.{RowSelector}
use Rattle.rows.specs.Rows.{same, run_of, run_rows, selected_in, selected_count, NotFirst, unlike, canonical}
use Rattle.rows.specs.Said.{OneList}
use Rattle.rows.proofs.Counts.{length_run, selected-run}
use Rattle.rows.proofs.Stretches.{not-not}

-- a slice by its first element and the rest, as the checker reads `[first, rest @ ..]`
pub first_rest : {X : Type 0} (xs : List X) (d : X) → 0 < length xs → xs ≡ get_or xs 0 d ∷ take (length xs - 1) (drop 1 xs)
first_rest [] d h = absurd (omega arith)
first_rest (x ∷ xs) d h = ap (λ l. x ∷ l) (sym (take_all (length (x ∷ xs) - 1) xs (omega arith)))

not_first : (s : Bool) (rs : List RowSelector) → unlike s rs ≡ true → canonical rs ≡ true → NotFirst (not s) (run_rows rs)
not_first s [] u w = tt
not_first s (r ∷ rs) u w = begun s r.skip r.row_count (run_rows rs) u (ltb-true 0 _ (and_parts _ _ w).0)
  where
    begun : (s t : Bool) (n : ℕ) (xs : List Bool) → not (same t s) ≡ true → 0 < n → NotFirst (not s) (replicate n (not t) ++ xs)
    begun s t zero xs u h = absurd (omega arith)
    begun true true (suc n) xs u h = absurd (true≢false (sym u))
    begun true false (suc n) xs u h = λ e. true≢false e
    begun false true (suc n) xs u h = λ e. true≢false (sym e)
    begun false false (suc n) xs u h = absurd (true≢false (sym u))

-- the parts of a run list with a first run
pub canonical-parts : (r : RowSelector) (rs : List RowSelector) → canonical (r ∷ rs) ≡ true → (0 < r.row_count) × (unlike r.skip rs ≡ true) × (canonical rs ≡ true)
canonical-parts r rs w =
    let parts = and_parts (ltb 0 r.row_count) (unlike r.skip rs && canonical rs) w in
    let more = and_parts (unlike r.skip rs) (canonical rs) parts.1 in
    (ltb-true 0 _ parts.0, more.0, more.1)

-- a run list by its first run and the rest
module _ (xs : List RowSelector) (r : RowSelector) (rs : List RowSelector) (e : xs ≡ r ∷ rs) where
  pub rest-rows : run_rows xs ≡ run_of r ++ run_rows rs
  rest-rows = ap run_rows e

  pub rest-length : length (run_rows xs) ≡ r.row_count + length (run_rows rs)
  rest-length = ap length rest-rows ∙ length_run _ _ _

  pub rest-selected : selected_count (run_rows xs) ≡ selected_in r + selected_count (run_rows rs)
  rest-selected = ap selected_count rest-rows ∙ selected-run r.row_count r.skip (run_rows rs)

  pub rest-canonical : canonical xs ≡ true → (0 < r.row_count) × NotFirst (not r.skip) (run_rows rs) × (canonical rs ≡ true)
  rest-canonical w =
      let parts = canonical-parts r rs (sym (ap canonical e) ∙ w) in
      (parts.0, not_first r.skip rs parts.1 parts.2, parts.2)

-- the run list of rows, built from the last row to the first
abbrev run : ℕ → Bool → RowSelector
run n b = record { row_count = n; skip = not b }

join-run : Bool → List RowSelector → List RowSelector
join-run b [] = run 1 b ∷ []
join-run b (r ∷ rs) = cond (same r.skip (not b)) (run (suc r.row_count) b ∷ rs) (run 1 b ∷ (r ∷ rs))

runs_of : List Bool → List RowSelector
runs_of [] = []
runs_of (x ∷ xs) = join-run x (runs_of xs)

same-same : (b : Bool) → same b b ≡ true
same-same true = refl
same-same false = refl

-- a stretch before rows whose runs begin otherwise
runs-of-stretch : (n : ℕ) (b : Bool) (xs : List Bool) → unlike (not b) (runs_of xs) ≡ true → runs_of (replicate (suc n) b ++ xs) ≡ run (suc n) b ∷ runs_of xs
unfolding runs_of join-run
runs-of-stretch zero b xs u = apart (runs_of xs) u
  where
    turned : (a : Bool) → not a ≡ true → a ≡ false
    turned true e = sym e
    turned false e = refl

    apart : (rs : List RowSelector) → unlike (not b) rs ≡ true → join-run b rs ≡ run 1 b ∷ rs
    apart [] u = refl
    apart (r ∷ rs) u = ap (λ a. cond a (run (suc r.row_count) b ∷ rs) (run 1 b ∷ (r ∷ rs))) (turned _ u)
runs-of-stretch (suc n) b xs u = ap (join-run b) (runs-of-stretch n b xs u) ∙ longer
  where
    longer : join-run b (run (suc n) b ∷ runs_of xs) ≡ run (suc (suc n)) b ∷ runs_of xs
    longer = ap (λ a. cond a (run (suc (suc n)) b ∷ runs_of xs) (run 1 b ∷ (run (suc n) b ∷ runs_of xs))) (same-same (not b))

whole_run : (r : RowSelector) (xs : List Bool) → 0 < r.row_count → unlike r.skip (runs_of xs) ≡ true → runs_of (run_of r ++ xs) ≡ r ∷ runs_of xs
whole_run r xs h u = go r.row_count r.skip h u
  where
    go : (n : ℕ) (s : Bool) → 0 < n → unlike s (runs_of xs) ≡ true → runs_of (replicate n (not s) ++ xs) ≡ record { row_count = n; skip = s } ∷ runs_of xs
    go zero s h u = absurd (omega arith)
    go (suc n) s h u = runs-of-stretch n (not s) xs (ap (λ t. unlike t (runs_of xs)) (not-not s) ∙ u) ∙ ap (λ t. record { row_count = suc n; skip = t } ∷ runs_of xs) (not-not s)

back : (ks : List RowSelector) → canonical ks ≡ true → runs_of (run_rows ks) ≡ ks
unfolding runs_of
back [] w = refl
back (k ∷ ks) w =
    let parts = canonical-parts k ks w in
    let same = back ks parts.2 in
    whole_run k (run_rows ks) parts.0 (ap (unlike k.skip) same ∙ parts.1) ∙ ap (λ l. k ∷ l) same

pub one_list : (ks ls : List RowSelector) → OneList ks ls
one_list ks ls w v e = sym (back ks w) ∙ ap runs_of e ∙ back ls v
