-- A run list without its last run. Assumes nothing.
use Rattle.std.proofs.Common.{◌≡◌, ℕ, zero, suc, ◌+◌, ◌<◌, Bool, true, false, not, List, [], ◌∷◌, ◌++◌, length, replicate, sym, refl, ap, ◌∙◌, subst, append-nil, arith}
use Rattle.std.proofs.lemmas.Bool.{and_from, lt-ltb, not-true}
use Rattle.rows.specs.declared.selector.RowSelector.{RowSelector}
use Rattle.rows.specs.Rows.{same, run_of, run_rows, selected_count, canonical}
use Rattle.rows.specs.Rules.{keep_front, trimmed}
use Rattle.rows.proofs.Counts.{length_run}
use Rattle.rows.proofs.Endings.{keep_some, trimmed-skips, trimmed-selected}
use Rattle.rows.proofs.RunLaws.{canonical-parts}
use Rattle.runs.specs.Places.{but_last}
use Rattle.runs.proofs.RunPlaceLaws.{run_rows-push, last_some, more_rows, more-selected}

canonical-front : (ks : List RowSelector) (l : RowSelector) → canonical (ks ++ l ∷ []) ≡ true → canonical ks ≡ true
canonical-front [] l w = refl
canonical-front (k ∷ []) l w = and_from _ _ (lt-ltb 0 _ (canonical-parts k (l ∷ []) w).0) refl
canonical-front (k ∷ q ∷ ks) l w =
    let parts = canonical-parts k ((q ∷ ks) ++ l ∷ []) w in
    and_from _ _ (lt-ltb 0 _ parts.0) (and_from _ _ parts.1 (canonical-front (q ∷ ks) l parts.2))

-- a stretch in front of rows that trimming leaves
kept-after : (n : ℕ) (b : Bool) (zs : List Bool) → 0 < length zs → trimmed zs ≡ zs → trimmed (replicate n b ++ zs) ≡ replicate n b ++ zs
kept-after zero b zs h e = e
kept-after (suc n) b zs h e = ap (keep_front b) (kept-after n b zs h e) ∙ keep_some b (replicate n b ++ zs) (omega (arith, length_run n b zs))

-- a run of selected rows
selected-run : (l : RowSelector) → l.skip ≡ false → run_of l ≡ replicate l.row_count true
selected-run l s = ap (λ b. replicate l.row_count (not b)) s

-- before a last skip stands a selected row
front-selected : (ks : List RowSelector) (l : RowSelector) → canonical (ks ++ l ∷ []) ≡ true → l.skip ≡ true → trimmed (run_rows ks) ≡ run_rows ks
front-selected [] l w s = refl
front-selected (k ∷ []) l w s =
    let parts = canonical-parts k (l ∷ []) w in
    let select : k.skip ≡ false = not-true k.skip (sym (ap (λ b. not (same b k.skip)) s) ∙ parts.1) in
    let rows = append-nil (run_of k) ∙ selected-run k select in
    subst (λ xs. trimmed xs ≡ xs) (sym rows) (trimmed-selected [] k.row_count parts.0)
front-selected (k ∷ q ∷ ks) l w s =
    let parts = canonical-parts k ((q ∷ ks) ++ l ∷ []) w in
    let some = (canonical-parts q ks (canonical-front (q ∷ ks) l parts.2)).0 in
    kept-after k.row_count (not k.skip) (run_rows (q ∷ ks)) (omega (arith, length_run q.row_count (not q.skip) (run_rows ks), some)) (front-selected (q ∷ ks) l parts.2 s)

-- a run list xs with the last run l
module _ (xs : List RowSelector) (l : RowSelector) (w : canonical xs ≡ true) (e : xs ≡ but_last xs ++ l ∷ []) where
  whole : canonical (but_last xs ++ l ∷ []) ≡ true
  whole = sym (ap canonical e) ∙ w

  rows : run_rows xs ≡ run_rows (but_last xs) ++ run_of l
  rows = ap run_rows e ∙ run_rows-push (but_last xs) l

  pub front-canonical : canonical (but_last xs) ≡ true
  front-canonical = canonical-front (but_last xs) l whole

  pub front_length : length (run_rows xs) ≡ length (run_rows (but_last xs)) + l.row_count
  front_length = more_rows (run_rows (but_last xs)) (run_rows xs) l rows

  module _ (s : l.skip ≡ true) where
    pub front-count : selected_count (run_rows xs) ≡ selected_count (run_rows (but_last xs))
    front-count = more-selected (run_rows (but_last xs)) (run_rows xs) l rows ∙ rw s (omega arith)

    pub front-trimmed : run_rows (but_last xs) ≡ trimmed (run_rows xs)
    front-trimmed =
        sym (ap trimmed (rows ∙ ap (λ b. run_rows (but_last xs) ++ replicate l.row_count (not b)) s) ∙ trimmed-skips (run_rows (but_last xs)) l.row_count ∙ front-selected (but_last xs) l whole s)

  pub selected-trimmed : l.skip ≡ false → run_rows xs ≡ trimmed (run_rows xs)
  selected-trimmed s =
      let same = rows ∙ ap (λ t. run_rows (but_last xs) ++ t) (selected-run l s) in
      subst (λ ys. ys ≡ trimmed ys) (sym same) (sym (trimmed-selected (run_rows (but_last xs)) l.row_count (last_some (but_last xs) l whole)))
