-- Laws of a run list that grows at its end. Assumes nothing.
use Rattle.std.proofs.Common.{◌≡◌, ℕ, ◌+◌, ◌<◌, ◌≤◌, Bool, true, false, not, List, [], ◌∷◌, ◌++◌, length, replicate, sym, refl, ap, ◌∙◌, append_assoc, append-nil, arith, length-append}
use mathlib.Core.Bool.{beq}
use lib.ListN.{length-replicate, replicate-append-replicate}
use Rattle.std.proofs.lemmas.Bool.{and_from, lt-ltb, true≢false}
use Rattle.std.proofs.lemmas.List.{length-take-le, length_push}
use Rattle.rows.specs.declared.selector.RowSelector.{RowSelector}
use Rattle.rows.specs.Rows.{same, row_limit, run_of, run_rows, selected_in, selected_count, canonical, count_runs}
use Rattle.rows.proofs.Counts.{selected-append, selected-run}
use Rattle.rows.proofs.RunLaws.{canonical-parts}
use Rattle.runs.specs.declared.place.Place.{Place}
use Rattle.runs.specs.Places.{held}
use Rattle.runs.specs.RunPlaces.{Apart}
use Rattle.runs.specs.Sinks.{Room}
use Rattle.runs.specs.Shown.{runs-canonical}

pub run_rows-push : (ks : List RowSelector) (r : RowSelector) → run_rows (ks ++ r ∷ []) ≡ run_rows ks ++ run_of r
run_rows-push [] r = append-nil (run_of r)
run_rows-push (k ∷ ks) r = ap (λ l. run_of k ++ l) (run_rows-push ks r) ∙ sym (append_assoc (run_of k) (run_rows ks) (run_of r))

pub beq-is : (a b : Bool) → beq a b ≡ true → a ≡ b
beq-is true true e = refl
beq-is true false e = sym e
beq-is false true e = e
beq-is false false e = refl

apart-same : (a b : Bool) → (a ≡ b → ⊥) → not (same b a) ≡ true
apart-same true true h = absurd (h refl)
apart-same true false h = refl
apart-same false true h = refl
apart-same false false h = absurd (h refl)

-- one run more, unlike the last
pub canonical-push : (ks : List RowSelector) (r : RowSelector) → canonical ks ≡ true → Apart ks r.skip → 0 < r.row_count → canonical (ks ++ r ∷ []) ≡ true
canonical-push [] r w u h = and_from _ _ (lt-ltb 0 _ h) refl
canonical-push (k ∷ []) r w u h =
    and_from _ _ (lt-ltb 0 _ (canonical-parts k [] w).0) (and_from _ _ (apart-same k.skip r.skip (u k refl)) (and_from _ _ (lt-ltb 0 _ h) refl))
canonical-push (k ∷ q ∷ ks) r w u h =
    let parts = canonical-parts k (q ∷ ks) w in
    and_from _ _ (lt-ltb 0 _ parts.0) (and_from _ _ parts.1 (canonical-push (q ∷ ks) r parts.2 u h))

-- a longer last run
pub canonical-longer : (ks : List RowSelector) (l m : RowSelector) → canonical (ks ++ l ∷ []) ≡ true → m.skip ≡ l.skip → 0 < m.row_count → canonical (ks ++ m ∷ []) ≡ true
canonical-longer [] l m w e h = and_from _ _ (lt-ltb 0 _ h) refl
canonical-longer (k ∷ []) l m w e h =
    let parts = canonical-parts k (l ∷ []) w in
    and_from _ _ (lt-ltb 0 _ parts.0) (and_from _ _ (ap (λ s. not (same s k.skip)) e ∙ parts.1) (and_from _ _ (lt-ltb 0 _ h) refl))
canonical-longer (k ∷ q ∷ ks) l m w e h =
    let parts = canonical-parts k ((q ∷ ks) ++ l ∷ []) w in
    and_from _ _ (lt-ltb 0 _ parts.0) (and_from _ _ parts.1 (canonical-longer (q ∷ ks) l m parts.2 e h))

pub last_some : (ks : List RowSelector) (l : RowSelector) → canonical (ks ++ l ∷ []) ≡ true → 0 < l.row_count
last_some [] l w = (canonical-parts l [] w).0
last_some (k ∷ ks) l w = last_some ks l (canonical-parts k (ks ++ l ∷ []) w).2

-- the same rows, with the last run longer by more
pub longer-rows : (ks : List RowSelector) (l : RowSelector) (more : ℕ) → run_rows (ks ++ record { row_count = l.row_count + more; skip = l.skip } ∷ []) ≡ run_rows (ks ++ l ∷ []) ++ replicate more (not l.skip)
longer-rows ks l more =
    let b = not l.skip in
    run_rows-push ks _ ∙ ap (λ t. run_rows ks ++ t) (sym (replicate-append-replicate l.row_count more b)) ∙ sym (append_assoc (run_rows ks) (run_of l) (replicate more b)) ∙ ap (λ t. t ++ replicate more b) (sym (run_rows-push ks l))

-- of a run list with a last run: the parts that lengthening it needs
module _ (ks : List RowSelector) (l : RowSelector) (more : ℕ) (xs : List RowSelector) (e : xs ≡ ks ++ l ∷ []) where
  pub longer-canonical : canonical xs ≡ true → canonical (ks ++ record { row_count = l.row_count + more; skip = l.skip } ∷ []) ≡ true
  longer-canonical w =
      let was = sym (ap canonical e) ∙ w in
      canonical-longer ks l _ was refl (omega (arith, last_some ks l was))

  pub longer-is : run_rows (ks ++ record { row_count = l.row_count + more; skip = l.skip } ∷ []) ≡ run_rows xs ++ replicate more (not l.skip)
  longer-is = longer-rows ks l more ∙ ap (λ t. run_rows t ++ replicate more (not l.skip)) (sym e)

  pub last_within : l.row_count ≤ length (run_rows xs)
  last_within = omega (arith, ap (λ t. length (run_rows t)) e, ap length (run_rows-push ks l), length-append (run_rows ks) (run_of l), length-replicate l.row_count (not l.skip))

-- the numbers of rows that grew by a run
pub more_rows : (xs ys : List Bool) (r : RowSelector) → ys ≡ xs ++ run_of r → length ys ≡ length xs + r.row_count
more_rows xs ys r e = ap length e ∙ length-append xs (run_of r) ∙ ap (λ k. length xs + k) (length-replicate r.row_count (not r.skip))

pub more-selected : (xs ys : List Bool) (r : RowSelector) → ys ≡ xs ++ run_of r → selected_count ys ≡ selected_count xs + selected_in r
more-selected xs ys r e =
    ap selected_count e ∙ selected-append xs (run_of r) ∙ ap (λ k. selected_count xs + k) (ap selected_count (sym (append-nil (run_of r))) ∙ selected-run r.row_count r.skip [] ∙ omega arith)

-- a place of runs has room for what it holds
pub place-room : (s : Place RowSelector) (all : ℕ) → canonical (held s) ≡ true → all ≡ length (run_rows (held s)) → all ≤ row_limit → Room (λ _ k. k) (length s.slots.now) (run_rows (held s))
place-room s all w c h = (omega arith, omega (arith, runs-canonical (held s) w, length-take-le s.len s.slots.now s.inside))

-- and none for one whole run more where it is full
pub no_slot : (s : Place RowSelector) (r : RowSelector) → canonical (held s) ≡ true → Apart (held s) r.skip → 0 < r.row_count → length s.slots.now ≤ s.len → Room (λ _ k. k) (length s.slots.now) (run_rows (held s) ++ run_of r) → ⊥
no_slot s r w u h full room =
    let ks = held s in
    omega (arith, room.1, runs-canonical (ks ++ r ∷ []) (canonical-push ks r w u h), ap count_runs (run_rows-push ks r), length_push ks r, length-take-le s.len s.slots.now s.inside)
