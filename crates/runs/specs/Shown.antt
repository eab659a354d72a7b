-- Proofs that the ghost members of this crate hold, for its source files to cite. Assumes nothing.
use Rattle.std.specs.Prelude.{◌≡◌, ℕ, ◌+◌, ◌-◌, ◌≤◌, Bool, true, false, not, List, [], ◌∷◌, ◌++◌, length, drop, Some, None, refl}
use Rattle.std.proofs.Common.{sym, ap, ◌∙◌, arith}
use Rattle.std.proofs.lemmas.List.{length-take-le, drop-drop}
use Rattle.std.proofs.lemmas.Bool.{true≢false}
use Rattle.rows.specs.declared.selector.RowSelector.{RowSelector}
use Rattle.rows.specs.Rows.{same, row_limit, run_rows, unlike, canonical, begins, runs_after, count_runs}
use Rattle.rows.proofs.Counts.{runs-more, runs-front}
use Rattle.rows.proofs.RunLaws.{canonical-parts}
use Rattle.either.specs.declared.Either.{Either}
use Rattle.either.specs.declared.Either.TheVariants.{Left, Right}
use Rattle.either.specs.Either.{either}
use Rattle.runs.specs.declared.counts.RowCounts.{RowCounts}
use Rattle.runs.specs.declared.place.Place.{Place}
use Rattle.runs.specs.Counted.{IsRunList}
use Rattle.runs.specs.Places.{held, Untouched}

-- a run list is within the row limit
pub few-rows : (n : ℕ) (rs : List RowSelector) → n ≡ length (run_rows rs) → n ≤ row_limit → length (run_rows rs) ≤ row_limit
few-rows n rs e h = omega arith

-- so is one of two that are
pub few-either : {A B : Type 0} (f : A → List Bool) (g : B → List Bool) → ((a : A) → length (f a) ≤ row_limit) → ((b : B) → length (g b) ≤ row_limit) → (s : Either A B) → length (either f g s) ≤ row_limit
few-either f g h k (Left a) = h a
few-either f g h k (Right b) = k b

pub untouched-same : {X : Type 0} (s : Place X) → Untouched s s
untouched-same s = (refl, refl, refl)

-- what agrees from place m on agrees from any later place on
pub same-later : {X : Type 0} (xs ys : List X) (m n : ℕ) → m ≤ n → drop m xs ≡ drop m ys → drop n xs ≡ drop n ys
same-later xs ys m n h e =
    let k : m + (n - m) ≡ n = omega arith in
    ap (λ j. drop j xs) (sym k) ∙ sym (drop-drop (n - m) m xs) ∙ ap (drop (n - m)) e ∙ drop-drop (n - m) m ys ∙ ap (λ j. drop j ys) k

-- what was untouched stays so where more was written after it
pub untouched-chain : {X : Type 0} (s t u : Place X) → t.len ≤ u.len → Untouched s t → Untouched t u → Untouched s u
untouched-chain s t u grown a b = (b.0 ∙ a.0, b.1 ∙ a.1, b.2 ∙ same-later t.slots.now s.slots.now t.len u.len grown a.2)

-- a run list has as many whole runs as runs
fresh-run : (p s : Bool) → not (same s p) ≡ true → begins (Some (not p)) (not s) ≡ 1
fresh-run true true u = absurd (true≢false (sym u))
fresh-run true false u = refl
fresh-run false true u = refl
fresh-run false false u = absurd (true≢false (sym u))

runs_on : (p : Bool) (ks : List RowSelector) → unlike p ks ≡ true → canonical ks ≡ true → runs_after (Some (not p)) (run_rows ks) ≡ length ks
runs_on p [] u w = refl
runs_on p (k ∷ ks) u w =
    let parts = canonical-parts k ks w in
    omega (arith, runs-more (Some (not p)) k.row_count (not k.skip) (run_rows ks) parts.0, fresh-run p k.skip u, runs_on k.skip ks parts.1 parts.2)

pub runs-canonical : (ks : List RowSelector) → canonical ks ≡ true → count_runs (run_rows ks) ≡ length ks
runs-canonical [] w = refl
runs-canonical (k ∷ ks) w =
    let parts = canonical-parts k ks w in
    omega (arith, runs-more None k.row_count (not k.skip) (run_rows ks) parts.0, runs_on k.skip ks parts.1 parts.2)

-- more rows, no fewer runs
pub longer-list : (s t : Place RowSelector) → canonical (held s) ≡ true → canonical (held t) ≡ true → (more : List Bool) → run_rows (held t) ≡ run_rows (held s) ++ more → s.len ≤ t.len
longer-list s t w v more e =
    omega (arith, runs-canonical (held s) w, runs-canonical (held t) v, length-take-le s.len s.slots.now s.inside, length-take-le t.len t.slots.now t.inside, runs-front None (run_rows (held s)) more, ap count_runs e)

-- what two steps of a place of runs keep
pub place-chain : (s t u : Place RowSelector) (m n : RowCounts) → IsRunList (held t) m → IsRunList (held u) n → (more : List Bool) → run_rows (held u) ≡ run_rows (held t) ++ more → Untouched s t → Untouched t u → Untouched s u
place-chain s t u m n w v more grows = untouched-chain s t u (longer-list t u w.whole v.whole more grows)
