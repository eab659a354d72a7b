-- offset by its cases, and by the runs of a list. Assumes nothing.
use Rattle.std.proofs.Common.{◌≡◌, ℕ, zero, suc, ◌+◌, ◌-◌, ◌<◌, ◌≤◌, Bool, true, false, cond, not, List, [], ◌++◌, length, get_or, drop, replicate, sym, refl, ap, ◌∙◌, append_assoc, arith}
use lib.ListN.{replicate-append-replicate}
use Rattle.std.proofs.lemmas.List.{drop_more}
use Rattle.std.proofs.lemmas.Bool.{lt-ltb, le-ltb}
use Rattle.rows.specs.declared.selector.RowSelector.{RowSelector}
use Rattle.rows.specs.Rows.{run_of, run_rows, selected_count}
use Rattle.rows.specs.Rules.{skip_selected, offset}
use Rattle.rows.proofs.Counts.{length_run, selected-run}
use Rattle.rows.proofs.Stretches.{split-stretch, skip-skip, skip-take}

pub offset-some : (n : ℕ) (xs : List Bool) → n < selected_count xs → offset n xs ≡ skip_selected n xs
offset-some zero xs h = refl
offset-some (suc n) xs h = ap (λ b. cond b (skip_selected (suc n) xs) []) (lt-ltb (suc n) (selected_count xs) h)

pub offset-none : (n : ℕ) (xs : List Bool) → 0 < n → selected_count xs ≤ n → offset n xs ≡ []
offset-none zero xs h k = absurd (omega arith)
offset-none (suc n) xs h k = ap (λ b. cond b (skip_selected (suc n) xs) []) (le-ltb (suc n) (selected_count xs) k)

-- a stretch of selected rows of which the first k are skipped instead
skip-part : (k m : ℕ) (xs : List Bool) → k ≤ m → skip_selected k (replicate m true ++ xs) ≡ replicate k false ++ (replicate (m - k) true ++ xs)
skip-part k m xs h =
    let none : k - k ≡ 0 = omega arith in
    ap (skip_selected k) (sym (split-stretch k m true xs h)) ∙ skip-take k k (replicate (m - k) true ++ xs) (omega arith)
    ∙ ap (λ j. replicate k false ++ skip_selected j (replicate (m - k) true ++ xs)) none

-- two stretches of skipped rows in one
pub skips : (a b c : ℕ) (xs : List Bool) → a + b ≡ c → replicate a false ++ (replicate b false ++ xs) ≡ replicate c false ++ xs
skips a b c xs e = sym (append_assoc (replicate a false) (replicate b false) xs) ∙ ap (λ l. l ++ xs) (replicate-append-replicate a b false ∙ ap (λ k. replicate k false) e)

-- the run at index i, and the runs after it
module _ (runs : List RowSelector) (i : ℕ) (d : RowSelector) (h : i < length runs) where
  abbrev run : RowSelector
  run = get_or runs i d

  abbrev after : List Bool
  after = run_rows (drop (i + 1) runs)

  rows : run_rows (drop i runs) ≡ run_of run ++ after
  rows = ap run_rows (drop_more runs i d h)

  pub step-length : length (run_rows (drop i runs)) ≡ run.row_count + length after
  step-length = ap length rows ∙ length_run run.row_count (not run.skip) after

  pub step-skipped : run.skip ≡ true → selected_count (run_rows (drop i runs)) ≡ selected_count after
  step-skipped s = ap selected_count rows ∙ selected-run run.row_count run.skip after ∙ rw s (omega arith)

  pub step-selected : run.skip ≡ false → selected_count (run_rows (drop i runs)) ≡ run.row_count + selected_count after
  step-selected s = ap selected_count rows ∙ selected-run run.row_count run.skip after ∙ ap (λ b. cond b 0 run.row_count + selected_count after) s

  -- of the n selected rows to be skipped, so many were; whole is what comes of all rows
  module _ (n skipped selected : ℕ) (whole : List Bool) (inv : whole ≡ replicate (skipped + selected) false ++ skip_selected (n - selected) (run_rows (drop i runs))) where
    pub past_skip : run.skip ≡ true → whole ≡ replicate (skipped + run.row_count + selected) false ++ skip_selected (n - selected) after
    past_skip s =
        inv ∙ ap (λ l. replicate (skipped + selected) false ++ skip_selected (n - selected) l) (rows ∙ ap (λ b. replicate run.row_count (not b) ++ after) s)
        ∙ ap (λ l. replicate (skipped + selected) false ++ l) (skip-skip (n - selected) run.row_count after)
        ∙ skips (skipped + selected) run.row_count _ (skip_selected (n - selected) after) (omega arith)

    module _ (s : run.skip ≡ false) where
      beside : whole ≡ replicate (skipped + selected) false ++ skip_selected (n - selected) (replicate run.row_count true ++ after)
      beside = inv ∙ ap (λ l. replicate (skipped + selected) false ++ skip_selected (n - selected) l) (rows ∙ ap (λ b. replicate run.row_count (not b) ++ after) s)

      pub past-select : selected + run.row_count ≤ n → whole ≡ replicate (skipped + (selected + run.row_count)) false ++ skip_selected (n - (selected + run.row_count)) after
      past-select few =
          let e : n - selected - run.row_count ≡ n - (selected + run.row_count) = omega arith in
          beside ∙ ap (λ l. replicate (skipped + selected) false ++ l) (skip-take (n - selected) run.row_count after (omega arith) ∙ ap (λ k. replicate run.row_count false ++ skip_selected k after) e)
          ∙ skips (skipped + selected) run.row_count _ (skip_selected (n - (selected + run.row_count)) after) (omega arith)

      pub cut-here : selected ≤ n → n < selected + run.row_count → whole ≡ replicate (skipped + n) false ++ (replicate (selected + run.row_count - n) true ++ after)
      cut-here low high =
          let e : run.row_count - (n - selected) ≡ selected + run.row_count - n = omega arith in
          beside ∙ ap (λ l. replicate (skipped + selected) false ++ l) (skip-part (n - selected) run.row_count after (omega arith) ∙ ap (λ k. replicate (n - selected) false ++ (replicate k true ++ after)) e)
          ∙ skips (skipped + selected) (n - selected) _ (replicate (selected + run.row_count - n) true ++ after) (omega arith)
