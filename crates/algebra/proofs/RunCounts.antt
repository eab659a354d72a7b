-- Runs counted beside a threshold. Assumes nothing.
use Rattle.std.proofs.Common.{◌≡◌, ℕ, ◌*◌, ◌<◌, ◌≤◌, Bool, false, cond, ◌||◌, eqb, ltb, List, [], ◌∷◌, length, sym, ap, ◌∙◌, arith}
use Rattle.std.proofs.lemmas.Bool.{le-ltb, ne_eqb}
use Rattle.rows.specs.declared.strategy.RowSelectionStrategy.{RowSelectionStrategy}
use Rattle.rows.specs.declared.strategy.RowSelectionStrategy.TheVariants.{Selectors, Mask}
use Rattle.rows.specs.Rows.{count_runs}
use Rattle.rows.specs.Rules.{strategy}

pub some_runs : (xs : List Bool) → 0 < length xs → 0 < count_runs xs
some_runs [] h = absurd (omega arith)
some_runs (x ∷ xs) h = omega arith

-- the strategy, by what the runs come to
abbrev chosen : Bool → RowSelectionStrategy
chosen b = cond b Mask Selectors

pub smooth : (t : ℕ) (xs : List Bool) → 0 < length xs → count_runs xs * t ≤ length xs → Selectors ≡ strategy t xs
smooth t xs h k = sym (ap chosen (ap (λ b. b || ltb (length xs) (count_runs xs * t)) (not-zero (count_runs xs) (some_runs xs h)) ∙ le-ltb (length xs) (count_runs xs * t) k))
  where
    not-zero : (n : ℕ) → 0 < n → eqb n 0 ≡ false
    not-zero n h = ne_eqb n 0 (λ e. omega arith)
