-- Rows of which the first are skipped.
use Rattle.std.specs.Prelude.{ℕ, zero, suc, Bool, false, List, [], ◌∷◌}

-- the first n rows are skipped instead
abbrev pub skip_front : ℕ → List Bool → List Bool
skip_front zero xs = xs
skip_front (suc n) [] = []
skip_front (suc n) (x ∷ xs) = false ∷ skip_front n xs
