-- Proofs that the ghost members of this crate hold, for its source files to cite. Assumes nothing.
use Rattle.std.specs.Prelude.{ℕ, ◌≤◌, Bool, List, length, take}
use Rattle.std.proofs.Common.{arith}
use Rattle.std.proofs.lemmas.List.{length-take}
use Rattle.rows.specs.Rows.{row_limit}

-- a part of a source is within the row limit
pub few-part : (n : ℕ) (xs : List Bool) → length xs ≤ row_limit → length (take n xs) ≤ row_limit
few-part n xs h = omega (arith, length-take n xs)
