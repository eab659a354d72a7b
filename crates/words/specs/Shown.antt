-- Proofs that the ghost members of this crate hold, for its source files to cite. Assumes nothing.
use Rattle.std.specs.Prelude.{◌≡◌, ℕ, zero, suc, ◌+◌, ◌≤◌, Bool, List, [], ◌∷◌, ◌++◌, length, refl}
use Rattle.std.proofs.Common.{ap, arith, length-append}
use Rattle.rows.specs.Rows.{row_limit}
use Rattle.rows.specs.Rules.{combine}
use Rattle.rows.proofs.Rules.{row-by-row}
use Rattle.bits.specs.declared.mask.Mask.{Mask}
use Rattle.bits.specs.Bits.{row_at}
use Rattle.bits.specs.Masks.{rows}
use Rattle.bits.proofs.RowLaws.{length-rows}
use Rattle.words.specs.Fronts.{skip_front}

-- a mask is within the row limit
pub few-rows : (m : Mask) → length (rows m) ≤ row_limit
few-rows m = omega (arith, length-rows (row_at m.bytes.now) m.offset m.len, m.few)

-- two of them combined are no longer than the longer
pub few-combined : (f : Bool → Bool → Bool) (a b : Mask) → length (combine f (rows a) (rows b)) ≤ row_limit
few-combined f a b = omega (arith, (row-by-row f (rows a) (rows b)).long, few-rows a, few-rows b)

-- skipping alters no length
pub length-skip_front : (n : ℕ) (xs : List Bool) → length (skip_front n xs) ≡ length xs
length-skip_front zero xs = refl
length-skip_front (suc n) [] = refl
length-skip_front (suc n) (x ∷ xs) = ap suc (length-skip_front n xs)

pub few-skipped : (n : ℕ) (m : Mask) → length (skip_front n (rows m)) ≤ row_limit
few-skipped n m = omega (arith, length-skip_front n (rows m), few-rows m)

-- rows after rows
pub few-joined : (xs ys : List Bool) → length xs + length ys ≤ row_limit → length (xs ++ ys) ≤ row_limit
few-joined xs ys few = omega (arith, length-append xs ys)
