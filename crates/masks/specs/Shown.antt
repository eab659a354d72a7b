-- Proofs that the ghost members of this crate hold, for its source files to cite. Assumes nothing.
use Rattle.std.specs.Prelude.{◌≡◌, ℕ, ◌≤◌, Bool, List, ◌++◌, length, refl}
use Rattle.std.proofs.Common.{ap, ◌∙◌, arith, length-append, length-drop}
use Rattle.rows.specs.Rows.{row_limit}
use Rattle.runs.specs.Shown.{same-later}
use Rattle.bits.specs.Bits.{row_at}
use Rattle.bits.specs.Masks.{rows}
use Rattle.bits.proofs.RowLaws.{length-rows}
use Rattle.masks.specs.declared.iter.MaskRunIter.{MaskRunIter}
use Rattle.masks.specs.declared.place.MaskPlace.{MaskPlace}
use Rattle.masks.specs.Spares.{bytes_of}
use Rattle.masks.specs.Left.{left}
use Rattle.masks.specs.Written.{written, Untouched}

-- what is left of a mask is within the row limit
pub few-left : (s : MaskRunIter) → length (left s) ≤ row_limit
few-left s =
    let m = s.mask in
    omega (arith, length-drop s.at (rows m), length-rows (row_at m.bytes.now) m.offset m.len, m.few)

pub more_bytes : (m n p q : ℕ) → m ≤ p → n ≤ q → bytes_of m ≤ bytes_of p
more_bytes m n p q h k = omega arith

pub untouched-same : (s : MaskPlace) → Untouched s s
untouched-same s = (refl, refl, refl)

-- what was untouched stays so where more was written after it
pub untouched-chain : (s t u : MaskPlace) (more : List Bool) → written u ≡ written t ++ more → Untouched s t → Untouched t u → Untouched s u
untouched-chain s t u more grown a b =
    let longer : t.len ≤ u.len = omega (arith, ap length grown, length-append (written t) more, length-rows (row_at t.bytes.now) 0 t.len, length-rows (row_at u.bytes.now) 0 u.len) in
    let fewer : bytes_of t.len ≤ bytes_of u.len = omega arith in
    (b.0 ∙ a.0, b.1 ∙ a.1, b.2 ∙ same-later t.bytes.now s.bytes.now (bytes_of t.len) (bytes_of u.len) fewer a.2)
