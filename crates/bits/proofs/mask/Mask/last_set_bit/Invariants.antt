use Rattle.std.proofs.Common.{◌≡◌, ℕ, ◌*◌, ◌≤◌, false}
use Rattle.rows.specs.Said.{Selects}
use Rattle.bits.specs.Masks.{rows}
use Rattle.bits.proofs.mask.Mask.last_set_bit.Given as goal

abbrev pub invariant-loop-i : goal.invariant-loop-i
invariant-loop-i l = (k : ℕ) → 64 * l.i ≤ k → Selects (rows l.self) k ≡ false
