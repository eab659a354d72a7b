use Rattle.std.proofs.Common.{◌≡◌, ℕ, ◌+◌, ◌<◌, ◌≤◌, ◌*◌}
use Rattle.bits.specs.Bits.{row_at}
use Rattle.bits.proofs.mask.Mask.stretch_end.Given as goal

abbrev pub invariant-loop-i : goal.invariant-loop-i
invariant-loop-i l = (k : ℕ) → l.self.offset + l.from ≤ k → k < l.self.offset + (l.from + 64 * l.i) → row_at l.self.bytes.now k ≡ l.set
