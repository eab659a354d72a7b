use Rattle.std.proofs.Common.{◌*◌}
use Rattle.bits.specs.Masks.{rows}
use Rattle.words.proofs.SameLaws.{Agree}
use Rattle.words.proofs.same.same_mask_rows.Given as goal

abbrev pub invariant-loop-i : goal.invariant-loop-i
invariant-loop-i l = Agree (rows l.a) (rows l.b) (64 * l.i)
