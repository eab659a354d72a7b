use Rattle.std.proofs.Common.{◌+◌, ◌∷◌, length, drop, sym, ap, ◌∙◌, subst, arith}
use Rattle.std.specs.Iterator.{YieldsFirst}
use Rattle.rows.specs.Rows.{chosen}
use Rattle.bits.specs.Bits.{row_at}
use Rattle.bits.specs.Masks.{rows}
use Rattle.bits.specs.Walks.{indices}
use Rattle.bits.proofs.RowLaws.{length-rows}
use Rattle.bits.proofs.WalkLaws.{no_index, next-index}
use Rattle.bits.proofs.indices.SetIndicesIterator.next.Goals as goal

pub returns-in_err-row-clause-steps : goal.returns-in_err-row-clause-steps
returns-in_err-row-clause-steps c =
    let s = c.args.self.now.left in
    let t = c.first.new.self in
    let found = c.in_err-row.ensures in
    subst (λ r. YieldsFirst indices c.args.self.now r record { left = t }) (sym c.from_residual.ensures) (
      no_index (rows s.mask) s.at t.at found.passed found.stands,
      ap (λ m. chosen t.at (drop t.at (rows m))) found.same ∙ ap (chosen t.at) found.stands,
    )

pub invariant_of-self : goal.invariant_of-self
invariant_of-self c =
    let m = c.args.self.now.left.mask in
    record { inside = omega (arith, c.in_ok-row.ensures.stands.1, length-rows (row_at m.bytes.now) m.offset m.len, ap (λ m. m.len) c.in_ok-row.ensures.same) }

pub returns-clause-steps : goal.returns-clause-steps
returns-clause-steps c =
    let s = c.args.self.now.left in
    let found = c.in_ok-row.ensures in
    let row = c.in_ok-row.row in
    next-index (rows s.mask) s.at row (found.stands.0 ∙ found.passed) found.stands.1
    ∙ ap (λ m. row ∷ chosen (row + 1) (drop (row + 1) (rows m))) (sym found.same)

pub returns-clause-goes : goal.returns-clause-goes
returns-clause-goes c = record { on = λ _. (tt, tt, omega (arith, ap length (returns-clause-steps c))); keeps = tt; rests = λ _. tt }
