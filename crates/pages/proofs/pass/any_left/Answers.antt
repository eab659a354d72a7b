use Rattle.std.proofs.Common.{not, sym, ap, ◌∙◌}
use Rattle.rows.specs.Rows.{any_row}
use Rattle.runs.specs.HeldRows.{held_rows}
use Rattle.runs.proofs.HeldLaws.{taken-of, any-skipped}
use Rattle.pages.proofs.pass.any_left.Goals as goal

pub loop-run-preserved : goal.loop-run-preserved
loop-run-preserved g c =
    let run = c.in-Some.run' in
    let peek = c.in-Some.ensures in
    let left = held_rows g.S.RunSource.rows c.take.new.self in
    let taken = taken-of _ run run.row_count _ left peek.begun.1 c.take.ensures in
    c.loop-run.invariant ∙ ap any_row (sym peek.same ∙ sym taken) ∙ any-skipped run.row_count (not run.skip) left peek.begun.0 c.if-not-run.false
