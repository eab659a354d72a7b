use Rattle.std.proofs.Common.{◌≡◌, ◌+◌, cond, arith}
use Rattle.rows.specs.Rows.{selected_count}
use Rattle.rows.proofs.Counts.{piece-selected, selected-le}
use Rattle.cuts.proofs.part.count_selected.Given as given
use Rattle.cuts.proofs.part.count_selected.Goals as goal
use Rattle.cuts.proofs.part.count_selected.Goals.{In-Some}

fewer : (g : given.Over) (c : In-Some g) → selected_count (g.S.RunSource.rows c.loop-run.rest) ≡ cond c.in-Some.run'.skip 0 c.in-Some.run'.row_count + selected_count (g.S.RunSource.rows c.next_run.new.self)
fewer g c = piece-selected _ (g.S.RunSource.rows c.next_run.new.self) c.in-Some.run'.row_count c.in-Some.run'.skip c.in-Some.ensures.1

pub overflow_add-n : goal.overflow_add-n
overflow_add-n g c =
    let xs = g.S.RunSource.rows c.args.source in
    omega (arith, fewer g (goal.at.overflow_add-n g c).In-Some, c.selected-n.ensures, c.loop-run.invariant, selected-le xs, g.met.S.RunSource.within c.args.source)

pub loop-run-preserved : goal.loop-run-preserved
loop-run-preserved g c = omega (arith, fewer g (goal.at.loop-run-preserved g c).In-Some, c.selected-n.ensures, c.loop-run.invariant)
