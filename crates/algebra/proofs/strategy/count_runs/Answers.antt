use Rattle.std.proofs.Common.{not, ap, arith}
use Rattle.rows.specs.Rows.{count_runs}
use Rattle.rows.proofs.Counts.{runs-whole}
use Rattle.algebra.proofs.strategy.count_runs.Goals as goal

pub loop-runs-preserved : goal.loop-runs-preserved
loop-runs-preserved g c =
    let run = c.in-Some.field-0 in
    let left = g.S.RunSource.rows c.next_run.new.self in
    let step = c.in-Some.ensures in
    omega (arith, c.loop-runs.invariant, ap count_runs step.1, runs-whole run.row_count (not run.skip) left step.0 step.2)
