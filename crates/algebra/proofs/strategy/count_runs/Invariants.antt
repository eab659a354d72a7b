use Rattle.std.proofs.Common.{◌≡◌, ◌+◌}
use Rattle.rows.specs.Rows.{count_runs}
use Rattle.algebra.proofs.strategy.count_runs.Given as goal

abbrev pub invariant-loop-runs : goal.invariant-loop-runs
invariant-loop-runs g l = l.runs + count_runs (g.S.RunSource.rows l.rest) ≡ count_runs (g.S.RunSource.rows l.initial.rest)
