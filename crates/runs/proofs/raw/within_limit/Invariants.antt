use Rattle.std.proofs.Common.{◌≡◌, ◌+◌, ◌≤◌, drop}
use Rattle.rows.specs.Rows.{row_limit}
use Rattle.runs.specs.RawRuns.{fitting}
use Rattle.runs.proofs.raw.within_limit.Given as goal

abbrev pub invariant-loop-i : goal.invariant-loop-i
invariant-loop-i l = (l.all ≤ row_limit) × (l.i + fitting l.all (drop l.i l.raw) ≡ fitting 0 l.raw)
