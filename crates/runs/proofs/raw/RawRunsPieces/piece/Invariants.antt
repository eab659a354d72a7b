use Rattle.std.proofs.Common.{◌≡◌, length}
use Rattle.rows.specs.Rows.{run_rows}
use Rattle.runs.proofs.raw.RawRunsPieces.piece.Given as goal

abbrev pub invariant-loop-self : goal.invariant-loop-self
invariant-loop-self l = run_rows l.initial.self.runs.now ≡ run_rows l.self.runs.now

abbrev pub decreases-loop-self : goal.decreases-loop-self
decreases-loop-self l = length l.self.runs.now
