use Rattle.std.proofs.Common.{length}
use Rattle.selections.specs.Forms.{selection_rows}
use Rattle.script.proofs.digest.digest.Given as goal

abbrev pub decreases-loop-run : goal.decreases-loop-run
decreases-loop-run l = length (selection_rows l.rest)
