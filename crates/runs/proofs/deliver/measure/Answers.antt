use Rattle.std.proofs.Common.{◌≡◌, ◌+◌, not, length, Some, None, arith}
use Rattle.rows.specs.Rows.{begins, runs_after}
use Rattle.rows.proofs.Counts.{piece-length, piece-runs, runs-le}
use Rattle.runs.proofs.deliver.measure.Given as given
use Rattle.runs.proofs.deliver.measure.Goals as goal
use Rattle.runs.proofs.deliver.measure.Goals.{In-Some}

shorter : (g : given.Over) (c : In-Some g) → length (g.P.Pieces.rows c.loop-run.rest) ≡ c.in-Some.run'.row_count + length (g.P.Pieces.rows c.piece.new.self)
shorter g c = piece-length _ (g.P.Pieces.rows c.piece.new.self) c.in-Some.run'.row_count (not c.in-Some.run'.skip) c.in-Some.ensures.1

fewer : (g : given.Over) (c : In-Some g) → runs_after c.loop-run.last (g.P.Pieces.rows c.loop-run.rest) ≡ begins c.loop-run.last (not c.in-Some.run'.skip) + runs_after (Some (not c.in-Some.run'.skip)) (g.P.Pieces.rows c.piece.new.self)
fewer g c = piece-runs c.loop-run.last _ (g.P.Pieces.rows c.piece.new.self) c.in-Some.run'.row_count (not c.in-Some.run'.skip) c.in-Some.ensures.0 c.in-Some.ensures.1

pub overflow_add-runs : goal.overflow_add-runs
overflow_add-runs g c =
    omega (arith, fewer g (goal.at.overflow_add-runs g c).In-Some, c.loop-run.invariant.1, c.fresh-runs.ensures, runs-le None (g.P.Pieces.rows c.args.from), c.requires)

pub loop-run-preserved : goal.loop-run-preserved
loop-run-preserved g c = let i = (goal.at.loop-run-preserved g c).In-Some in (omega (arith, shorter g i, c.loop-run.invariant.0), omega (arith, fewer g i, c.loop-run.invariant.1, c.fresh-runs.ensures))
