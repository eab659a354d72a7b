use Rattle.std.proofs.Common.{not, arith}
use Rattle.runs.specs.HeldRows.{held_rows}
use Rattle.runs.proofs.HeldLaws.{taken-of}
use Rattle.algebra.proofs.Pieces.{piece-alone, piece-both}
use Rattle.algebra.proofs.combined.CombinedPieces.piece.Goals as goal

pub returns-in-Some-None : goal.returns-in-Some-None
returns-in-Some-None g c =
    let first = c.in-Some-None.ensures in
    let second = c.in-Some-None.ensures' in
    let left = held_rows g.A.RunSource.rows c.take-in-Some-None.new.self in
    let taken = taken-of _ c.in-Some-None.run' _ _ left first.begun.1 c.take-in-Some-None.ensures in
    (first.begun.0, piece-alone g.P.Policy.rule _ _ left c.in-Some-None.run'.row_count _ first.same taken _ _ second.same second.begun)

pub returns-in-Some-Some : goal.returns-in-Some-Some
returns-in-Some-Some g c =
    let first = c.in-Some-Some.ensures in
    let second = c.in-Some-Some.ensures' in
    let run = c.in-Some-Some.run' in
    let other = c.in-Some-Some.other in
    let left = held_rows g.A.RunSource.rows c.take-in-Some-Some.new.self in
    let others = held_rows g.B.RunSource.rows c.take-in-Some-Some-2.new.self in
    let taken = taken-of _ run _ _ left first.begun.1 c.take-in-Some-Some.ensures in
    let beside = taken-of _ other _ _ others second.begun.1 c.take-in-Some-Some-2.ensures in
    (omega (arith, first.begun.0, second.begun.0), piece-both g.P.Policy.rule _ _ left c.min-n.result (not run.skip) first.same taken _ _ second.same others (not other.skip) c.mark-mark.result beside c.mark-mark.ensures)
