use Rattle.std.proofs.Common.{not, arith}
use Rattle.runs.specs.HeldRows.{held_rows}
use Rattle.runs.proofs.HeldLaws.{taken-of}
use Rattle.algebra.proofs.Pieces.{piece-skip, piece-out, piece-take}
use Rattle.algebra.proofs.narrowed.NarrowedPieces.piece.Goals as goal

pub returns-then-run : goal.returns-then-run
returns-then-run g c =
    let first = c.in_ok-run.ensures in
    let left = held_rows g.A.RunSource.rows c.take.new.self in
    let taken = taken-of _ c.in_ok-run.run' _ _ left first.begun.1 c.take.ensures in
    (first.begun.0, piece-skip _ _ left c.in_ok-run.run'.row_count _ first.same taken _ c.if-run.true)

pub returns-in_default : goal.returns-in_default
returns-in_default g c =
    let first = c.in_ok-run.ensures in
    let second = c.in_default.ensures in
    let left = held_rows g.A.RunSource.rows c.take-in_default.new.self in
    let taken = taken-of _ c.in_ok-run.run' _ _ left first.begun.1 c.take-in_default.ensures in
    (first.begun.0, piece-out _ _ left c.in_ok-run.run'.row_count _ first.same taken _ _ c.if-run.false second.same second.begun)

pub returns : goal.returns
returns g c =
    let first = c.in_ok-run.ensures in
    let second = c.in-Some.ensures in
    let left = held_rows g.A.RunSource.rows c.take-2.new.self in
    let other = held_rows g.B.RunSource.rows c.take-3.new.self in
    let taken = taken-of _ c.in_ok-run.run' _ _ left first.begun.1 c.take-2.ensures in
    let beside = taken-of _ c.in-Some.other _ _ other second.begun.1 c.take-3.ensures in
    (omega (arith, first.begun.0, second.begun.0), piece-take _ _ left c.min-n.result _ first.same taken _ _ other (not c.in-Some.other.skip) c.if-run.false second.same beside)
