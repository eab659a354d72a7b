use Rattle.std.proofs.Common.{arith}
use Rattle.runs.specs.HeldRows.{held_rows}
use Rattle.runs.proofs.HeldLaws.{taken-of}
use Rattle.cuts.proofs.Pieces.{limit-past, limit-on}
use Rattle.cuts.proofs.limit.LimitedPieces.piece.Goals as goal

pub returns-then-run : goal.returns-then-run
returns-then-run g c =
    let run = c.in_ok-run.run' in
    let peek = c.in_ok-run.ensures in
    let left = held_rows g.S.RunSource.rows c.take.new.self in
    let taken = taken-of _ run run.row_count _ left peek.begun.1 c.take.ensures in
    (peek.begun.0, limit-past _ _ left c.args.self.now.left run.row_count _ peek.same taken c.if-self-eq0.false c.if-run.true)

pub returns : goal.returns
returns g c =
    let run = c.in_ok-run.run' in
    let peek = c.in_ok-run.ensures in
    let left = held_rows g.S.RunSource.rows c.take-2.new.self in
    let taken = taken-of _ run c.min-n.result _ left peek.begun.1 c.take-2.ensures in
    (omega (arith, peek.begun.0), limit-on _ _ left c.args.self.now.left c.min-n.result _ peek.same taken (omega arith) c.if-run.false)
