use Rattle.std.proofs.Common.{arith}
use Rattle.runs.specs.HeldRows.{held_rows}
use Rattle.runs.proofs.HeldLaws.{taken-of}
use Rattle.cuts.proofs.Pieces.{skip-past, skip-none, skip-on}
use Rattle.cuts.proofs.offset.UnselectedPieces.piece.Goals as goal
use Rattle.cuts.proofs.offset.UnselectedPieces.piece.Goals.{then-run-via-then-run, then-run-via-else-run+then-self-eq0}

pub returns-then-run : goal.returns-then-run
returns-then-run g c =
    let run = c.in_ok-run.run' in
    let peek = c.in_ok-run.ensures in
    let left = held_rows g.S.RunSource.rows c.take.new.self in
    let m = c.args.self.now.left in
    let taken = taken-of _ run run.row_count _ left peek.begun.1 c.take.ensures in (
      peek.begun.0,
      elim c.then-run.branch [
        | then-run-via-then-run w ↦ skip-past _ _ left m run.row_count _ peek.same taken w.if-run.true
        | then-run-via-else-run+then-self-eq0 w ↦ skip-none _ _ left m run.row_count _ peek.same taken w.if-self-eq0.true
      ],
    )

pub returns : goal.returns
returns g c =
    let run = c.in_ok-run.run' in
    let peek = c.in_ok-run.ensures in
    let left = held_rows g.S.RunSource.rows c.take-2.new.self in
    let taken = taken-of _ run c.min-n.result _ left peek.begun.1 c.take-2.ensures in
    (omega (arith, peek.begun.0), skip-on _ _ left c.args.self.now.left c.min-n.result _ peek.same taken (omega arith) c.if-run.false)
