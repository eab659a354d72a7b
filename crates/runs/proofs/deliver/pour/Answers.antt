use Rattle.std.proofs.Common.{◌++◌, sym, subst}
use Rattle.rows.specs.Rows.{run_of}
use Rattle.runs.specs.Sinks.{Room}
use Rattle.runs.proofs.SinkLaws.{pour-room}
use Rattle.runs.proofs.deliver.pour.Goals as goal

pub unreachable-requires : goal.unreachable-requires
unreachable-requires g c =
    let k = g.K.RowSink.sink in
    let inv = c.loop-run.invariant in
    c.in_default-put.ensures.takes.0
    (subst (λ n. Room k.cost n (k.rows c.loop-run.out ++ run_of c.in-Some.run')) (sym inv.1)
    (pour-room _ (k.rows c.loop-run.out) (g.P.Pieces.rows c.loop-run.rest) (run_of c.in-Some.run') (g.P.Pieces.rows c.piece.new.self) inv.0 c.in-Some.ensures.1 k.cost _ g.met.K.RowSink.laws.dearer c.requires.room))
