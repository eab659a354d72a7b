use Rattle.std.proofs.Common.{◌++◌, sym, ap, ◌∙◌}
use Rattle.runs.proofs.deliver.write.Goals as goal

pub returns-clause-rest : goal.returns-clause-rest
returns-clause-rest g c =
    let rows = g.P.Pieces.rows c.args.from in
    g.met.K.RowSink.laws.chain _ _ _ rows (c.pour.ensures.rows ∙ ap (λ l. l ++ rows) (sym c.clear.ensures.none)) c.clear.ensures.rest c.pour.ensures.rest
