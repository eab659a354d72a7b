use Rattle.std.proofs.Common.{length, ap, arith}
use Rattle.rows.specs.Said.{RowByRow}
use Rattle.rows.proofs.Rules.{row-by-row}
use Rattle.runs.proofs.SinkLaws.{delivered-as, of-delivered}
use Rattle.algebra.proofs.combine.combine.Goals as goal

pub deliver-requires : goal.deliver-requires
deliver-requires g c =
    let xs = g.A.RunSource.rows c.args.first in
    let ys = g.B.RunSource.rows c.args.second in
    omega (arith, ap length c.new.ensures, (row-by-row g.P.Policy.rule xs ys).long, g.met.A.RunSource.within c.args.first, g.met.B.RunSource.within c.args.second)

pub returns-clause-row_by_row : goal.returns-clause-row_by_row
returns-clause-row_by_row g c =
    let k = g.K.RowSink.sink in
    let f = g.P.Policy.rule in
    let xs = g.A.RunSource.rows c.args.first in
    let ys = g.B.RunSource.rows c.args.second in
    let done = delivered-as k c.new.ensures c.deliver.ensures in
    of-delivered k (RowByRow f xs ys) (row-by-row f xs ys) done
