use Rattle.std.proofs.Common.{length, ap, arith}
use Rattle.rows.specs.Said.{ByRank}
use Rattle.rows.proofs.Rules.{length-and_then, by_rank}
use Rattle.runs.proofs.SinkLaws.{delivered-as, of-delivered}
use Rattle.algebra.proofs.and_then.and_then.Goals as goal

pub deliver-requires : goal.deliver-requires
deliver-requires g c =
    omega (arith, ap length c.new.ensures, length-and_then (g.A.RunSource.rows c.args.first) (g.B.RunSource.rows c.args.second), g.met.A.RunSource.within c.args.first)

pub returns-clause-by_rank : goal.returns-clause-by_rank
returns-clause-by_rank g c =
    let k = g.K.RowSink.sink in
    let xs = g.A.RunSource.rows c.args.first in
    let ys = g.B.RunSource.rows c.args.second in
    let done = delivered-as k c.new.ensures c.deliver.ensures in
    of-delivered k (ByRank xs ys) (by_rank xs ys) done
