use Rattle.std.proofs.Common.{length, ap, arith}
use Rattle.std.proofs.lemmas.List.{length-take}
use Rattle.rows.specs.Rules.{limit}
use Rattle.rows.specs.Said.{Limited}
use Rattle.rows.proofs.Endings.{limited}
use Rattle.runs.proofs.SinkLaws.{delivered-as, of-delivered}
use Rattle.cuts.proofs.limit.limit.Goals as goal

pub deliver-requires : goal.deliver-requires
deliver-requires g c =
    let xs = g.S.RunSource.rows c.args.source in
    let zs = limit c.args.n xs in
    omega (arith, ap length c.new.ensures, ap length (limited c.args.n xs).front, length-take (length zs) xs, g.met.S.RunSource.within c.args.source)

pub returns-clause-limited : goal.returns-clause-limited
returns-clause-limited g c =
    let k = g.K.RowSink.sink in
    let xs = g.S.RunSource.rows c.args.source in
    let done = delivered-as k c.new.ensures c.deliver.ensures in
    of-delivered k (Limited c.args.n xs) (limited c.args.n xs) done
