use Rattle.std.proofs.Common.{sym, arith}
use Rattle.rows.specs.Ranges.{InRanges}
use Rattle.rows.proofs.RangeLaws.{in-ranges}
use Rattle.runs.proofs.SinkLaws.{of-delivered}
use Rattle.algebra.proofs.ranges.from_consecutive_ranges.Goals as goal

pub deliver-requires : goal.deliver-requires
deliver-requires g c = omega (arith, (in-ranges c.args.total c.args.ranges.now (sym c.in_default.ensures)).0)

pub returns-clause-in_ranges : goal.returns-clause-in_ranges
returns-clause-in_ranges g c =
    let k = g.K.RowSink.sink in
    let rs = c.args.ranges.now in
    let ok = sym c.in_default.ensures in
    let done = c.deliver.ensures in
    of-delivered k (InRanges c.args.total rs) (in-ranges c.args.total rs ok) done
