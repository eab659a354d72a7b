use Rattle.std.proofs.Common.{length, sym, ap, ◌∙◌, arith}
use Rattle.rows.specs.Said.{Offset}
use Rattle.rows.proofs.Rules.{length-skip, offset-rows}
use Rattle.cuts.proofs.Offsets.{offset-some}
use Rattle.runs.proofs.SinkLaws.{delivered-as, of-delivered}
use Rattle.cuts.proofs.offset.offset.Goals as goal

pub deliver-requires : goal.deliver-requires
deliver-requires g c =
    omega (arith, ap length c.new-2.ensures, length-skip c.args.n (g.S.RunSource.rows c.args.source), g.met.S.RunSource.within c.args.source)

pub returns-clause-offsets : goal.returns-clause-offsets
returns-clause-offsets g c =
    let k = g.K.RowSink.sink in
    let n = c.args.n in
    let xs = g.S.RunSource.rows c.args.source in
    let rows = c.new-2.ensures ∙ sym (offset-some n xs (omega (arith, c.selected_left.ensures, c.if-selected_left-n.false))) in
    let done = delivered-as k rows c.deliver.ensures in
    of-delivered k (Offset n xs) (offset-rows n xs) done
