use Rattle.std.proofs.Common.{length, ap, ◌∙◌, arith}
use Rattle.std.proofs.lemmas.List.{length-take}
use Rattle.rows.specs.Rules.{limit, trimmed}
use Rattle.rows.specs.Said.{Trimmed}
use Rattle.rows.proofs.Endings.{trim, trimmed-front, trimmed-limit}
use Rattle.runs.proofs.SinkLaws.{delivered-as, of-delivered}
use Rattle.cuts.proofs.trim.trim.Goals as goal

pub deliver-requires : goal.deliver-requires
deliver-requires g c =
    let xs = g.S.RunSource.rows c.args.source in
    let rows = c.new.ensures ∙ ap (λ k. limit k xs) c.selected_left.ensures ∙ trimmed-limit xs in
    omega (arith, ap length rows, ap length (trimmed-front xs), length-take (length (trimmed xs)) xs, g.met.S.RunSource.within c.args.source)

pub returns : goal.returns
returns g c =
    let k = g.K.RowSink.sink in
    let xs = g.S.RunSource.rows c.args.source in
    let done = delivered-as k (c.new.ensures ∙ ap (λ k. limit k xs) c.selected_left.ensures ∙ trimmed-limit xs) c.deliver.ensures in
    record { delivers = done; last = of-delivered k (Trimmed xs) (trim xs) done }
