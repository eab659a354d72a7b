use Rattle.std.proofs.Common.{sym, ap, ◌∙◌, arith, take_all}
use Rattle.rows.specs.Rows.{selected_count}
use Rattle.cuts.proofs.part.PartCountedSource.selected_left.Goals as goal

pub returns-then-rows_left-self : goal.returns-then-rows_left-self
returns-then-rows_left-self g c =
    let s = c.args.self.now in
    c.selected_left.ensures ∙ sym (ap selected_count (take_all s.left (g.S.RunSource.rows s.source) (omega (arith, c.rows_left.ensures, c.if-rows_left-self.true))))
