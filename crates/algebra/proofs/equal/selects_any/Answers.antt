use Rattle.std.proofs.Common.{◌∙◌}
use Rattle.std.proofs.lemmas.Bool.{not-false}
use Rattle.algebra.proofs.Alike.{selects-later}
use Rattle.algebra.proofs.equal.selects_any.Goals as goal

pub returns : goal.returns
returns g c = c.is_some.ensures ∙ selects-later c.in-Some.run' _ (g.S.RunSource.rows c.next_run.new.self) _ c.next_run-2.result c.in-Some.ensures (not-false _ c.if-not-run.false) c.next_run-2.ensures
