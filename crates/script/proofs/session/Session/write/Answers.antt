use Rattle.std.proofs.Common.{ap, ◌∙◌}
use Rattle.script.proofs.Done.{if-done}
use Rattle.script.proofs.session.Session.write.Goals as goal

pub returns-clause-flag : goal.returns-clause-flag
returns-clause-flag g c = if-done c.done.result _ (c.in_ok-slot.field-0, (c.args.made, ap (λ s. s.slots.items) c.done.ensures.slots ∙ c.put.ensures))
