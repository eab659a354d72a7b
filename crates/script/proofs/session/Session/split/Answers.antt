use Rattle.std.proofs.Common.{ap, ◌∙◌}
use Rattle.script.proofs.Done.{if-done}
use Rattle.script.proofs.session.Session.split.Goals as goal

pub returns-clause-flag : goal.returns-clause-flag
returns-clause-flag g c =
    if-done c.done.result _ (
      c.put.new.self,
      ((c.in_ok-front.front, (c.in_ok-first.first, c.put.ensures)), (c.in_ok-rest.rest, (c.in_ok-first.second, ap (λ s. s.slots.items) c.done.ensures.slots ∙ c.put-2.ensures))),
    )
