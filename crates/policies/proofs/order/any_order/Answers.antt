use mathlib.Core.Path.{refl}
use Rattle.policies.proofs.Laws.{combine-assoc, combine-comm, combine-idem}
use Rattle.policies.proofs.order.any_order.Goals as goal

pub returns : goal.returns
returns g c =
    let f = g.P.Policy.rule in
    let laws = g.met.P.Policy in
    (refl, record { brackets = combine-assoc f laws.assoc; order = combine-comm f laws.comm; twice = combine-idem f laws.idem })
