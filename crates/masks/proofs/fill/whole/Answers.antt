use Rattle.std.proofs.Common.{replicate, sym, ap, ◌∙◌}
use Rattle.masks.proofs.StoreLaws.{all_set, none-set}
use Rattle.masks.proofs.fill.whole.Goals as goal

pub returns-then-set : goal.returns-then-set
returns-then-set c = all_set ∙ ap (replicate 64) (sym c.if-set.true)

pub returns-else-set : goal.returns-else-set
returns-else-set c = none-set ∙ ap (replicate 64) (sym c.if-set.false)
