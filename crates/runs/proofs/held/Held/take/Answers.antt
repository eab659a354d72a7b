use Rattle.rows.proofs.Stretches.{split-stretch}
use Rattle.runs.proofs.held.Held.take.Goals as goal

pub returns : goal.returns
returns g c = split-stretch _ _ _ _ c.requires
