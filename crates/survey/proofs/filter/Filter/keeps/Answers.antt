use Rattle.std.proofs.Common.{arith}
use Rattle.std.proofs.lemmas.Int.{to_z-of_z, ints}
use Rattle.survey.proofs.filter.Filter.keeps.Goals as goal

pub returns : goal.returns
returns c = grind (arith, ints, to_z-of_z)
