use Rattle.runs.proofs.PlaceLaws.{not-replaced}
use Rattle.runs.proofs.place.Place.replace_last.Goals as goal

pub returns-in_err-last-clause-replaced : goal.returns-in_err-last-clause-replaced
returns-in_err-last-clause-replaced g c = not-replaced c.args.self.now c.args.x c.from_residual.result c.from_residual.ensures c.in_err-last.ensures
