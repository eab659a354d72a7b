use Rattle.std.proofs.Common.{◌-◌, length, sym, ap, ◌∙◌}
use Rattle.std.specs.List.{slice_get}
use Rattle.runs.specs.Places.{held}
use Rattle.runs.proofs.PlaceLaws.{last-get}
use Rattle.runs.proofs.place.Place.last.Goals as goal

pub returns : goal.returns
returns g c = c.copied.ensures ∙ c.last.ensures.value ∙ ap (λ xs. slice_get xs (length xs - 1)) c.items.ensures ∙ sym (last-get (held c.args.self.now))
