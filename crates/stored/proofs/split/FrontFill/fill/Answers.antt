use Rattle.std.proofs.Common.{ap}
use Rattle.selections.specs.Forms.{selection_rows}
use Rattle.stored.proofs.EndLaws.{serves-rest}
use Rattle.stored.proofs.split.FrontFill.fill.Goals as goal

pub in_room-requires : goal.in_room-requires
in_room-requires g c = serves-rest _ c.new-rest.result.n (selection_rows c.args.self.now.of) (selection_rows c.new-rest.result.of.now) (ap selection_rows c.new-rest.ensures.of.0)
