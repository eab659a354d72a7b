use Rattle.selections.specs.Forms.{selection_rows}
use Rattle.stored.proofs.EndLaws.{serves-first}
use Rattle.stored.proofs.split.split_stored.Goals as goal

pub in_room-requires : goal.in_room-requires
in_room-requires c = serves-first c.args.n (selection_rows c.args.selection)
