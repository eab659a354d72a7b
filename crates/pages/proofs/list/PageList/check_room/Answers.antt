use Rattle.std.proofs.Common.{arith}
use Rattle.pages.proofs.FetchLaws.{wanted-few}
use Rattle.pages.proofs.list.PageList.check_room.Goals as goal

pub returns-then-self-slots-clause-few : goal.returns-then-self-slots-clause-few
returns-then-self-slots-clause-few g c = omega (arith, wanted-few c.args.self.now.pages.now (g.S.RunSource.rows c.args.source))
