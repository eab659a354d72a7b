use Rattle.std.proofs.Common.{◌∙◌, arith}
use Rattle.pages.specs.Fetch.{no_page}
use Rattle.pages.proofs.PageLaws.{last-first}
use Rattle.pages.proofs.list.PageList.last_first_row.Goals as goal

pub returns-in-len1-up : goal.returns-in-len1-up
returns-in-len1-up c = c.first_row.ensures ∙ last-first c.args.self.now.pages.now no_page (omega arith)
