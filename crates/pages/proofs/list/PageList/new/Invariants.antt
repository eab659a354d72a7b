use Rattle.std.proofs.Common.{◌≡◌, ◌+◌, drop, None}
use Rattle.pages.specs.Pages.{in_order}
use Rattle.pages.proofs.list.PageList.new.Given as goal

abbrev pub invariant-loop-i : goal.invariant-loop-i
invariant-loop-i l = l.i + in_order l.last (drop l.i l.pages) ≡ in_order None l.pages
