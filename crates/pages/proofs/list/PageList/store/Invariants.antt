use Rattle.std.proofs.Common.{◌≡◌, ◌+◌, ◌++◌, map, length}
use Rattle.runs.specs.Places.{held, Untouched}
use Rattle.pages.specs.Items.{Tells}
use Rattle.pages.specs.Pages.{wanted_pages}
use Rattle.pages.specs.Walks.{pages_left}
use Rattle.pages.proofs.list.PageList.store.Given as goal

abbrev pub invariant-loop-page : goal.invariant-loop-page
invariant-loop-page g l =
    let left = pages_left g.S.RunSource.rows l.page-iterator in
    let all = wanted_pages l.fn.self.pages.now (g.S.RunSource.rows l.fn.source) in
    (l.out.len + length left ≡ length all)
    × ((h : _) → Tells (goal.F-post g l.tell) h → held l.out ++ map h left ≡ map h all)
    × Untouched l.initial.out l.out
