-- A walk over the pages that hold a selected row.
use Rattle.std.specs.Prelude.{Bool, List}
use Rattle.runs.specs.HeldRows.{held_rows}
use Rattle.pages.specs.declared.span.PageSpan.{PageSpan}
use Rattle.pages.specs.declared.walk.Walk.{Walk}
use Rattle.pages.specs.Pages.{wanted_pages}

-- the pages that a walk still gives
abbrev pub pages_left : {S : Type 0} → (S → List Bool) → Walk S → List PageSpan
pages_left rows w = wanted_pages w.pages.now (held_rows rows w.rows)
