use Rattle.std.proofs.Common.{◌≡◌, ◌||◌, take, drop}
use Rattle.runs.specs.HeldRows.{held_rows}
use Rattle.rows.specs.Rows.{any_row}
use Rattle.runs.proofs.held.Held.pass.Given as goal

abbrev pub invariant-loop-left : goal.invariant-loop-left
invariant-loop-left g l =
    let whole = held_rows g.S.RunSource.rows l.initial.self in
    let rest = held_rows g.S.RunSource.rows l.self in
    (any_row (take l.n whole) ≡ (l.found || any_row (take l.left rest))) × (drop l.n whole ≡ drop l.left rest)

abbrev pub decreases-loop-left : goal.decreases-loop-left
decreases-loop-left g l = l.left
