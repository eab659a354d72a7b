use Rattle.std.proofs.Common.{◌-◌, ◌<◌, ◌≤◌, not, take, arith}
use Rattle.std.proofs.Math.Bool.{or_assoc}
use Rattle.rows.specs.Rows.{any_row}
use Rattle.runs.specs.HeldRows.{held_rows}
use Rattle.runs.proofs.HeldLaws.{passed-any, passed-rest}
use Rattle.runs.proofs.held.Held.pass.Goals as goal

pub loop-left-preserved : goal.loop-left-preserved
loop-left-preserved g c =
    let m = c.min-m.result in
    let n = c.loop-left.left in
    let b = not c.in-Some.run'.skip in
    let t = held_rows g.S.RunSource.rows c.take.new.self in
    let some : 0 < m = omega (arith, c.min-m.ensures, c.in-Some.ensures.begun.0, c.loop-left-test.true) in
    let within : m ≤ n = omega (arith, c.min-m.ensures) in
    let any = passed-any n m b t within some in
    let rest = passed-rest n m b t within in
    (cc (or_assoc c.loop-left.found b (any_row (take (n - m) t)), c.in-Some.ensures.same, c.in-Some.ensures.begun.1), cc (c.in-Some.ensures.same, c.in-Some.ensures.begun.1))
