use Rattle.std.proofs.Common.{◌*◌, ◌/◌, ◌<◌, ◌≤◌, length, sym, ap, subst, le-div_iff_mul-le, arith}
use Rattle.rows.specs.Rows.{count_runs}
use Rattle.algebra.proofs.RunCounts.{smooth}
use Rattle.algebra.proofs.strategy.auto_selection_strategy.Goals as goal

pub returns-then-threshold-eq0 : goal.returns-then-threshold-eq0
returns-then-threshold-eq0 g c =
    let xs = g.S.RunSource.rows c.args.source in
    let t = c.args.threshold in
    let none : count_runs xs * t ≤ length xs = subst (λ n. count_runs xs * n ≤ length xs) (sym c.if-threshold-eq0.true) (omega arith) in
    smooth t xs (omega (arith, c.rows_left-total.ensures, c.if-total-eq0.false)) none

pub returns : goal.returns
returns g c =
    let xs = g.S.RunSource.rows c.args.source in
    let t = c.args.threshold in
    let same = ap (λ n. n / t) c.rows_left-total.ensures in
    let some : 0 < t = omega (arith, c.if-threshold-eq0.false) in
    let few : count_runs xs ≤ length xs / t = omega (arith, same, c.count_runs.ensures, c.if-count_runs-most.false) in
    smooth t xs (omega (arith, c.rows_left-total.ensures, c.if-total-eq0.false)) ((le-div_iff_mul-le some).0 few)
