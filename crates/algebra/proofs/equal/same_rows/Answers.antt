use Rattle.std.proofs.Common.{Some, sym, ◌∙◌, subst}
use Rattle.std.proofs.lemmas.Bool.{not-true, not-false}
use Rattle.runs.specs.Steps.{Next}
use Rattle.algebra.proofs.Alike.{same-run, is-run, not-run, whole-from-rest, rest-from-whole}
use Rattle.algebra.proofs.equal.same_rows.Goals as goal

pub returns-then-ne : goal.returns-then-ne
returns-then-ne g c e =
    let r = c.in-Some.run' in
    let o = c.next_run-in-Some.result in
    not-run r o (not-true _ (sym c.ne.ensures ∙ c.if-ne.true)) (same-run r o _ _ (g.A.RunSource.rows c.next_run.new.self) (g.B.RunSource.rows c.next_run-in-Some.new.self) c.in-Some.ensures c.next_run-in-Some.ensures (c.loop-run.invariant.1 e))

pub loop-run-preserved : goal.loop-run-preserved
loop-run-preserved g c =
    let r = c.in-Some.run' in
    let xs = g.A.RunSource.rows c.next_run.new.self in
    let ys = g.B.RunSource.rows c.next_run-in-Some.new.self in
    let a = c.in-Some.ensures in
    let b : Next (g.B.RunSource.rows c.loop-run.others) (Some r) ys = subst (λ o. Next (g.B.RunSource.rows c.loop-run.others) o ys) (is-run r c.next_run-in-Some.result (not-false _ (sym c.ne.ensures ∙ c.if-ne.false))) c.next_run-in-Some.ensures in
    (λ e. c.loop-run.invariant.0 (whole-from-rest r _ _ xs ys a b e), λ e. rest-from-whole r _ _ xs ys a b (c.loop-run.invariant.1 e))
