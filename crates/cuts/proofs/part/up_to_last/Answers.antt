use Rattle.std.proofs.Common.{◌≡◌, ◌+◌, not, ◌++◌, length, replicate, ap, ◌∙◌, arith}
use Rattle.std.proofs.lemmas.Bool.{not-true, not-false}
use Rattle.rows.proofs.Counts.{piece-length}
use Rattle.cuts.proofs.Lasts.{kept, ends, ends-skip, ends-select}
use Rattle.cuts.proofs.part.up_to_last.Given as given
use Rattle.cuts.proofs.part.up_to_last.Goals as goal
use Rattle.cuts.proofs.part.up_to_last.Goals.{In-Some}

shorter : (g : given.Over) (c : In-Some g) → length (g.S.RunSource.rows c.loop-run.rest) ≡ c.in-Some.run'.row_count + length (g.S.RunSource.rows c.next_run.new.self)
shorter g c = piece-length _ (g.S.RunSource.rows c.next_run.new.self) c.in-Some.run'.row_count (not c.in-Some.run'.skip) c.in-Some.ensures.1

pub loop-run-preserved-then-not-run : goal.loop-run-preserved-then-not-run
loop-run-preserved-then-not-run g c =
    let run = c.in-Some.run' in
    let left = g.S.RunSource.rows c.next_run.new.self in
    let step = c.in-Some.ensures in
    let rows = step.1 ∙ ap (λ b. replicate run.row_count (not b) ++ left) (not-true _ c.if-not-run.true) in
    (omega (arith, shorter g (goal.at.loop-run-preserved-then-not-run g c).In-Some, c.loop-run.invariant.0), c.loop-run.invariant.1 ∙ ap (λ l. ends c.loop-run.at c.loop-run.last (kept l)) rows ∙ ends-select c.loop-run.at c.loop-run.last run.row_count left step.0)

pub loop-run-preserved : goal.loop-run-preserved
loop-run-preserved g c =
    let run = c.in-Some.run' in
    let left = g.S.RunSource.rows c.next_run.new.self in
    let step = c.in-Some.ensures in
    let rows = step.1 ∙ ap (λ b. replicate run.row_count (not b) ++ left) (not-false _ c.if-not-run.false) in
    (omega (arith, shorter g (goal.at.loop-run-preserved g c).In-Some, c.loop-run.invariant.0), c.loop-run.invariant.1 ∙ ap (λ l. ends c.loop-run.at c.loop-run.last (kept l)) rows ∙ ends-skip c.loop-run.at c.loop-run.last run.row_count left)
