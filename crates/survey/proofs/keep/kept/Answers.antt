use Rattle.std.proofs.Common.{◌++◌, replicate, vec_items, ap, ◌∙◌, ap₂}
use Rattle.survey.specs.Filters.{picked}
use Rattle.survey.proofs.Picked.{pass-run, take-run}
use Rattle.survey.proofs.keep.kept.Goals as goal

pub loop-run-preserved : goal.loop-run-preserved
loop-run-preserved g c =
    let left = g.S.RunSource.rows c.next_run.new.self in
    let n = c.in-Some.run'.row_count in
    let found = vec_items c.loop-run.found in
    ap (λ k. found ++ picked left k) c.split_at.ensures.back
    ∙ pass-run _ found _ left n c.min.result c.loop-run.ahead.now c.loop-run.invariant c.min.ensures (c.in-Some.ensures.1 ∙ ap (λ b. replicate n b ++ left) c.if-not-run.false)

pub loop-run-preserved-in_ok-extend_from_slice : goal.loop-run-preserved-in_ok-extend_from_slice
loop-run-preserved-in_ok-extend_from_slice g c =
    let left = g.S.RunSource.rows c.next_run.new.self in
    let n = c.in-Some.run'.row_count in
    let found = vec_items c.loop-run.found in
    ap₂ (λ f k. f ++ picked left k) (c.in_ok-extend_from_slice.ensures.items ∙ ap (λ k. found ++ k) c.split_at.ensures.front) c.split_at.ensures.back
    ∙ take-run _ found _ left n c.min.result c.loop-run.ahead.now c.loop-run.invariant c.min.ensures (c.in-Some.ensures.1 ∙ ap (λ b. replicate n b ++ left) c.if-not-run.true)
