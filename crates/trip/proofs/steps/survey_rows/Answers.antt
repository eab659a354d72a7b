use Rattle.std.proofs.Common.{ap, ap₂, ◌∙◌, subst}
use Rattle.rows.specs.Rules.{and_then}
use Rattle.survey.specs.Filters.{picked}
use Rattle.trip.specs.Steps.{StepOf}
use Rattle.trip.proofs.Combined.{narrowed}
use Rattle.trip.proofs.steps.survey_rows.Goals as goal

pub returns-clause-rows : goal.returns-clause-rows
returns-clause-rows c =
    let shots = c.args.shots.now in
    let left = c.as_slice.ensures.value ∙ c.in_ok-left.ensures ∙ ap (λ l. picked l shots) c.selection.ensures in
    let both = c.in_ok-both.ensures ∙ ap₂ and_then c.selection-2.ensures c.selection-3.ensures in
    narrowed c.args.survey.now.first c.args.survey.now.second shots _ _ _ _ c.in_ok-first.ensures left c.in_ok-second.ensures both

pub returns-clause-steps : goal.returns-clause-steps
returns-clause-steps c = record {
  first = subst (λ l. StepOf l c.in_ok-told_of.field-0) c.in_ok-first.ensures c.in_ok-told_of.ensures;
  both = subst (λ l. StepOf l c.in_ok-told_of-2.field-0) (returns-clause-rows c) c.in_ok-told_of-2.ensures;
}
