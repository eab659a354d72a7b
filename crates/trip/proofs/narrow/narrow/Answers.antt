use Rattle.std.proofs.Common.{◌≡◌, ◌&&◌, ◌||◌, map, vec_items, ap, ap₂, ◌∙◌, subst}
use Rattle.rows.specs.Rules.{strategy}
use Rattle.stored.specs.Rows.{stored_rows}
use Rattle.trip.specs.Steps.{kept_by, rows_in, StepOf, SurveyOf}
use Rattle.trip.specs.Narrowed.{fetched, kept_by_either, rows_asked}
use Rattle.trip.proofs.Asked.{asked-shots}
use Rattle.trip.proofs.Combined.{together}
use Rattle.trip.proofs.narrow.narrow.Goals as goal

pub returns : goal.returns
returns c =
    let t = c.args.trip.now in
    let shots = vec_items t.shots in
    let same = c.as_slice-shots.ensures.value in
    let f = kept_by t.first in
    let g = kept_by t.second in
    let xs = c.selection-xs.ensures ∙ c.in_ok-first.ensures.rows ∙ ap (map f) same in
    let ys = c.selection-ys.ensures ∙ c.in_ok-second.ensures.rows ∙ ap (map g) same in
    let both = together (λ x y. x && y) f g shots _ _ _ xs ys c.in_ok-by_both.ensures in
    let either = together (λ x y. x || y) f g shots _ _ _ xs ys c.in_ok-by_either.ensures in
    let asked : stored_rows c.in_ok-asked.asked ≡ rows_asked t = c.in_ok-asked.ensures ∙ ap (rows_in t.window) either in
    let rows = c.selection-rows.ensures ∙ asked in
    record {
      first = subst (λ l. SurveyOf t.first l c.in_ok-first.first) same c.in_ok-first.ensures.steps;
      second = subst (λ l. SurveyOf t.second l c.in_ok-second.second) same c.in_ok-second.ensures.steps;
      both = subst (λ l. StepOf l c.in_ok-told_of.field-0) both c.in_ok-told_of.ensures;
      either = subst (λ l. StepOf l c.in_ok-told_of-2.field-0) either c.in_ok-told_of-2.ensures;
      asked = subst (λ l. StepOf l c.in_ok-told_of-3.field-0) asked c.in_ok-told_of-3.ensures;
      shots = asked-shots t.window (kept_by_either t) shots;
      pages = c.in_ok-ranges_of.ensures ∙ ap₂ (λ r cs. map (fetched r) cs) rows c.as_slice.ensures.value;
      form = c.auto_selection_strategy.ensures ∙ ap (strategy t.threshold) rows;
    }
