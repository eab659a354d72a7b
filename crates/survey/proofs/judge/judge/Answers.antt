use Rattle.std.proofs.Common.{rules, ◌≡◌, ◌∙◌, ap, IfOk, Result, Vec, List, [], ◌∷◌, not, map, refl}
use Rattle.std.proofs.lemmas.Iterator.{YieldsList-from_slice, YieldsList-from_map, items_from_collect}
use Rattle.std.proofs.lemmas.Result.{IfOk-weaker}
use Rattle.std.specs.declared.alloc.AllocError.{AllocError}
use Rattle.std.specs.declared.alloc.Global.{Global}
use Rattle.rows.specs.Rows.{run_rows}
use Rattle.rows.specs.declared.selector.RowSelector.{RowSelector}
use Rattle.rows.proofs.Stretches.{not-not}
use Rattle.survey.specs.declared.shot.Shot.{Shot}
use Rattle.survey.specs.declared.filter.Filter.{Filter}
use Rattle.survey.specs.Filters.{passes}
use Rattle.survey.proofs.judge.judge.Goals as goal

abbrev run_at : Filter → Shot → RowSelector
run_at f s = record { row_count = 1; skip = not (passes f s) }

of-runs : (f : Filter) (ss : List Shot) → run_rows (map (run_at f) ss) ≡ map (passes f) ss
of-runs f [] = refl
of-runs f (s ∷ ss) = ap (λ b. b ∷ run_rows (map (run_at f) ss)) (not-not (passes f s)) ∙ ap (λ l. passes f s ∷ l) (of-runs f ss)

collected : (f : Filter) (ss : List Shot) (r : Result (Vec RowSelector Global) AllocError) → IfOk r (λ v. v.items ≡ map (run_at f) ss) → IfOk r (λ v. run_rows v.items ≡ map (passes f) ss)
collected f ss r = IfOk-weaker r _ _ (λ v e. ap run_rows e ∙ of-runs f ss)

pub returns : goal.returns
returns c =
    collected c.args.filter c.args.shots.now c.collect.result
    (items_from_collect _ c.collect.ensures.ran (YieldsList-from_map _ (run_at c.args.filter) (YieldsList-from_slice c.args.shots.now cc) c.map.ensures.closure (λ x r q k. search rules)))
