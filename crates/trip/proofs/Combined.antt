-- What a survey's two filters keep, and what two surveys of the same shots keep together. Assumes nothing.
use Rattle.std.proofs.Common.{◌≡◌, Bool, List, [], ◌∷◌, map, refl, ap, ap₂, ◌∙◌}
use Rattle.rows.specs.Rules.{and_then, combine}
use Rattle.survey.specs.declared.filter.Filter.{Filter}
use Rattle.survey.specs.declared.shot.Shot.{Shot}
use Rattle.survey.specs.Filters.{passes, passes_both, picked}
use Rattle.survey.proofs.Picked.{both-filters}

-- xs are the first filter's rows, ys the second's of the shots that the first left, and zs what both left
pub narrowed : (f g : Filter) (ss left : List Shot) (xs ys zs : List Bool)
    → xs ≡ map (passes f) ss → left ≡ picked xs ss → ys ≡ map (passes g) left → zs ≡ and_then xs ys → zs ≡ map (passes_both f g) ss
narrowed f g ss left xs ys zs first here second both =
    let ranks : ys ≡ map (passes g) (picked (map (passes f) ss) ss) = second ∙ ap (map (passes g)) (here ∙ ap (λ l. picked l ss) first) in
    both ∙ ap₂ and_then first ranks ∙ both-filters f g ss

-- each shot's mark is the policy's of its two marks
combined : (f : Bool → Bool → Bool) (p q : Shot → Bool) (ss : List Shot) → combine f (map p ss) (map q ss) ≡ map (λ s. f (p s) (q s)) ss
combined f p q [] = refl
combined f p q (s ∷ ss) = ap (λ l. f (p s) (q s) ∷ l) (combined f p q ss)

-- xs are the rows of the shots that p keeps, ys those of q, and zs the two combined
pub together : (f : Bool → Bool → Bool) (p q : Shot → Bool) (ss : List Shot) (xs ys zs : List Bool)
    → xs ≡ map p ss → ys ≡ map q ss → zs ≡ combine f xs ys → zs ≡ map (λ s. f (p s) (q s)) ss
together f p q ss xs ys zs first second both = both ∙ ap₂ (combine f) first second ∙ combined f p q ss
