-- The rule with a name, and its entry. Assumes nothing.
use Rattle.std.proofs.Common.{◌≡◌, ℕ, Bool, true, false, cond, List, [], ◌∷◌, map, find, Some, refl}
use Rattle.std.specs.Option.{option_map}
use Rattle.std.specs.Str.{bytes_eq}
use Rattle.scripts.specs.Grammar.{entry_of, entry_named}
use Rattle.scripts.specs.declared.grammar.Rule.{Rule}

pub entry_found : (w : List ℕ) (rules : List Rule) → option_map entry_of (find (λ r. bytes_eq w r.name.now) rules) ≡ entry_named w (map entry_of rules)
entry_found w [] = refl
entry_found w (r ∷ rs) = step (bytes_eq w r.name.now) (entry_found w rs)
  where
    step : (t : Bool) → option_map entry_of (find (λ r. bytes_eq w r.name.now) rs) ≡ entry_named w (map entry_of rs) → option_map entry_of (cond t (Some r) (find (λ r. bytes_eq w r.name.now) rs)) ≡ cond t (Some (entry_of r)) (entry_named w (map entry_of rs))
    step true ih = refl
    step false ih = ih
