-- Filters, and the shots that rows select.
use Rattle.std.specs.Prelude.{Bool, true, false, ◌&&◌, List, [], ◌∷◌, ℕ, ℤ, pos, int_le, ◌≡◌, ◌≢◌, Result, MatchResult, codes}
use Rattle.survey.specs.declared.shot.Shot.{Shot}
use Rattle.survey.specs.declared.filter.Field.{Field}
use Rattle.survey.specs.declared.filter.Field.TheVariants.{From, To, Length, Azimuth, Inclination}
use Rattle.survey.specs.declared.filter.Filter.{Filter}
use Rattle.survey.specs.declared.filter.NoField.{NoField}

-- the value of a shot that a filter looks at
abbrev pub value_in : Field → Shot → ℤ
value_in From s = pos s.from
value_in To s = pos s.to
value_in Length s = pos s.length
value_in Azimuth s = pos s.azimuth
value_in Inclination s = s.inclination

-- the word that names a field
abbrev pub name_of : Field → List ℕ
name_of From = codes "from"
name_of To = codes "to"
name_of Length = codes "length"
name_of Azimuth = codes "azimuth"
name_of Inclination = codes "inclination"

-- the field that a word names, or that it names none
abbrev pub IsFieldOf : List ℕ → Result Field NoField → Type 0
IsFieldOf word r = MatchResult r (λ f. word ≡ name_of f) (λ _. (f : Field) → word ≢ name_of f)

-- a shot passes when that value is in the range, both ends included
abbrev pub passes : Filter → Shot → Bool
passes f s = int_le f.least (value_in f.field s) && int_le (value_in f.field s) f.most

-- a shot passes two filters
abbrev pub passes_both : Filter → Filter → Shot → Bool
passes_both f g s = passes f s && passes g s

-- the shots at the selected rows, in order
abbrev pub picked : List Bool → List Shot → List Shot
picked [] ss = []
picked (x ∷ xs) [] = []
picked (true ∷ xs) (s ∷ ss) = s ∷ picked xs ss
picked (false ∷ xs) (s ∷ ss) = picked xs ss
