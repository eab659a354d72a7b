-- The steps of narrowing a trip: the rows of a survey, and of a window.
use Rattle.std.specs.Prelude.{◌≡◌, ◌-◌, Bool, List, map, take, drop, vec_items}
use Rattle.rows.specs.Rows.{selected_count, run_rows}
use Rattle.rows.specs.Rules.{offset, limit}
use Rattle.survey.specs.declared.shot.Shot.{Shot}
use Rattle.survey.specs.Filters.{passes, passes_both}
use Rattle.tripfile.specs.declared.trip.Survey.{Survey}
use Rattle.tripfile.specs.declared.trip.Window.{Window}
use Rattle.trip.specs.declared.steps.Step.{Step}
use Rattle.trip.specs.declared.steps.Surveyed.{Surveyed}

-- a survey keeps a shot that passes both of its filters
abbrev pub kept_by : Survey → Shot → Bool
kept_by v s = passes_both v.first v.second s

-- the selected rows of xs from one number to another, counted from 1, both included
abbrev pub rows_in : Window → List Bool → List Bool
rows_in w xs = limit (w.last - (w.first - 1)) (offset (w.first - 1) xs)

-- the shots from one number to another, counted in the same way
abbrev pub numbered : Window → List Shot → List Shot
numbered w ss = take (w.last - (w.first - 1)) (drop (w.first - 1) ss)

-- what is told of the rows xs
pub record StepOf (xs : List Bool) (s : Step) : Type 0 where
  pub count : s.kept ≡ selected_count xs
  pub rows : run_rows (vec_items s.runs) ≡ xs

-- what is told of a survey's filters, of the shots ss
pub record SurveyOf (v : Survey) (ss : List Shot) (f : Surveyed) : Type 0 where
  pub first : StepOf (map (passes v.first) ss) f.first
  pub both : StepOf (map (kept_by v) ss) f.both
