-- What narrowing a trip finds, whichever form the selections have.
use Rattle.std.specs.Prelude.{◌≡◌, Bool, ◌&&◌, ◌||◌, List, map, filter, vec_items, Vec}
use Rattle.std.specs.declared.alloc.Global.{Global}
use Rattle.rows.specs.Rules.{strategy}
use Rattle.pages.specs.Pages.{ByteRange, scanned}
use Rattle.survey.specs.declared.shot.Shot.{Shot}
use Rattle.survey.specs.Filters.{picked}
use Rattle.tripfile.specs.declared.trip.Column.{Column}
use Rattle.tripfile.specs.declared.trip.Trip.{Trip}
use Rattle.trip.specs.declared.narrow.Found.{Found}
use Rattle.trip.specs.Steps.{kept_by, rows_in, numbered, StepOf, SurveyOf}

-- the byte ranges that a column needs for the rows ys
abbrev pub fetched : List Bool → Column → List ByteRange
fetched ys c = scanned (vec_items c.pages) ys

-- lists of ranges, as they are held
abbrev pub ranges_in : Vec (Vec ByteRange Global) Global → List (List ByteRange)
ranges_in v = map vec_items (vec_items v)

-- a shot is kept by both surveys, or by one or the other
abbrev pub kept_by_both : Trip → Shot → Bool
kept_by_both t s = kept_by t.first s && kept_by t.second s

abbrev pub kept_by_either : Trip → Shot → Bool
kept_by_either t s = kept_by t.first s || kept_by t.second s

-- the rows that are asked for, of those that one survey or the other keeps
abbrev pub rows_asked : Trip → List Bool
rows_asked t = rows_in t.window (map (kept_by_either t) (vec_items t.shots))

-- what is found at each step, and for the rows that are asked for the ranges of each column and the form to read in
pub record Narrowed (t : Trip) (f : Found) : Type 0 where
  pub first : SurveyOf t.first (vec_items t.shots) f.first
  pub second : SurveyOf t.second (vec_items t.shots) f.second
  pub both : StepOf (map (kept_by_both t) (vec_items t.shots)) f.by_both
  pub either : StepOf (map (kept_by_either t) (vec_items t.shots)) f.by_either
  pub asked : StepOf (rows_asked t) f.asked
  -- these are the rows of the shots with the numbers asked for, counted among those that are kept
  pub shots : picked (rows_asked t) (vec_items t.shots) ≡ numbered t.window (filter (kept_by_either t) (vec_items t.shots))
  pub pages : ranges_in f.ranges ≡ map (fetched (rows_asked t)) (vec_items t.columns)
  pub form : f.strategy ≡ strategy t.threshold (rows_asked t)
