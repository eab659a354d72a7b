use Rattle.std.proofs.Common.{◌≡◌, ◌++◌, length, vec_items}
use Rattle.survey.specs.Filters.{picked}
use Rattle.survey.proofs.keep.kept.Given as goal

abbrev pub invariant-loop-run : goal.invariant-loop-run
invariant-loop-run g l = vec_items l.found ++ picked (g.S.RunSource.rows l.rest) l.ahead ≡ picked (g.S.RunSource.rows l.initial.rest) l.shots

abbrev pub decreases-loop-run : goal.decreases-loop-run
decreases-loop-run g l = length (g.S.RunSource.rows l.rest)
