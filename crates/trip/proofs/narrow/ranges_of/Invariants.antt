use Rattle.std.proofs.Common.{◌≡◌, map, take}
use Rattle.trip.specs.Narrowed.{fetched, ranges_in}
use Rattle.trip.proofs.narrow.ranges_of.Given as goal

abbrev pub invariant-loop-column : goal.invariant-loop-column
invariant-loop-column g l = ranges_in l.all ≡ map (fetched (g.S.RunSource.rows l.source)) (take l.column-index l.columns)
