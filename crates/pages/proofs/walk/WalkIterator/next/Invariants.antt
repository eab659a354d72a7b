use Rattle.std.proofs.Common.{◌≡◌, ◌≤◌, length}
use Rattle.pages.specs.Walks.{pages_left}
use Rattle.pages.proofs.walk.WalkIterator.next.Given as goal

abbrev pub invariant-loop-self : goal.invariant-loop-self
invariant-loop-self g l =
    (pages_left g.S.RunSource.rows l.initial.self ≡ pages_left g.S.RunSource.rows l.self)
    × (length l.self.pages.now ≤ length l.initial.self.pages.now)

abbrev pub decreases-loop-self : goal.decreases-loop-self
decreases-loop-self g l = length l.self.pages.now
