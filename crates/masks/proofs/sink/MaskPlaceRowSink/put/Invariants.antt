use Rattle.std.proofs.Common.{◌≡◌, not, ◌-◌, ◌≤◌, ◌++◌, replicate}
use Rattle.masks.specs.Written.{written, Untouched}
use Rattle.masks.proofs.sink.MaskPlaceRowSink.put.Given as goal

abbrev pub invariant-loop-self : goal.invariant-loop-self
invariant-loop-self l =
    let s = l.initial.self in
    let t = l.self in
    (s.len ≤ t.len) × (t.len ≤ l.end) × (written t ≡ written s ++ replicate (t.len - s.len) (not l.run.skip)) × Untouched s t

abbrev pub decreases-loop-self : goal.decreases-loop-self
decreases-loop-self l = l.end - l.self.len
