use Rattle.std.proofs.Common.{◌≡◌, ◌<◌, Bool, not, List, ◌++◌, length, replicate, Ok, Err, Result, refl, ap, ◌∙◌, arith}
use Rattle.rows.specs.declared.selector.RowSelector.{RowSelector}
use Rattle.rows.specs.Rows.{run_of, run_rows}
use Rattle.runs.specs.declared.place.Full.{Full}
use Rattle.runs.specs.declared.run_place.RunPlace.{RunPlace}
use Rattle.runs.specs.Places.{held}
use Rattle.runs.specs.RunPlaces.{Apart, Offers}
use Rattle.runs.specs.Sinks.{Room, Offered}
use Rattle.runs.proofs.SinkLaws.{none_more, took}
use Rattle.runs.proofs.RunPlaceLaws.{place-room, no_slot}
use Rattle.runs.proofs.run_sink.RunPlaceRowSink.put.Goals as goal

abbrev rows : RunPlace → List Bool
rows s = run_rows (held s.place)

fits : (s : RunPlace) → Room (λ _ k. k) (length s.place.slots.now) (rows s)
fits s = place-room s.place s.counts.all s.list.whole s.list.counted s.list.within

pub returns-then-run-eq0-clause-takes : goal.returns-then-run-eq0-clause-takes
returns-then-run-eq0-clause-takes c =
    let s = c.args.self.now in
    took (λ _ k. k) _ _ (rows s) (run_of c.args.run) (rows s) (fits s) refl (none_more (rows s) c.args.run c.if-run-eq0.true)

pub returns-in-Some-clause-takes : goal.returns-in-Some-clause-takes
returns-in-Some-clause-takes c =
    let s = c.args.self.now in
    let t = c.lengthen.new.self in
    let same = ap (λ b. rows s ++ replicate c.args.run.row_count (not b)) c.in-Some.ensures.1 in
    took (λ _ k. k) _ _ (rows s) (run_of c.args.run) (rows t) (fits t) c.lengthen.ensures.rest.1 (c.lengthen.ensures.rows ∙ same)

offered : (s t : RunPlace) (r : RowSelector) (b : Result (Unit {0}) Full) → Apart (held s.place) r.skip → 0 < r.row_count → length t.place.slots.now ≡ length s.place.slots.now → Offers s.place (run_of r) b t.place → Offered (Room (λ _ k. k) (length s.place.slots.now)) (rows s) (run_of r) b (rows t)
offered s t r (Ok _) u h e o = took (λ _ k. k) _ _ (rows s) (run_of r) (rows t) (fits t) e o
offered s t r (Err _) u h e o = (no_slot s.place r s.list.whole u h o.0, ap (λ l. run_rows (held l)) o.1)

pub returns-clause-takes : goal.returns-clause-takes
returns-clause-takes c =
    let s = c.args.self.now in
    offered s c.append.new.self c.args.run c.append.result c.in_default.ensures (omega (arith, c.if-run-eq0.false)) c.append.ensures.rest.1 c.append.ensures.takes
