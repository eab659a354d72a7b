use Rattle.std.proofs.Common.{◌≡◌, ◌+◌, true, [], length, drop, sym, ap, ◌∙◌, subst, arith}
use Rattle.std.specs.Prelude.{MatchOption}
use Rattle.std.proofs.lemmas.List.{length-drop}
use Rattle.rows.specs.Rows.{selected_count}
use Rattle.rows.specs.Chunks.{leading}
use Rattle.bits.specs.Masks.{rows}
use Rattle.bits.specs.Walks.{Spanned}
use Rattle.bits.proofs.WalkLaws.{no_span, next-span}
use Rattle.bits.proofs.spans.SetSlicesIterator.next.Goals as goal

pub returns-in_err-start-clause-steps : goal.returns-in_err-start-clause-steps
returns-in_err-start-clause-steps c =
    let s = c.args.self.now.left in
    let t = c.first.new.self in
    let found = c.in_err-start.ensures in
    subst (λ r. MatchOption r ((selected_count (drop s.at (rows s.mask)) ≡ 0) × (drop t.at (rows t.mask) ≡ [])) (λ x. Spanned s.at (drop s.at (rows s.mask)) x.start x.end t.at (drop t.at (rows t.mask)))) (sym c.from_residual.ensures) (
      no_span (rows s.mask) s.at t.at found.passed found.stands,
      ap (λ m. drop t.at (rows m)) found.same ∙ found.stands,
    )

pub returns-clause-steps : goal.returns-clause-steps
returns-clause-steps c =
    let s = c.args.self.now.left in
    let found = c.in_ok-start.ensures in
    let start = c.in_ok-start.start in
    let end = c.stretch_end-end.result in
    subst (λ m. Spanned s.at (drop s.at (rows s.mask)) start end end (drop end (rows m))) (sym found.same)
    (next-span (rows s.mask) s.at start (found.stands.0 ∙ found.passed) found.stands.1 end
    (c.stretch_end-end.ensures.stretch ∙ ap (λ m. start + leading true (drop start (rows m))) found.same))

pub returns-clause-goes : goal.returns-clause-goes
returns-clause-goes c =
    let s = c.args.self.now.left in
    let given = returns-clause-steps c in
    record {
      on = λ _. (tt, tt, omega (arith, given.after, given.some, c.in_ok-start.ensures.stands.1, length-drop s.at (rows s.mask), ap (λ m. length (drop c.stretch_end-end.result (rows m))) c.in_ok-start.ensures.same, length-drop c.stretch_end-end.result (rows s.mask)));
      keeps = tt;
      rests = λ _. tt;
    }
