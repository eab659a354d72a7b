use Rattle.std.proofs.Common.{◌≡◌, ◌-◌, ◌++◌, drop, replicate, sym, ap, ◌∙◌, subst, arith}
use Rattle.rows.specs.Rows.{NotFirst}
use Rattle.rows.proofs.Stretches.{not-not}
use Rattle.bits.specs.Masks.{rows}
use Rattle.masks.proofs.RunsLeft.{change, some-ahead, run-rows, run-stops}
use Rattle.masks.proofs.source.MaskRunIterRunSource.next_run.Goals as goal

pub returns : goal.returns
returns c =
    let s = c.args.self.now in
    let xs = rows s.mask in
    let b = c.in_ok-set.set in
    let here = sym c.in_ok-set.ensures in
    let to = c.next_change-to.ensures in
    let n = c.next_change-to.result in
    let same = sym (not-not b) in
    let begins = subst (λ k. drop s.at xs ≡ replicate (k - s.at) b ++ drop k xs) (sym to) (run-rows xs s.at b here) in (
      omega (arith, to, change xs s.at b here, some-ahead xs s.at b here),
      begins ∙ ap (λ m. replicate (n - s.at) m ++ drop n xs) same,
      subst (λ m. NotFirst m (drop n xs)) same (subst (λ k. NotFirst b (drop k xs)) (sym to) (run-stops xs s.at b here)),
    )
