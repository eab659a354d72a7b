use Rattle.std.proofs.Common.{◌-◌, not, ◌++◌, take, replicate, sym, ap, ◌∙◌, arith}
use Rattle.cuts.proofs.Pieces.{part-run, not-first-part}
use Rattle.cuts.proofs.part.PartRunSource.next_run.Goals as goal

pub returns : goal.returns
returns g c =
    let s = c.args.self.now in
    let run = c.in_ok-run.run' in
    let left = g.S.RunSource.rows c.next_run.new.self in
    let step = c.in_ok-run.ensures in
    let n = c.min-n.ensures in (
      omega (arith, n, step.0, c.if-self-eq0.false),
      ap (take s.left) step.1 ∙ part-run s.left run.row_count (not run.skip) left ∙ ap (λ k. replicate k (not run.skip) ++ take (s.left - k) left) (sym n),
      not-first-part (s.left - c.min-n.result) (not run.skip) left step.2,
    )
