use Rattle.std.proofs.Common.{◌+◌, false, get_or, subst, arith}
use Rattle.rows.specs.declared.selector.RowSelector.{RowSelector}
use Rattle.cuts.specs.Cutting.{CutAt}
use Rattle.cuts.proofs.Offsets.{step-length, step-skipped, step-selected, past_skip, past-select, cut-here}
use Rattle.cuts.proofs.run_offset.find_split.Goals as goal

abbrev none : RowSelector
none = record { row_count = 0; skip = false }

pub loop-run-preserved-then-selector : goal.loop-run-preserved-then-selector
loop-run-preserved-then-selector c =
    let xs = c.runs-runs.result.now in
    let i = c.loop-run.run in
    let h = c.loop-run-test.true in
    let inv = c.loop-run.invariant in (
      inv.0,
      omega (arith, inv.1, step-length xs i none h),
      omega (arith, inv.2, step-skipped xs i none h c.if-selector.true),
      past_skip xs i none h c.args.n c.loop-run.skipped c.loop-run.selected _ inv.3 c.if-selector.true,
    )

pub returns-then-selected-n : goal.returns-then-selected-n
returns-then-selected-n c =
    let xs = c.runs-runs.result.now in
    let i = c.loop-run.run in
    let h = c.loop-run-test.true in
    let inv = c.loop-run.invariant in
    let here = get_or xs i none in
    let cut : CutAt c.args.n xs i c.loop-run.skipped (c.loop-run.selected + here.row_count) = record {
      inside = h;
      past = c.if-selected-n.true;
      some = omega (arith, inv.2, step-selected xs i none h c.if-selector.false, c.if-selected-n.true);
      few = omega (arith, inv.1, step-length xs i none h);
      rows = cut-here xs i none h c.args.n c.loop-run.skipped c.loop-run.selected _ inv.3 c.if-selector.false inv.0 c.if-selected-n.true;
    } in
    subst (λ r. CutAt c.args.n r i c.loop-run.skipped (c.loop-run.selected + here.row_count)) c.runs-runs.ensures.0 cut

pub loop-run-preserved : goal.loop-run-preserved
loop-run-preserved c =
    let xs = c.runs-runs.result.now in
    let i = c.loop-run.run in
    let h = c.loop-run-test.true in
    let inv = c.loop-run.invariant in (
      c.if-selected-n.false,
      omega (arith, inv.1, step-length xs i none h),
      omega (arith, inv.2, step-selected xs i none h c.if-selector.false),
      past-select xs i none h c.args.n c.loop-run.skipped c.loop-run.selected _ inv.3 c.if-selector.false c.if-selected-n.false,
    )
