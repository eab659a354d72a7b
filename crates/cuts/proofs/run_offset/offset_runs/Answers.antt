use Rattle.std.proofs.Common.{◌≡◌, ◌+◌, ◌-◌, true, false, ◌++◌, length, drop, replicate, sym, ap, ◌∙◌, arith, length-drop, take_all}
use Rattle.rows.specs.Rows.{run_rows}
use Rattle.rows.specs.Rules.{skip_selected}
use Rattle.rows.proofs.Rules.{length-skip}
use Rattle.cuts.proofs.run_offset.offset_runs.Given as given
use Rattle.cuts.proofs.run_offset.offset_runs.Goals as goal
use Rattle.cuts.proofs.run_offset.offset_runs.Goals.{After-new}

-- the tail that is passed on is what comes after the run of the cut
tail-rows : (g : given.Over) (c : After-new g) → replicate (c.in-Some.split.skipped + c.args.n) false ++ (replicate (c.in-Some.split.selected - c.args.n) true ++ run_rows c.new.result.runs.now) ≡ skip_selected c.args.n (run_rows c.args.list.runs.now)
tail-rows g c =
    let cut = c.in-Some.ensures in
    let i = c.in-Some.split.run + 1 in
    let xs = c.runs-runs.result.now in
    let runs = c.new.ensures ∙ take_all _ (drop i xs) (omega (arith, length-drop i xs)) ∙ ap (drop i) c.runs-runs.ensures.0 in
    ap (λ r. replicate (c.in-Some.split.skipped + c.args.n) false ++ (replicate (c.in-Some.split.selected - c.args.n) true ++ run_rows r)) runs ∙ sym cut.rows

pub deliver-requires : goal.deliver-requires
deliver-requires g c =
    let s = c.args.list in
    omega (arith, ap length (tail-rows g (goal.at.deliver-requires g c).After-new), length-skip c.args.n (run_rows s.runs.now), s.list.counted, s.list.within)
