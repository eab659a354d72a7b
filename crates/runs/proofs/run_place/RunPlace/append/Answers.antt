use Rattle.std.proofs.Common.{◌≡◌, ◌++◌, ap, ◌∙◌, arith}
use Rattle.rows.specs.Rows.{run_of, run_rows, canonical}
use Rattle.rows.proofs.Counts.{selected-le}
use Rattle.runs.specs.Places.{held}
use Rattle.runs.proofs.RunPlaceLaws.{run_rows-push, canonical-push, more_rows, more-selected}
use Rattle.runs.proofs.run_place.RunPlace.append.Goals as goal
use Rattle.runs.proofs.run_place.RunPlace.append.Goals.{After-selected}

rows-after : (c : After-selected) → run_rows (held c.push.new.self) ≡ run_rows (held c.args.self.now.place) ++ run_of c.args.run
rows-after c = ap run_rows c.in_ok-push.ensures.pushed.2 ∙ run_rows-push (held c.args.self.now.place) c.args.run

pub overflow_add-self-2 : goal.overflow_add-self-2
overflow_add-self-2 c =
    let s = c.args.self.now in
    omega (arith, s.list.chosen, s.list.counted, c.requires.few, more-selected (run_rows (held s.place)) _ c.args.run (rows-after c), more_rows (run_rows (held s.place)) _ c.args.run (rows-after c), selected-le (run_rows (held c.push.new.self)), c.selected.ensures)

pub invariant_of-self-2 : goal.invariant_of-self-2
invariant_of-self-2 c =
    let s = c.args.self.now in
    let p = c.in_ok-push.ensures.pushed in
    let xs = held s.place in record {
      list = record {
        whole = ap canonical p.2 ∙ canonical-push xs c.args.run s.list.whole c.requires.apart c.requires.some;
        counted = omega (arith, s.list.counted, more_rows (run_rows xs) _ c.args.run (rows-after (goal.at.invariant_of-self-2 c).After-selected));
        chosen = omega (arith, s.list.chosen, c.selected.ensures, more-selected (run_rows xs) _ c.args.run (rows-after (goal.at.invariant_of-self-2 c).After-selected));
        within = c.requires.few;
      };
    }

pub returns-clause-takes : goal.returns-clause-takes
returns-clause-takes c = rows-after (goal.at.returns-clause-takes c).After-selected
