use Rattle.std.proofs.Common.{◌≡◌, ◌+◌, [], ◌∷◌, ◌++◌, ap, ◌∙◌, arith}
use Rattle.rows.specs.declared.selector.RowSelector.{RowSelector}
use Rattle.rows.specs.Rows.{run_of, run_rows, canonical}
use Rattle.rows.proofs.Counts.{selected-le}
use Rattle.runs.specs.Places.{held, but_last}
use Rattle.runs.proofs.PlaceLaws.{with-last, some-last, replaced}
use Rattle.runs.proofs.RunPlaceLaws.{longer-canonical, longer-is, last_within, more_rows, more-selected}
use Rattle.runs.proofs.run_place.RunPlace.lengthen.Goals as goal
use Rattle.runs.proofs.run_place.RunPlace.lengthen.Goals.{After-selected}

pub overflow_add-last : goal.overflow_add-last
overflow_add-last c =
    let s = c.args.self.now in
    let e = with-last (held s.place) c.args.last c.requires.last in
    omega (arith, last_within (but_last (held s.place)) c.args.last c.args.more (held s.place) e, s.list.counted, c.requires.few)

abbrev grown : After-selected → RowSelector
grown c = record { row_count = c.args.more; skip = c.args.last.skip }

after : (c : After-selected) → (c.replace_last.new.self.len ≡ c.args.self.now.place.len) × (held c.replace_last.new.self ≡ but_last (held c.args.self.now.place) ++ (record { row_count = c.args.last.row_count + c.args.more; skip = c.args.last.skip } ∷ []))
after c =
    let s = c.args.self.now in
    replaced s.place _ _ c.replace_last.result (some-last s.place.slots.now s.place.len c.args.last c.requires.last) c.replace_last.ensures.replaced

rows-after : (c : After-selected) → run_rows (held c.replace_last.new.self) ≡ run_rows (held c.args.self.now.place) ++ run_of (grown c)
rows-after c =
    let xs = held c.args.self.now.place in
    ap run_rows (after c).1 ∙ longer-is (but_last xs) c.args.last c.args.more xs (with-last xs c.args.last c.requires.last)

pub overflow_add-self-2 : goal.overflow_add-self-2
overflow_add-self-2 c =
    let s = c.args.self.now in
    omega (arith, s.list.chosen, s.list.counted, c.requires.few, more-selected (run_rows (held s.place)) _ (grown c) (rows-after c), more_rows (run_rows (held s.place)) _ (grown c) (rows-after c), selected-le (run_rows (held c.replace_last.new.self)), c.selected.ensures)

pub invariant_of-self : goal.invariant_of-self
invariant_of-self c =
    let s = c.args.self.now in
    let xs = held s.place in record {
      list = record {
        whole = ap canonical (after (goal.at.invariant_of-self c).After-selected).1 ∙ longer-canonical (but_last xs) c.args.last c.args.more xs (with-last xs c.args.last c.requires.last) s.list.whole;
        counted = omega (arith, s.list.counted, more_rows (run_rows xs) _ (grown (goal.at.invariant_of-self c).After-selected) (rows-after (goal.at.invariant_of-self c).After-selected));
        chosen = omega (arith, s.list.chosen, c.selected.ensures, more-selected (run_rows xs) _ (grown (goal.at.invariant_of-self c).After-selected) (rows-after (goal.at.invariant_of-self c).After-selected));
        within = c.requires.few;
      };
    }

pub returns-clause-rows : goal.returns-clause-rows
returns-clause-rows c = rows-after (goal.at.returns-clause-rows c).After-selected
