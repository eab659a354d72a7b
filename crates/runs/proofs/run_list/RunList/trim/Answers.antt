use Rattle.std.proofs.Common.{◌≡◌, ◌-◌, ◌<◌, false, List, [], ◌∷◌, ◌++◌, length, get_or, ◌∙◌, arith, rules}
use Rattle.rows.specs.declared.selector.RowSelector.{RowSelector}
use Rattle.runs.specs.Places.{but_last}
use Rattle.runs.proofs.PlaceLaws.{last-at, with-last}
use Rattle.runs.proofs.TrimLaws.{front-canonical, front_length, front-count, front-trimmed, selected-trimmed}
use Rattle.runs.proofs.run_list.RunList.trim.Goals as goal

abbrev last_run : List RowSelector → RowSelector
last_run xs = get_or xs (length xs - 1) (record { row_count = 0; skip = false })

cut : (xs : List RowSelector) → 0 < length xs → xs ≡ but_last xs ++ last_run xs ∷ []
cut xs h = with-last xs (last_run xs) (last-at xs _ h)

pub returns-then-not-last : goal.returns-then-not-last
returns-then-not-last c =
    let s = c.args.self in
    let xs = s.runs.now in
    selected-trimmed xs (last_run xs) s.list.whole (cut xs (search rules)) c.if-not-last.true

pub overflow_sub-result : goal.overflow_sub-result
overflow_sub-result c =
    let s = c.args.self in
    let xs = s.runs.now in
    omega (arith, s.list.counted, front_length xs (last_run xs) s.list.whole (cut xs (search rules)))

pub invariant_of-result : goal.invariant_of-result
invariant_of-result c =
    let s = c.args.self in
    let xs = s.runs.now in
    let e = cut xs (search rules) in record {
      list = record {
        whole = front-canonical xs (last_run xs) s.list.whole e;
        counted = omega (arith, s.list.counted, front_length xs (last_run xs) s.list.whole e);
        chosen = s.list.chosen ∙ front-count xs (last_run xs) s.list.whole e c.if-not-last.false;
        within = omega (arith, s.list.within);
      };
    }

pub returns : goal.returns
returns c =
    let s = c.args.self in
    let xs = s.runs.now in
    front-trimmed xs (last_run xs) s.list.whole (cut xs (search rules)) c.if-not-last.false
