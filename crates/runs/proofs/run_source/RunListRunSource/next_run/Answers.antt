use Rattle.std.proofs.Common.{◌≡◌, ◌-◌, ◌<◌, false, List, ◌∷◌, length, get_or, take, drop, arith, rules}
use Rattle.rows.specs.declared.selector.RowSelector.{RowSelector}
use Rattle.rows.proofs.RunLaws.{first_rest, rest-rows, rest-length, rest-selected, rest-canonical}
use Rattle.runs.proofs.run_source.RunListRunSource.next_run.Goals as goal

abbrev head : List RowSelector → RowSelector
head xs = get_or xs 0 (record { row_count = 0; skip = false })

abbrev tail : List RowSelector → List RowSelector
tail xs = take (length xs - 1) (drop 1 xs)

cut : (xs : List RowSelector) → 0 < length xs → xs ≡ head xs ∷ tail xs
cut xs h = first_rest xs _ h

pub overflow_sub-self-2 : goal.overflow_sub-self-2
overflow_sub-self-2 c =
    let s = c.args.self.now in
    let xs = s.runs.now in
    omega (arith, s.list.chosen, c.selected.ensures, rest-selected xs (head xs) (tail xs) (cut xs (search rules)))

pub invariant_of-self : goal.invariant_of-self
invariant_of-self c =
    let s = c.args.self.now in
    let xs = s.runs.now in
    let e = cut xs (search rules) in record {
      list = record {
        whole = (rest-canonical xs (head xs) (tail xs) e s.list.whole).2;
        counted = omega (arith, s.list.counted, rest-length xs (head xs) (tail xs) e);
        chosen = omega (arith, s.list.chosen, c.selected.ensures, rest-selected xs (head xs) (tail xs) e);
        within = omega (arith, s.list.within);
      };
    }

pub returns : goal.returns
returns c =
    let s = c.args.self.now in
    let xs = s.runs.now in
    let e = cut xs (search rules) in
    let w = rest-canonical xs (head xs) (tail xs) e s.list.whole in
    (w.0, rest-rows xs (head xs) (tail xs) e, w.1)
