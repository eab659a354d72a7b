-- What an operation makes of its selections, and what it is refused by.
use Rattle.std.specs.Prelude.{◌+◌, Bool, cond, not, ◌&&◌, ◌||◌, List, ◌++◌, length, Ok, nat_lt}
use Rattle.refusals.specs.Refusals.{refused, selection}
use Rattle.rows.specs.Rows.{row_limit, selected_count}
use Rattle.rows.specs.Rules.{and_then, combine, offset, limit, trimmed}
use Rattle.runs.specs.Sinks.{Verdict}
use Rattle.either.specs.Either.{is_left}
use Rattle.selections.specs.declared.form.RowSelection.{RowSelection}
use Rattle.selections.specs.Forms.{selection_rows}
use Rattle.stored.specs.declared.operation.Operation.{Operation}
use Rattle.stored.specs.declared.operation.Operation.TheVariants as op

-- the rows of its result
abbrev pub made : Operation → List Bool
made (op.Convert a) = selection_rows a
made (op.Narrow a b) = and_then (selection_rows a) (selection_rows b)
made (op.And a b) = combine (λ x y. x && y) (selection_rows a) (selection_rows b)
made (op.Or a b) = combine (λ x y. x || y) (selection_rows a) (selection_rows b)
made (op.Join a b) = selection_rows a ++ selection_rows b
made (op.Offset a n) = offset n (selection_rows a)
made (op.Limit a n) = limit n (selection_rows a)
made (op.Trim a) = trimmed (selection_rows a)

-- whether it is a mask where no form is asked for: where what it is made of is one
abbrev pub masked : RowSelection → Bool
masked s = not (is_left s.form)

abbrev pub natural_mask : Operation → Bool
natural_mask (op.Convert a) = masked a
natural_mask (op.Narrow a b) = masked a
natural_mask (op.And a b) = masked a && masked b
natural_mask (op.Or a b) = masked a && masked b
natural_mask (op.Join a b) = masked a && masked b
natural_mask (op.Offset a n) = masked a
natural_mask (op.Limit a n) = masked a
natural_mask (op.Trim a) = masked a

-- the second's length is the first's selected count, or it is too short or too long
abbrev pub matched : List Bool → List Bool → Verdict
matched xs ys =
    cond (nat_lt (length ys) (selected_count xs)) (refused 4 (length ys) selection)
    (cond (nat_lt (selected_count xs) (length ys)) (refused 5 (selected_count xs) selection) (Ok tt))

-- two parts are within the row limit together, or the second passes it
abbrev pub few_together : List Bool → List Bool → Verdict
few_together xs ys = cond (nat_lt row_limit (length xs + length ys)) (refused 1 1 selection) (Ok tt)

-- what it is refused by wherever its result is to stand: and_then where the lengths differ, joining where the parts are too long
abbrev pub wrong : Operation → Verdict
wrong (op.Convert a) = Ok tt
wrong (op.Narrow a b) = matched (selection_rows a) (selection_rows b)
wrong (op.And a b) = Ok tt
wrong (op.Or a b) = Ok tt
wrong (op.Join a b) = few_together (selection_rows a) (selection_rows b)
wrong (op.Offset a n) = Ok tt
wrong (op.Limit a n) = Ok tt
wrong (op.Trim a) = Ok tt
