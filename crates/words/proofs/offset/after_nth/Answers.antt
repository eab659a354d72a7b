use Rattle.std.proofs.Common.{◌<◌, ◌≤◌, length, sym, ap, ◌∙◌, arith}
use Rattle.std.proofs.lemmas.Bool.{ltb-true, ltb-false}
use Rattle.rows.specs.Rules.{trimmed, nth_end}
use Rattle.bits.specs.Masks.{rows}
use Rattle.words.specs.Fronts.{skip_front}
use Rattle.words.proofs.CutLaws.{offset-none, offset-some}
use Rattle.words.proofs.offset.after_nth.Goals as goal
use Rattle.words.proofs.offset.after_nth.Goals.{else-n-gt0-via-then-n-gt0+else-not-selects_from, else-n-gt0-via-else-n-gt0}

pub returns-then-not-selects_from : goal.returns-then-not-selects_from
returns-then-not-selects_from c =
    let xs = rows c.args.mask in
    let none : length (trimmed xs) ≤ nth_end c.args.n xs = omega (arith, ltb-false c.find_nth_set_bit_position-cut.result (length (trimmed xs)) (sym c.if-not-selects_from.ensures), c.find_nth_set_bit_position-cut.ensures) in
    c.slice.ensures ∙ sym (offset-none c.args.n xs c.if-n-gt0.true none)

pub returns : goal.returns
returns c =
    let xs = rows c.args.mask in
    let n = c.args.n in
    let cut = c.find_nth_set_bit_position-cut in
    let past : 0 < n → nth_end n xs < length (trimmed xs) =
    λ h. elim c.else-n-gt0.branch [
      | else-n-gt0-via-then-n-gt0+else-not-selects_from w ↦ omega (arith, ltb-true cut.result (length (trimmed xs)) (sym w.if-not-selects_from.ensures), cut.ensures)
      | else-n-gt0-via-else-n-gt0 w ↦ absurd (omega (arith, w.if-n-gt0.false))
    ] in
    ap (λ k. skip_front k xs) cut.ensures ∙ sym (offset-some n xs past)
