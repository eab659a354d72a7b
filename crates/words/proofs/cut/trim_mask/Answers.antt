use Rattle.std.proofs.Common.{take, sym, ap, ◌∙◌, arith}
use Rattle.rows.proofs.Endings.{trimmed-front}
use Rattle.bits.specs.Masks.{rows}
use Rattle.words.specs.Shown.{few-rows}
use Rattle.words.proofs.CutLaws.{last_some, trimmed-le}
use Rattle.words.proofs.cut.trim_mask.Goals as goal

pub overflow_add-last : goal.overflow_add-last
overflow_add-last c =
    let xs = rows c.args.mask in
    omega (arith, last_some xs c.in-Some.last c.in-Some.ensures, trimmed-le xs, few-rows c.args.mask)

pub returns-in-Some : goal.returns-in-Some
returns-in-Some c =
    let xs = rows c.args.mask in
    c.slice.ensures ∙ ap (λ k. take k xs) (last_some xs c.in-Some.last c.in-Some.ensures) ∙ sym (trimmed-front xs)
