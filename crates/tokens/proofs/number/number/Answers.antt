use Rattle.std.proofs.Common.{◌+◌, ◌^◌, get_or, drop, sym, ap, ◌∙◌}
use Rattle.std.proofs.lemmas.List.{drop_more}
use Rattle.tokens.specs.Words.{below, digits_after}
use Rattle.tokens.proofs.Digits.{stop}
use Rattle.tokens.proofs.number.number.Goals as goal

pub returns-in_err-n : goal.returns-in_err-n
returns-in_err-n c =
    let w = c.args.word.now in
    let i = c.loop-b.b-index in
    let n = c.loop-b.n in
    c.from_residual.ensures
    ∙ sym (sym c.loop-b.invariant.1
    ∙ ap (λ bs. below (2 ^ 64) (digits_after n bs)) (drop_more w i 0 c.loop-b-test.true)
    ∙ stop n (get_or w i 0) (drop (i + 1) w) c.in_err-n.ensures)
