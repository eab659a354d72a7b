use Rattle.std.proofs.Common.{take, sym, ap, ◌∙◌}
use Rattle.rows.proofs.Endings.{limited}
use Rattle.bits.specs.Masks.{rows}
use Rattle.words.proofs.cut.limit_mask.Goals as goal

pub returns : goal.returns
returns c =
    let xs = rows c.args.mask in
    c.slice.ensures ∙ ap (λ k. take k xs) c.find_nth_set_bit_position.ensures ∙ sym (limited c.args.n xs).front
