use Rattle.std.proofs.Common.{ℕ, ◌/◌, ◌%◌, List, ap, ◌∙◌, arith}
use Rattle.std.proofs.lemmas.List.{take_rest}
use Rattle.bits.specs.Bits.{mask_rows}
use Rattle.bits.proofs.Words.{bytes_drop}
use Rattle.bits.proofs.mask.Mask.new.Goals as goal

pub returns-clause-rows : goal.returns-clause-rows
returns-clause-rows c =
    let o = c.args.offset in
    ap (λ (s : List ℕ). mask_rows s (o % 8) c.args.len) (take_rest c.args.bytes.now (o / 8))
    ∙ bytes_drop c.args.bytes.now (o / 8) (o % 8) o c.args.len (omega arith)
