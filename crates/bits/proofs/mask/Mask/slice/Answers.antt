use Rattle.std.proofs.Common.{ℕ, ◌+◌, ◌/◌, ◌%◌, List, ap, ◌∙◌, arith}
use Rattle.std.proofs.lemmas.List.{take_rest}
use Rattle.bits.specs.Bits.{row_at, mask_rows}
use Rattle.bits.proofs.RowLaws.{rows-slice}
use Rattle.bits.proofs.Words.{bytes_drop}
use Rattle.bits.proofs.mask.Mask.slice.Goals as goal

pub returns : goal.returns
returns c =
    let m = c.args.self.now in
    let s = c.min-skipped.result in
    let l = c.min-kept.result in
    let p = m.offset + s in
    ap (λ (bs : List ℕ). mask_rows bs (p % 8) l) (take_rest m.bytes.now (p / 8))
    ∙ bytes_drop m.bytes.now (p / 8) (p % 8) p l (omega arith)
    ∙ rows-slice (row_at m.bytes.now) m.offset m.len c.args.from c.args.len s l (omega arith) (omega arith)
