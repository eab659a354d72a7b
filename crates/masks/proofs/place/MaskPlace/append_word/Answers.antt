use Rattle.std.proofs.Common.{◌+◌, ◌-◌, ◌/◌, refl, sym, ap, ◌∙◌, length, arith, take_all}
use Rattle.masks.proofs.StoreLaws.{stored-bytes, stored-rows, stored-keeps}
use Rattle.masks.proofs.place.MaskPlace.append_word.Goals as goal

pub returns : goal.returns
returns c =
    let s = c.args.self.now in
    let xs = s.bytes.now in
    let i = s.len / 8 in
    let bs = c.to_le_bytes.result in
    let copied = c.copy_from_slice.ensures.after ∙ sym (take_all 8 bs (omega (arith, ap length c.to_le_bytes.ensures))) in
    let stored = stored-bytes xs _ bs i (i + 8 - i) 8 c.args.w (omega (arith, c.requires.begins, c.requires.room.0)) (omega arith) (omega arith) copied c.to_le_bytes.ensures in
    record {
      rows = stored-rows xs _ s.len i c.args.w 8 64 (omega (arith, c.requires.begins)) refl stored;
      len = refl;
      rest = (refl, stored.long, stored-keeps xs _ s.len i c.args.w 8 64 (omega (arith, c.requires.begins)) refl stored);
    }
