use Rattle.std.proofs.Common.{◌/◌, ◌<◌, length, refl, arith, length-set}
use Rattle.bits.proofs.Words.{rows_append}
use Rattle.masks.proofs.SpareLaws.{keeps-more}
use Rattle.masks.proofs.place.MaskPlace.append.Goals as goal

pub returns : goal.returns
returns c =
    let s = c.args.self.now in
    let xs = s.bytes.now in
    let v = c.topped-v.result in
    let here : s.len / 8 < length xs = omega (arith, c.requires.some, c.requires.room.0) in
    record {
      rows = rows_append xs s.len c.args.m v c.args.set here c.requires.byte c.topped-v.ensures.kept c.topped-v.ensures.added;
      len = refl;
      rest = (refl, length-set xs (s.len / 8) v, keeps-more xs s.len c.args.m v c.requires.some);
    }
