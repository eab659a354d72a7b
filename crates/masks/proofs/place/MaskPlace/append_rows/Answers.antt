use Rattle.std.proofs.Common.{◌≡◌, ◌+◌, ◌-◌, ◌/◌, ◌≤◌, refl, arith}
use borrow.Rule.Slice.PartMut.{put_mid}
use Rattle.masks.specs.Spares.{bytes_of}
use Rattle.masks.specs.Stores.{Stored}
use Rattle.masks.proofs.StoreLaws.{stored-bytes, stored-rows, stored-spare, stored-keeps}
use Rattle.masks.proofs.place.MaskPlace.append_rows.Goals as goal
use Rattle.masks.proofs.place.MaskPlace.append_rows.Goals.{After-copy_from_slice}

used : (c : After-copy_from_slice) → c.div_ceil-used.result ≡ bytes_of c.args.n
used c = omega (arith, c.div_ceil-used.ensures)

stored : (c : After-copy_from_slice) → Stored c.args.self.now.bytes.now (c.args.self.now.len / 8) c.args.w c.div_ceil-used.result (put_mid (c.args.self.now.len / 8) (c.args.self.now.len / 8 + c.div_ceil-used.result - c.args.self.now.len / 8) c.args.self.now.bytes.now c.copy_from_slice.new.self)
stored c =
    let s = c.args.self.now in
    let few : c.args.n ≤ 64 = c.requires.word.0 in
    stored-bytes s.bytes.now _ c.to_le_bytes.result (s.len / 8) _ c.div_ceil-used.result c.args.w (omega (arith, used c, c.requires.begins, c.requires.room.0)) (omega (arith, used c)) (omega arith) c.copy_from_slice.ensures.after c.to_le_bytes.ensures

pub invariant_of-self : goal.invariant_of-self
invariant_of-self c =
    let s = c.args.self.now in
    let d = (goal.at.invariant_of-self c).After-copy_from_slice in
    record {
      inside = omega (arith, c.requires.room.0, (stored d).long);
      spare = stored-spare s.bytes.now _ s.len (s.len / 8) c.args.w _ c.args.n (omega (arith, c.requires.begins)) (used d) (stored d) c.requires.word.1;
      few = c.requires.room.1;
    }

pub returns : goal.returns
returns c =
    let s = c.args.self.now in
    let d = (goal.at.returns c).After-copy_from_slice in
    record {
      rows = stored-rows s.bytes.now _ s.len (s.len / 8) c.args.w _ c.args.n (omega (arith, c.requires.begins)) (used d) (stored d);
      len = refl;
      rest = (refl, (stored d).long, stored-keeps s.bytes.now _ s.len (s.len / 8) c.args.w _ c.args.n (omega (arith, c.requires.begins)) (used d) (stored d));
    }
