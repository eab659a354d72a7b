use Rattle.std.proofs.Common.{◌≡◌, ◌+◌, not, length, replicate, refl, arith}
use Rattle.masks.specs.Written.{written}
use Rattle.masks.specs.Shown.{untouched-chain}
use Rattle.masks.proofs.SpareLaws.{mask-room, past-limit, past_bytes, longer, all_of, none_more}
use Rattle.masks.proofs.sink.MaskPlaceRowSink.put.Goals as goal

pub returns-then-n-eq0-clause-takes : goal.returns-then-n-eq0-clause-takes
returns-then-n-eq0-clause-takes c =
    let s = c.args.self.now in
    let n = c.args.run.row_count in
    let b = not c.args.run.skip in
    (mask-room s.bytes.now (length s.bytes.now) s.len n b (omega (arith, s.few, c.if-n-eq0.true)) (omega (arith, s.inside, c.if-n-eq0.true)), none_more (written s) n b c.if-n-eq0.true)

pub returns-then-self-n-clause-takes : goal.returns-then-self-n-clause-takes
returns-then-self-n-clause-takes c =
    let s = c.args.self.now in
    (past-limit s.bytes.now _ s.len c.args.run.row_count (not c.args.run.skip) (omega (arith, s.few, c.if-self-n.true)), refl)

pub returns-then-self-div_ceil-clause-takes : goal.returns-then-self-div_ceil-clause-takes
returns-then-self-div_ceil-clause-takes c =
    let s = c.args.self.now in
    (past_bytes s.bytes.now _ s.len c.args.run.row_count (not c.args.run.skip) (omega (arith, c.div_ceil.ensures, c.if-self-div_ceil.true)), refl)

pub loop-self-preserved : goal.loop-self-preserved
loop-self-preserved c =
    let s = c.args.self.now in
    let t = c.loop-self.self in
    let u = c.extend.new.self in
    let i = c.loop-self.invariant in
    let m = c.extend.result in
    let p = c.extend.ensures in (
      omega (arith, p.rows.len, i.0),
      omega (arith, p.rows.len, p.some.1, c.loop-self-test.true),
      longer (written s) _ _ (not c.args.run.skip) s.len t.len m u.len i.0 p.rows.len i.2 p.rows.rows,
      untouched-chain s t u (replicate m (not c.args.run.skip)) p.rows.rows i.3 p.rows.rest,
    )

pub returns-clause-takes : goal.returns-clause-takes
returns-clause-takes c =
    let s = c.args.self.now in
    let t = c.loop-self.self in
    let i = c.loop-self.invariant in
    let n = c.args.run.row_count in
    let b = not c.args.run.skip in
    let all : t.len ≡ s.len + n = omega (arith, i.1, c.loop-self-test.false) in
    (mask-room s.bytes.now (length s.bytes.now) s.len n b (omega (arith, s.few, c.if-self-n.false)) (omega (arith, c.div_ceil.ensures, c.if-self-div_ceil.false)), all_of (written s) _ b s.len n t.len all i.2)
