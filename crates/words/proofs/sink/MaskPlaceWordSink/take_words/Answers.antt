use Rattle.std.proofs.Common.{◌≡◌, ◌+◌, ◌*◌, ◌/◌, ◌%◌, ◌++◌, length, take, sym, refl, ap, ◌∙◌, arith, take_all}
use Rattle.refusals.specs.Refusals.{bits}
use Rattle.runs.specs.Sinks.{admitted}
use Rattle.bits.specs.Bits.{row_at, word_rows}
use Rattle.bits.proofs.RowLaws.{length-rows}
use Rattle.masks.specs.Spares.{bytes_of}
use Rattle.masks.specs.Written.{written}
use Rattle.masks.specs.Shown.{untouched-chain}
use Rattle.runs.proofs.SinkLaws.{admits}
use Rattle.words.proofs.WordLaws.{words_more, word_small}
use Rattle.words.proofs.sink.MaskPlaceWordSink.take_words.Goals as goal

pub loop-i-init : goal.loop-i-init
loop-i-init g c =
    let s = c.clear.new.self in
    (omega (arith, ap length c.clear.ensures.none, length-rows (row_at s.bytes.now) 0 s.len), c.clear.ensures.none, (refl, refl, refl))

pub loop-i-preserved : goal.loop-i-preserved
loop-i-preserved g c =
    let xs = g.W.WordRows.rows c.args.from in
    let at = 64 * c.loop-i.i in
    let i = c.loop-i.invariant in
    let p = c.append_word.ensures in
    let next : at + 64 ≡ 64 * (c.loop-i.i + 1) = omega arith in (
      omega (arith, p.len, i.0),
      p.rows ∙ words_more xs (written c.loop-i.self) at c.word.result 64 c.word.ensures (omega arith) (omega (arith, c.len-n.ensures)) i.1 ∙ ap (λ k. take k xs) next,
      untouched-chain c.clear.new.self c.loop-i.self c.append_word.new.self (word_rows c.word.result 64) p.rows i.2 p.rest,
    )

pub append_rows-requires-clause-word : goal.append_rows-requires-clause-word
append_rows-requires-clause-word g c =
    let i = c.loop-i.invariant in
    let at = 64 * (c.len-n.result / 64) in
    let fits = admits bits (length c.args.self.now.bytes.now) (bytes_of c.len-n.result) c.in_ok-admit.ensures in
    (omega arith, word_small (g.W.WordRows.rows c.args.from) at c.word-2.result (c.len-n.result % 64) c.word-2.ensures c.word-2.type_inv (omega arith) (omega (arith, c.len-n.ensures)))

pub returns : goal.returns
returns g c =
    let xs = g.W.WordRows.rows c.args.from in
    let s = c.args.self.now in
    let at = 64 * (c.len-n.result / 64) in
    let w = c.word-2.result in
    let left = c.len-n.result % 64 in
    let i = c.loop-i.invariant in
    let p = c.append_rows.ensures in
    let empty = c.clear.new.self in
    let end = c.append_rows.new.self in
    let here : 64 * c.loop-i.i ≡ at = omega arith in
    let all : written end ≡ xs = p.rows ∙ words_more xs (written c.loop-i.self) at w left c.word-2.ensures (omega arith) (omega (arith, c.len-n.ensures)) (i.1 ∙ ap (λ k. take k xs) here) ∙ take_all (at + left) xs (omega (arith, c.len-n.ensures)) in
    record {
      verdict = c.in_ok-admit.ensures ∙ ap (λ n. admitted bits (length s.bytes.now) (bytes_of n)) c.len-n.ensures;
      written = all;
      rest = untouched-chain s empty end xs (all ∙ ap (λ l. l ++ xs) (sym c.clear.ensures.none)) c.clear.ensures.rest (untouched-chain empty c.loop-i.self end (word_rows w left) p.rows i.2 p.rest);
    }
