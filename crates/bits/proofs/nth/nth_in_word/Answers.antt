use Rattle.std.proofs.Common.{◌≡◌, ◌-◌, ◌/◌, sym, ap, ◌∙◌, arith}
use Rattle.rows.specs.Rows.{selected_count}
use Rattle.rows.specs.Rules.{nth_end}
use Rattle.bits.specs.Bits.{bit_at, word_rows}
use Rattle.bits.proofs.RowLaws.{length-rows, selected-more}
use Rattle.bits.proofs.Words.{low_count, high-rows}
use Rattle.bits.proofs.Searches.{nth-pass, nth_here, nth-one}
use Rattle.bits.proofs.nth.nth_in_word.Goals as goal

pub loop-size-preserved-then-ones-left : goal.loop-size-preserved-then-ones-left
loop-size-preserved-then-ones-left c =
    let w = c.loop-size.w in
    let size = c.loop-size.size in
    let half = size / 2 in
    let left = c.loop-size.left in
    let ones = c.word_ones-ones.result in
    let low : selected_count (word_rows w half) ≡ ones =
    sym (c.word_ones-ones.ensures ∙ low_count w c.low_bits.result half (omega arith) c.low_bits.ensures.small c.low_bits.ensures.rows) in
    let high = high-rows w half (size - half) in (
      omega arith,
      omega (arith, c.loop-size.invariant.1, selected-more (bit_at w) 0 half (size - half) half size (omega arith) (omega arith), ap selected_count high),
      omega arith,
      omega (arith, c.loop-size.invariant.3, nth-pass (bit_at w) left 0 half half size ones (omega arith) (omega arith) low (omega arith), ap (nth_end (left - ones)) high),
    )

pub loop-size-preserved : goal.loop-size-preserved
loop-size-preserved c =
    let w = c.loop-size.w in
    let half = c.loop-size.size / 2 in
    let low = c.word_ones-ones.ensures ∙ low_count w c.low_bits.result half (omega arith) c.low_bits.ensures.small c.low_bits.ensures.rows in (
      omega arith,
      omega arith,
      omega arith,
      omega (arith, c.loop-size.invariant.3, nth_here (bit_at w) c.loop-size.left 0 half c.loop-size.size (omega arith) (omega arith)),
    )

pub returns : goal.returns
returns c =
    let w = c.loop-size.w in
    let size = c.loop-size.size in
    omega (
      arith,
      c.loop-size.invariant.3,
      nth-one c.loop-size.left (word_rows w size) (omega (arith, length-rows (bit_at w) 0 size)) c.loop-size.invariant.0 c.loop-size.invariant.1,
    )
