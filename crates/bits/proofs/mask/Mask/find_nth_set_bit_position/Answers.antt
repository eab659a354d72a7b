use Rattle.std.proofs.Common.{◌≡◌, ℕ, ◌+◌, ◌-◌, ◌<◌, ◌≤◌, min, Bool, false, List, length, drop, sym, ap, ◌∙◌, arith, get_or-drop}
use Rattle.std.proofs.lemmas.List.{drop-drop, drop_all, length-take, length-drop}
use Rattle.rows.specs.Rows.{selected_count}
use Rattle.rows.specs.Rules.{nth_end}
use Rattle.rows.specs.Said.{Selects}
use Rattle.bits.specs.Bits.{row_at, bit_at, word_rows}
use Rattle.bits.specs.Masks.{rows}
use Rattle.bits.proofs.RowLaws.{length-rows}
use Rattle.bits.proofs.Searches.{word-here, word-later, nth-none, nth-le}
use Rattle.bits.proofs.mask.Mask.find_nth_set_bit_position.Goals as goal
use Rattle.bits.proofs.mask.Mask.find_nth_set_bit_position.Goals.{else-loop-at-test, then-loop-at-test+else-left-ones+else-at-end-at-gt64}

pub overflow_add-result : goal.overflow_add-result
overflow_add-result c = let w = c.word-word.result in omega (arith, c.nth_in_word.ensures, nth-le c.loop-at.left (word_rows w 64), length-rows (bit_at w) 0 64)

-- the rows xs from row p on, of which w has the first 64
module _ (xs : List Bool) (p w ones left : ℕ) (at : (k : ℕ) → k < 64 → bit_at w k ≡ Selects xs (p + k)) (count : ones ≡ selected_count (word_rows w 64)) where
  ahead : (k : ℕ) → k < 64 → bit_at w k ≡ Selects (drop p xs) k
  ahead k h = at k h ∙ sym (get_or-drop p xs k false)

  here : left ≤ ones → nth_end left (drop p xs) ≡ nth_end left (word_rows w 64)
  here h = word-here w (drop p xs) ahead left (omega arith)

  later : ones < left → min p (length xs) + nth_end left (drop p xs) ≡ min (p + 64) (length xs) + nth_end (left - ones) (drop (p + 64) xs)
  later h =
      omega (
        arith,
        word-later w (drop p xs) ahead left (omega arith),
        length-take 64 (drop p xs),
        length-drop p xs,
        ap (λ (k : ℕ). nth_end (left - k) (drop 64 (drop p xs))) count,
        ap (nth_end (left - ones)) (drop-drop 64 p xs),
      )

-- no row is left
past : (xs : List Bool) (p left : ℕ) → length xs ≤ p → nth_end left (drop p xs) ≡ 0
past xs p left h = nth-none left (drop p xs) (ap length (drop_all p xs h))

pub returns-then-left-ones : goal.returns-then-left-ones
returns-then-left-ones c =
    let m = c.args.self.now in
    omega (
      arith,
      c.loop-at.invariant.1,
      c.nth_in_word.ensures,
      here (rows m) c.loop-at.at c.word-word.result c.word_ones-ones.result c.loop-at.left c.word-word.ensures c.word_ones-ones.ensures (omega arith),
    )

pub loop-at-preserved : goal.loop-at-preserved
loop-at-preserved c =
    let m = c.args.self.now in (
      omega arith,
      omega (
        arith,
        c.loop-at.invariant.1,
        length-rows (row_at m.bytes.now) m.offset m.len,
        later (rows m) c.loop-at.at c.word-word.result c.word_ones-ones.result c.loop-at.left c.word-word.ensures c.word_ones-ones.ensures (omega arith),
      ),
    )

pub returns : goal.returns
returns c =
    let m = c.args.self.now in
    let long : length (rows m) ≡ m.len = length-rows (row_at m.bytes.now) m.offset m.len in
    let p = c.loop-at.at in
    elim c.loop-at-test.branch [
      | else-loop-at-test w ↦ omega (arith, c.loop-at.invariant.1, past (rows m) p c.loop-at.left (omega arith))
      | then-loop-at-test+else-left-ones+else-at-end-at-gt64 w ↦
          omega (
            arith,
            c.loop-at.invariant.1,
            long,
            later (rows m) p w.word-word.result w.word_ones-ones.result c.loop-at.left w.word-word.ensures w.word_ones-ones.ensures (omega arith),
            past (rows m) (p + 64) (c.loop-at.left - w.word_ones-ones.result) (omega arith),
          )
    ]
