use Rattle.std.proofs.Common.{◌≡◌, ◌+◌, ◌<◌, ◌≤◌}
use Rattle.rows.specs.Rows.{selected_count}
use Rattle.rows.specs.Rules.{nth_end}
use Rattle.bits.specs.Bits.{word_rows}
use Rattle.bits.proofs.nth.nth_in_word.Given as goal

abbrev pub invariant-loop-size : goal.invariant-loop-size
invariant-loop-size l =
    (0 < l.left) × (l.left ≤ selected_count (word_rows l.w l.size)) × (l.passed + l.size ≤ 64)
    × (nth_end l.n (word_rows l.word 64) ≡ l.passed + nth_end l.left (word_rows l.w l.size))

abbrev pub decreases-loop-size : goal.decreases-loop-size
decreases-loop-size l = l.size
