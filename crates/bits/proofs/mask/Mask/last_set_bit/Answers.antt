use Rattle.std.proofs.Common.{◌≡◌, ℕ, suc, ◌+◌, ◌-◌, ◌*◌, ◌<◌, ◌≤◌, ◌^◌, Bool, false, ◌⊎◌, sym, ap, ◌∙◌, inl, inr, pow-suc, arith}
use Rattle.std.proofs.lemmas.Bool.{cases_lt}
use Rattle.rows.specs.Said.{Selects}
use Rattle.bits.specs.Bits.{row_at, bit_at}
use Rattle.bits.specs.Masks.{rows}
use Rattle.bits.proofs.Digits.{top_digit, digit-past, bit-set, bit-clear}
use Rattle.bits.proofs.Words.{past-rows}
use Rattle.bits.proofs.Searches.{last-none, last-is}
use Rattle.bits.proofs.mask.Mask.last_set_bit.Goals as goal

pub loop-i-init : goal.loop-i-init
loop-i-init c k h = let m = c.args.self.now in past-rows (row_at m.bytes.now) m.offset m.len k (omega arith)

-- the rows from row p on that the word w has, and those past it
beyond : (g : ℕ → Bool) (w p b : ℕ) → ((k : ℕ) → k < 64 → bit_at w k ≡ g (p + k)) → w < 2 ^ b → ((k : ℕ) → p + 64 ≤ k → g k ≡ false)
    → (k : ℕ) → p + b ≤ k → g k ≡ false
beyond g w p b at small past k h = go (cases_lt k (p + 64))
  where
    go : (k < p + 64) ⊎ (p + 64 ≤ k) → g k ≡ false
    go (inl t) = ap g (let e : k ≡ p + (k - p) = omega arith in e) ∙ sym (at (k - p) (omega arith)) ∙ bit-clear w (k - p) (digit-past w b (k - p) small (omega arith))
    go (inr t) = past k t

pub returns-in-Some : goal.returns-in-Some
returns-in-Some c =
    let p = 64 * (c.loop-i.i - 1) in
    let w = c.word.result in
    let b = c.in-Some.bit in
    let small : w < 2 ^ suc b = omega (arith, pow-suc 2 b, c.in-Some.ensures.next_power_gt) in
    sym (last-is (rows c.args.self.now) (p + b)
    (sym (c.word.ensures b c.in-Some.ensures.bound) ∙ bit-set w b (top_digit w b c.in-Some.ensures.power_le small))
    (λ k h. beyond (Selects (rows c.args.self.now)) w p (suc b) c.word.ensures small (λ j l. c.loop-i.invariant j (omega arith)) k (omega arith)))

pub loop-i-preserved : goal.loop-i-preserved
loop-i-preserved c k h =
    beyond (Selects (rows c.args.self.now)) c.word.result (64 * (c.loop-i.i - 1)) 0 c.word.ensures (omega (arith, c.in_default.ensures.none)) (λ j l. c.loop-i.invariant j (omega arith)) k (omega arith)

pub returns : goal.returns
returns c = sym (last-none (rows c.args.self.now) (λ k. c.loop-i.invariant k (omega arith)))
