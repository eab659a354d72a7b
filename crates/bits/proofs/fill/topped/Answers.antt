use Rattle.std.proofs.Common.{◌≡◌, ℕ, ◌+◌, ◌-◌, ◌*◌, ◌%◌, ◌^◌, ◌<◌, ◌≤◌, sym, ap, ◌∙◌, subst, lt_of_lt_of_le, mod-lt, add_comm, arith, pow_pos, pow_mono}
use Rattle.std.proofs.lemmas.Nat.{one_shl}
use Rattle.bits.specs.Bits.{bit_at}
use Rattle.bits.proofs.Digits.{filled, filled_is, filled-lt, filled-under, filled-over, digit_low, digit-past, bit-same, bit-set, bit-clear}
use Rattle.bits.proofs.fill.topped.Goals as goal

-- the s low bits of b, and m bits above them
module _ (b s m : ℕ) (h : s + m ≤ 8) where
  abbrev kept : ℕ
  kept = b % (1 * 2 ^ s % 2 ^ 64)

  kept-is : kept ≡ b % 2 ^ s
  kept-is = ap (λ x. b % x) (one_shl s 64 (omega arith))

  kept-small : kept < 2 ^ s
  kept-small = subst (λ x. x < 2 ^ s) (sym kept-is) (mod-lt b (pow_pos s))

  kept-bit : (k : ℕ) → k < s → bit_at kept k ≡ bit_at b k
  kept-bit k l = ap (λ x. bit_at x k) kept-is ∙ bit-same (b % 2 ^ s) b k k (digit_low b s k l)

  whole : filled kept s m ≡ (2 ^ m - 1) * 2 ^ s + kept
  whole = filled_is kept s m h

  below : filled kept s m < 2 ^ (s + m)
  below = subst (λ x. x < 2 ^ (s + m)) (sym whole) (subst (λ x. (2 ^ m - 1) * 2 ^ s + kept < 2 ^ x) (add_comm m s) (filled-lt kept s m kept-small))

  under : (k : ℕ) → k < s → bit_at (filled kept s m) k ≡ bit_at b k
  under k l =
      ap (λ x. bit_at x k) whole ∙ bit-same ((2 ^ m - 1) * 2 ^ s + kept) kept k k (filled-under kept s m k kept-small l) ∙ kept-bit k l

  byte : 2 ^ (s + m) ≤ 2 ^ 8
  byte = pow_mono h

pub overflow_cast-result : goal.overflow_cast-result
overflow_cast-result c =
    omega (arith, below c.args.old c.args.s c.args.m c.requires, byte c.args.old c.args.s c.args.m c.requires)

pub returns-then-set : goal.returns-then-set
returns-then-set c =
    let b = c.args.old in
    let s = c.args.s in
    let m = c.args.m in
    let h = c.requires in
    record {
      small = below b s m h;
      kept = under b s m h;
      added = λ k l t. ap (λ x. bit_at x k) (whole b s m h) ∙ bit-set ((2 ^ m - 1) * 2 ^ s + kept b s m h) k (filled-over (kept b s m h) s m k (kept-small b s m h) l t) ∙ sym c.if-set.true;
    }

pub returns-else-set : goal.returns-else-set
returns-else-set c =
    let b = c.args.old in
    let s = c.args.s in
    let m = c.args.m in
    let h = c.requires in
    let l : s ≤ s + m = omega arith in
    record {
      small = lt_of_lt_of_le (kept-small b s m h) (pow_mono l);
      kept = kept-bit b s m h;
      added = λ k l t. bit-clear (kept b s m h) k (digit-past (kept b s m h) s k (kept-small b s m h) l) ∙ sym c.if-set.false;
    }
