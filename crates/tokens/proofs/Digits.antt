-- Digits one after another. Assumes nothing.
use Rattle.std.proofs.Common.{◌≡◌, ℕ, ◌+◌, ◌-◌, ◌*◌, ◌^◌, ◌<◌, ◌≤◌, Bool, true, false, cond, List, [], ◌∷◌, length, Some, None, Option, sym, refl, ap, arith}
use Rattle.std.proofs.lemmas.Bool.Decides.{nat_tests}
use Rattle.std.proofs.lemmas.Option.{none-some}
use Rattle.tokens.specs.Words.{below, is_digit, digits_after, digit_after, number_of}

pub below_some : (limit n : ℕ) → n < limit → below limit (Some n) ≡ Some n
below_some limit n h = grind (arith, nat_tests)

some_below : (limit n m : ℕ) → below limit (Some n) ≡ Some m → (n ≡ m) × (m < limit)
some_below limit n m e = grind (arith, nat_tests)

not-below : (limit n : ℕ) → below limit (Some n) ≡ None → limit ≤ n
not-below limit n e = grind (arith, nat_tests)

pub none_below : (limit n : ℕ) → limit ≤ n → below limit (Some n) ≡ None
none_below limit n h = grind (arith, nat_tests)

-- more digits make no smaller number
grows : (bs : List ℕ) (n m : ℕ) → digits_after n bs ≡ Some m → n ≤ m
grows [] n m e = let same : n ≡ m = cc in omega arith
grows (b ∷ bs) n m e = step (is_digit b) e (grows bs (10 * n + (b - 48)) m)
  where
    step : (d : Bool) → cond d (digits_after (10 * n + (b - 48)) bs) None ≡ Some m → (digits_after (10 * n + (b - 48)) bs ≡ Some m → 10 * n + (b - 48) ≤ m) → n ≤ m
    step true e rest = omega (arith, rest e)
    step false e rest = absurd (none-some m e)

-- one digit read, and the others still to read
pub more : (n b m : ℕ) (bs : List ℕ) → Some m ≡ digit_after n b → (m < 2 ^ 64) × (digits_after m bs ≡ digits_after n (b ∷ bs))
more n b m bs e = step (is_digit b) (sym e)
  where
    step : (d : Bool) → below (2 ^ 64) (cond d (Some (10 * n + (b - 48))) None) ≡ Some m → (m < 2 ^ 64) × (digits_after m bs ≡ cond d (digits_after (10 * n + (b - 48)) bs) None)
    step true e = let p = some_below (2 ^ 64) (10 * n + (b - 48)) m e in (p.1, ap (λ k. digits_after k bs) (sym p.0))
    step false e = absurd (none-some m e)

past : (k : ℕ) (bs : List ℕ) (o : Option ℕ) → 2 ^ 64 ≤ k → digits_after k bs ≡ o → below (2 ^ 64) o ≡ None
past k bs None h e = refl
past k bs (Some m) h e = none_below (2 ^ 64) m (omega (arith, grows bs k m e))

-- a byte that is no digit, or a number too large, refuses the word whatever comes after
pub stop : (n b : ℕ) (bs : List ℕ) → None ≡ digit_after n b → below (2 ^ 64) (digits_after n (b ∷ bs)) ≡ None
stop n b bs e = step (is_digit b) (sym e)
  where
    step : (d : Bool) → below (2 ^ 64) (cond d (Some (10 * n + (b - 48))) None) ≡ None → below (2 ^ 64) (cond d (digits_after (10 * n + (b - 48)) bs) None) ≡ None
    step true e = past (10 * n + (b - 48)) bs _ (not-below (2 ^ 64) (10 * n + (b - 48)) e) refl
    step false e = refl

pub whole : (w : List ℕ) → 0 < length w → number_of w ≡ below (2 ^ 64) (digits_after 0 w)
whole [] h = absurd (omega arith)
whole (b ∷ bs) h = refl
