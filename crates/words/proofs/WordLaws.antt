-- Rows by the words that are read of them. Assumes nothing.
use Rattle.std.proofs.Common.{◌≡◌, ℕ, zero, suc, ◌+◌, ◌-◌, ◌/◌, ◌%◌, ◌^◌, ◌<◌, ◌≤◌, Bool, true, false, not, eqb, ◌⊎◌, List, [], ◌∷◌, ◌++◌, length, take, drop, replicate, sym, refl, ap, ◌∙◌, subst, ap₂, inl, inr, arith, length-drop, take-add}
use Rattle.std.proofs.lemmas.List.{ext_get_or, length-take-le, get_or-take, get_or-drop, get_or_past, drop-drop}
use Rattle.std.proofs.lemmas.Bool.{cases_lt, both_ways, true≢false}
use Rattle.rows.specs.Said.{Selects}
use Rattle.bits.specs.Bits.{digit, bit_at, word_rows}
use Rattle.bits.proofs.Digits.{top_digit, digit-past, bit-set, bit-clear}
use Rattle.bits.proofs.RowLaws.{rows_at, length-rows}

-- the bits of w are the rows of xs from row `at` on
abbrev pub Reads : List Bool → ℕ → ℕ → Type 0
Reads xs at w = (k : ℕ) → k < 64 → bit_at w k ≡ Selects xs (at + k)

-- the first m rows of such a word
pub word-front : (xs : List Bool) (at w m : ℕ) → Reads xs at w → m ≤ 64 → at + m ≤ length xs → word_rows w m ≡ take m (drop at xs)
word-front xs at w m reads few inside =
    let long : length (take m (drop at xs)) ≡ m = length-take-le m (drop at xs) (omega (arith, length-drop at xs)) in
    ext_get_or false (word_rows w m) (take m (drop at xs)) (length-rows (bit_at w) 0 m ∙ sym long) (λ k h.
    let l : k < m = omega (arith, length-rows (bit_at w) 0 m) in
    rows_at (bit_at w) 0 m k false l ∙ ap (bit_at w) (let e : 0 + k ≡ k = omega arith in e) ∙ reads k (omega arith) ∙ sym (get_or-take m (drop at xs) k false l ∙ get_or-drop at xs k false))

-- m rows more
pub words_more : (xs zs : List Bool) (at w m : ℕ) → Reads xs at w → m ≤ 64 → at + m ≤ length xs → zs ≡ take at xs → zs ++ word_rows w m ≡ take (at + m) xs
words_more xs zs at w m reads few inside e =
    ap (λ l. l ++ word_rows w m) e ∙ ap (λ l. take at xs ++ l) (word-front xs at w m reads few inside) ∙ sym (take-add at m xs)

-- a word whose bits from m on are not set has at most m digits
fewer : (w m d : ℕ) → w < 2 ^ (m + d) → ((k : ℕ) → m ≤ k → k < m + d → bit_at w k ≡ false) → w < 2 ^ m
fewer w m zero h clear = subst (λ x. w < 2 ^ x) (let e : m + 0 ≡ m = omega arith in e) h
fewer w m (suc d) h clear = go (λ l. fewer w m d l (λ k i j. clear k i (omega arith))) (cases_lt w (2 ^ (m + d)))
  where
    go : (w < 2 ^ (m + d) → w < 2 ^ m) → (w < 2 ^ (m + d)) ⊎ (2 ^ (m + d) ≤ w) → w < 2 ^ m
    go ih (inl l) = ih l
    go ih (inr l) =
        let more : w < 2 ^ suc (m + d) = subst (λ x. w < 2 ^ x) (let e : m + suc d ≡ suc (m + d) = omega arith in e) h in
        absurd (both_ways (bit_at w (m + d)) (clear (m + d) (omega arith) (omega arith)) (bit-set w (m + d) (top_digit w (m + d) l more)))

-- past the last row the bits of a word are not set
pub word_small : (xs : List Bool) (at w m : ℕ) → Reads xs at w → w < 2 ^ 64 → m ≤ 64 → length xs ≤ at + m → w < 2 ^ m
word_small xs at w m reads fits few past =
    fewer w m (64 - m) (subst (λ x. w < 2 ^ x) (let e : 64 ≡ m + (64 - m) = omega arith in e) fits)
    (λ k h l. reads k (omega arith) ∙ get_or_past xs (at + k) false (omega arith))

pub clear-word : (k : ℕ) → bit_at 0 k ≡ false
clear-word k = bit-clear 0 k (digit-past 0 0 k (omega arith) (omega arith))

-- ---- the rows that a word begins with

leads : (xs : List Bool) (b : Bool) (n : ℕ) → n ≤ length xs → ((k : ℕ) → k < n → Selects xs k ≡ b) → xs ≡ replicate n b ++ drop n xs
leads xs b zero h alike = refl
leads [] b (suc n) h alike = absurd (omega arith)
leads (x ∷ xs) b (suc n) h alike = ap₂ (λ y l. y ∷ l) (alike 0 (omega arith)) (leads xs b n (omega arith) (λ k l. alike (suc k) (omega arith)))

-- n rows of one mark from row `at` on
pub word-leads : (xs : List Bool) (at w n : ℕ) (b : Bool) → Reads xs at w → n ≤ 64 → at + n ≤ length xs → ((k : ℕ) → k < n → bit_at w k ≡ b) → drop at xs ≡ replicate n b ++ drop (at + n) xs
word-leads xs at w n b reads few inside alike =
    leads (drop at xs) b n (omega (arith, length-drop at xs)) (λ k h. get_or-drop at xs k false ∙ sym (reads k (omega arith)) ∙ alike k h)
    ∙ ap (λ l. replicate n b ++ l) (drop-drop n at xs)

-- the mark of its first row begins it
first_bit : (w : ℕ) → eqb (w % 2) 1 ≡ bit_at w 0
unfolding bit_at digit
first_bit w = ap (λ (x : ℕ). eqb x 1) (let e : w % 2 ≡ w / 2 ^ 0 % 2 = omega arith in e)

pub some-lead : (w r : ℕ) (b : Bool) → b ≡ eqb (w % 2) 1 → (r < 64 → bit_at w r ≡ not b) → 0 < r
some-lead w zero b e stops = absurd (differs b (e ∙ first_bit w ∙ stops (omega arith)))
  where
    differs : (b : Bool) → b ≡ not b → ⊥
    differs true d = true≢false d
    differs false d = true≢false (sym d)
some-lead w (suc r) b e stops = omega arith
