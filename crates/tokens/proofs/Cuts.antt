-- The first word of a text, and the words after it. Assumes nothing.
use Rattle.std.proofs.Common.{◌≡◌, ℕ, suc, ◌+◌, Bool, true, false, not, nat_lt, cond, List, [], ◌∷◌, length, take, drop, Some, None, Option, Bor, position, unwrap_or, ◌==◌, sym, refl, ap, ◌∙◌, add-one, arith}
use Rattle.std.specs.List.{position_or_len}
use Rattle.std.specs.Slice.{IsGetRangeResult}
use Rattle.std.specs.Option.{option_map_or}
use Rattle.std.proofs.lemmas.Bool.Decides.{nat_tests}
use Rattle.std.proofs.lemmas.List.{take_rest}
use Rattle.std.proofs.lemmas.List.Sums.{prefix_len-le-length}
use Rattle.tokens.specs.Words.{words_of, longer}

abbrev is_space : ℕ → Bool
is_space b = b == 32

-- the words behind the first n bytes of a text and the space there
abbrev behind : ℕ → List ℕ → List (List ℕ)
behind n t = cond (nat_lt n (length t)) (words_of (drop (suc n) t)) []

-- a text is its first word, up to a space or the end, and the words behind
cut : (t : List ℕ) (n : ℕ) → n ≡ position_or_len is_space t → words_of t ≡ take n t ∷ behind n t
cut [] n e = rw e refl
cut (b ∷ bs) n e = step (b == 32) (cut bs (position_or_len is_space bs) refl) e
  where
    step : (s : Bool) → words_of bs ≡ take (position_or_len is_space bs) bs ∷ behind (position_or_len is_space bs) bs → n ≡ cond (not s) (1 + position_or_len is_space bs) 0 → cond s ([] ∷ words_of bs) (longer b (words_of bs)) ≡ take n (b ∷ bs) ∷ behind n (b ∷ bs)
    step true ih e =
        let some : nat_lt 0 (length (b ∷ bs)) ≡ true = grind (arith, nat_tests) in
        rw e (ap (λ s. [] ∷ cond s (words_of bs) []) (sym some))
    step false ih e =
        let k = position_or_len is_space bs in
        let one : n ≡ suc k = omega (arith, e) in
        let same : nat_lt (suc k) (length (b ∷ bs)) ≡ nat_lt k (length bs) = grind (arith, nat_tests) in
        rw one (ap (longer b) ih ∙ ap (λ s. (b ∷ take k bs) ∷ cond s (words_of (drop (suc k) bs)) []) (sym same))

place : (t : List ℕ) → unwrap_or (position is_space t) (length t) ≡ position_or_len is_space t
place t = grind (arith, nat_tests, prefix_len-le-length)

pub next_word : (t : List ℕ) (n : ℕ) (r : Option (Bor (List ℕ))) → n ≡ unwrap_or (position is_space t) (length t) → IsGetRangeResult t (n + 1) (length t) r → words_of t ≡ take n t ∷ option_map_or (λ rest. words_of rest.now) r []
next_word t n None e h =
    let past : nat_lt n (length t) ≡ false = grind (arith, nat_tests, h.0) in
    cut t n (e ∙ place t) ∙ ap (λ s. take n t ∷ cond s (words_of (drop (suc n) t)) []) past
next_word t n (Some x) e h =
    let within : nat_lt n (length t) ≡ true = grind (arith, nat_tests, h.0.0) in
    cut t n (e ∙ place t)
    ∙ ap (λ s. take n t ∷ cond s (words_of (drop (suc n) t)) []) within
    ∙ ap (λ l. take n t ∷ words_of l) (sym (h.0.2 ∙ take_rest t (n + 1) ∙ ap (λ k. drop k t) (add-one n)))
