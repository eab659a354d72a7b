-- A word as pairs of digits. Assumes nothing.
use Rattle.std.proofs.Common.{◌≡◌, ℕ, zero, suc, ◌+◌, ◌*◌, ◌/◌, ◌%◌, ◌<◌, List, [], ◌∷◌, ◌++◌, length, get_or, drop, Some, None, Option, sym, refl, ap, ◌∙◌, arith}
use Rattle.std.specs.Simd.{first_chunks}
use Rattle.std.proofs.lemmas.List.{at_drop_more}
use Rattle.tokens.proofs.Lists.{prepended, one_more, none_yet}
use Rattle.tokens.specs.Words.{added, hex_byte, hex_bytes}

-- the bytes that pairs of digits write
abbrev pub pair_bytes : List (List ℕ) → Option (List ℕ)
pair_bytes [] = Some []
pair_bytes (p ∷ ps) = added (hex_byte (get_or p 0 0) (get_or p 1 0)) (pair_bytes ps)

halves : (k : ℕ) (w : List ℕ) → length w ≡ 2 * k → pair_bytes (first_chunks 2 k w) ≡ hex_bytes w
halves zero [] e = refl
halves zero (a ∷ w) e = absurd (omega arith)
halves (suc k) [] e = absurd (omega arith)
halves (suc k) (a ∷ []) e = absurd (omega arith)
halves (suc k) (a ∷ b ∷ w) e = ap (added (hex_byte a b)) (halves k w (omega arith))

nothing : {X : Type 0} (o : Option X) → added o None ≡ None
nothing None = refl
nothing (Some x) = refl

one_over : (k : ℕ) (w : List ℕ) → length w ≡ 2 * k + 1 → hex_bytes w ≡ None
one_over zero [] e = absurd (omega arith)
one_over zero (a ∷ []) e = refl
one_over zero (a ∷ b ∷ w) e = absurd (omega arith)
one_over (suc k) [] e = absurd (omega arith)
one_over (suc k) (a ∷ []) e = absurd (omega arith)
one_over (suc k) (a ∷ b ∷ w) e = ap (added (hex_byte a b)) (one_over k w (omega arith)) ∙ nothing (hex_byte a b)

-- none is read of whole pairs
pub whole : (w : List ℕ) → length w % 2 ≡ 0 → prepended [] (pair_bytes (first_chunks 2 (length w / 2) w)) ≡ hex_bytes w
whole w e = none_yet (pair_bytes (first_chunks 2 (length w / 2) w)) ∙ halves (length w / 2) w (omega arith)

-- a digit that is left alone writes nothing
pub odd : (w : List ℕ) → 0 < length w % 2 → hex_bytes w ≡ None
odd w h = one_over (length w / 2) w (omega arith)

-- one more pair is read
pub pair_read : (found more : List ℕ) (ps : List (List ℕ)) (i x : ℕ) (all : Option (List ℕ)) → i < length ps → Some x ≡ hex_byte (get_or (get_or ps i []) 0 0) (get_or (get_or ps i []) 1 0) → more ≡ found ++ x ∷ [] → prepended found (pair_bytes (drop i ps)) ≡ all → prepended more (pair_bytes (drop (i + 1) ps)) ≡ all
pair_read found more ps i x all h read pushed inv =
    one_more found (pair_bytes (drop i ps)) all inv more x (pair_bytes (drop (i + 1) ps)) pushed (at_drop_more pair_bytes ps i [] h ∙ ap (λ o. added o (pair_bytes (drop (i + 1) ps))) (sym read))
