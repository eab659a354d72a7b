-- Laws of a word's bytes stored after the rows of a mask that ends at a byte. Assumes nothing.
use Rattle.std.proofs.Common.{◌≡◌, ℕ, zero, suc, ◌+◌, ◌-◌, ◌*◌, ◌/◌, ◌%◌, ◌^◌, ◌<◌, ◌≤◌, Bool, true, false, List, [], ◌∷◌, ◌++◌, length, get_or, take, drop, replicate, sym, refl, ap, ◌∙◌, subst, ap₂, arith, rules, length-drop, shr_lt}
use Rattle.std.proofs.lemmas.List.{length-take-le, get_or-take, places}
use Rattle.std.proofs.lemmas.Slice.{drop-put_mid}
use borrow.Rule.Slice.PartMut.{put_mid, same_len_mid}
use Rattle.bits.specs.Bits.{digit, bit_at, row_at, mask_rows, word_rows}
use Rattle.bits.proofs.Digits.{digit-shr, digit_low, digit_ones, digit-past, bit-same, bit-set, bit-clear}
use Rattle.bits.proofs.RowLaws.{rows_ext, rows_split, rows_alike}
use Rattle.masks.specs.Spares.{bytes_of, Spare}
use Rattle.masks.specs.Stores.{Stored}

-- byte j of a word whose bytes are listed from the lowest on
byte-of : (w j : ℕ) → j < 8 → get_or ((w % 256) ∷ (w / 256 % 256) ∷ (w / 65536 % 256) ∷ (w / 16777216 % 256) ∷ (w / 4294967296 % 256) ∷ (w / 1099511627776 % 256) ∷ (w / 281474976710656 % 256) ∷ (w / 72057594037927936 % 256) ∷ []) j 0 ≡ w / 2 ^ (8 * j) % 2 ^ 8
byte-of w zero h = omega arith
byte-of w (suc zero) h = refl
byte-of w (suc (suc zero)) h = refl
byte-of w (suc (suc (suc zero))) h = refl
byte-of w (suc (suc (suc (suc zero)))) h = refl
byte-of w (suc (suc (suc (suc (suc zero))))) h = refl
byte-of w (suc (suc (suc (suc (suc (suc zero)))))) h = refl
byte-of w (suc (suc (suc (suc (suc (suc (suc zero))))))) h = refl
byte-of w (suc (suc (suc (suc (suc (suc (suc (suc j)))))))) h = absurd (omega arith)

get_or_mid : (xs ys : List ℕ) (i k j : ℕ) → i ≤ length xs → j < length ys → get_or (put_mid i k xs ys) (i + j) 0 ≡ get_or ys j 0
get_or_mid xs ys i k j h l = search (rules, places)

-- the first n bytes of a word copied over others from byte i on
pub stored-bytes : (xs ys bs : List ℕ) (i k n w : ℕ) → i + n ≤ length xs → n ≤ 8 → k ≡ n → ys ≡ take n bs
    → bs ≡ (w % 256) ∷ (w / 256 % 256) ∷ (w / 65536 % 256) ∷ (w / 16777216 % 256) ∷ (w / 4294967296 % 256) ∷ (w / 1099511627776 % 256) ∷ (w / 281474976710656 % 256) ∷ (w / 72057594037927936 % 256) ∷ []
    → Stored xs i w n (put_mid i k xs ys)
stored-bytes xs ys bs i k n w room few e f g =
    let long : length ys ≡ n = omega (arith, ap length f, length-take-le n bs (omega (arith, ap length g))) in
    let part : length ys ≡ length (take k (drop i xs)) = omega (arith, length-take-le k (drop i xs) (omega (arith, length-drop i xs))) in
    record {
      long = same_len_mid i k xs ys part;
      old = λ j h. search (rules, places);
      new = λ j h. get_or_mid xs ys i k j (omega arith) (omega arith) ∙ ap (λ l. get_or l j 0) (f ∙ ap (take n) g) ∙ get_or-take n _ j 0 h ∙ byte-of w j (omega arith);
      rest = drop-put_mid i k xs ys (i + n) (omega arith) (omega arith) (omega arith);
    }

-- the bytes that hold m rows more, after q rows that end at a byte
module _ (xs ys : List ℕ) (q i w n m : ℕ) (at : q ≡ 8 * i) (bytes : n ≡ bytes_of m) (s : Stored xs i w n ys) where
  old_row : (k : ℕ) → k < q → row_at ys k ≡ row_at xs k
  unfolding row_at
  old_row k h = ap (λ x. bit_at x (k % 8)) (s.old (k / 8) (omega arith))

  new_row : (k : ℕ) → k < m → row_at ys (q + k) ≡ bit_at w k
  unfolding row_at
  new_row k h =
      ap₂ (λ x y. bit_at (get_or ys x 0) y) (let d : (q + k) / 8 ≡ i + k / 8 = omega arith in d) (let d : (q + k) % 8 ≡ k % 8 = omega arith in d)
      ∙ ap (λ x. bit_at x (k % 8)) (s.new (k / 8) (omega arith))
      ∙ bit-same (w / 2 ^ (8 * (k / 8)) % 2 ^ 8) w (k % 8) k
      (digit_low (w / 2 ^ (8 * (k / 8))) 8 (k % 8) (omega arith) ∙ digit-shr w (8 * (k / 8)) (k % 8) ∙ ap (digit w) (let d : 8 * (k / 8) + k % 8 ≡ k = omega arith in d))

  pub stored-rows : mask_rows ys 0 (q + m) ≡ mask_rows xs 0 q ++ word_rows w m
  stored-rows =
      rows_split (row_at ys) 0 q m
      ∙ ap₂ (λ (ks ls : List Bool). ks ++ ls) (rows_ext (row_at ys) (row_at xs) 0 0 q (λ k h. old_row (0 + k) (omega arith)))
      (rows_ext (row_at ys) (bit_at w) (0 + q) 0 m (λ k h. ap (row_at ys) (let d : 0 + q + k ≡ q + k = omega arith in d) ∙ new_row k h ∙ ap (bit_at w) (let d : k ≡ 0 + k = omega arith in d)))

  pub stored-spare : w < 2 ^ m → Spare (q + m) ys
  stored-spare small some =
      let here : (q + m) / 8 ≡ i + m / 8 = omega arith in
      let low : (q + m) % 8 ≡ m % 8 = omega arith in
      let v = w / 2 ^ (8 * (m / 8)) in
      let bound : v < 2 ^ (m % 8) = shr_lt (m % 8) (8 * (m / 8)) (subst (λ x. w < 2 ^ x) (let d : m ≡ m % 8 + 8 * (m / 8) = omega arith in d) small) in
      let byte : get_or ys (i + m / 8) 0 ≡ v % 2 ^ 8 = s.new (m / 8) (omega arith) in
      subst (λ x. get_or ys x 0 < 2 ^ ((q + m) % 8)) (sym here) (subst (λ x. get_or ys (i + m / 8) 0 < 2 ^ x) (sym low) (omega (arith, byte, bound)))

  pub stored-keeps : drop (bytes_of (q + m)) ys ≡ drop (bytes_of (q + m)) xs
  stored-keeps = subst (λ x. drop x ys ≡ drop x xs) (let d : i + n ≡ bytes_of (q + m) = omega arith in d) s.rest

-- 64 rows of one mark
pub all_set : word_rows (2 ^ 64 - 1) 64 ≡ replicate 64 true
all_set = rows_alike (bit_at (2 ^ 64 - 1)) true 0 64 (λ k l h. bit-set (2 ^ 64 - 1) k (digit_ones 64 k (omega arith)))

pub none-set : word_rows 0 64 ≡ replicate 64 false
none-set = rows_alike (bit_at 0) false 0 64 (λ k l h. bit-clear 0 k (digit-past 0 0 k (omega arith) (omega arith)))
