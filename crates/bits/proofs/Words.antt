-- Laws of bytes and words as rows. Assumes nothing.
use Rattle.std.proofs.Common.{◌≡◌, ℕ, zero, suc, ◌+◌, ◌-◌, ◌*◌, ◌/◌, ◌%◌, ◌^◌, ◌<◌, ◌≤◌, min, Bool, false, cond, eqb, ◌≢◌, ◌⊎◌, List, ◌++◌, length, get_or, drop, set, replicate, sym, refl, ap, ◌∙◌, subst, ap₂, inl, inr, lt_of_lt_of_le, mod-lt, add-one, arith, get_or-drop, get_or-set_other, get_or-set_same, pow_pos, pow_mono, shr_lt}
use lib.Count.{ones, ones_step}
use Rattle.std.proofs.lemmas.List.{get_or_past}
use Rattle.std.proofs.lemmas.Bool.{cases_lt}
use Rattle.rows.specs.Rows.{selected_count}
use Rattle.bits.specs.Bits.{digit, bit_at, row_at, rows_of, mask_rows, word_rows}
use Rattle.bits.proofs.Digits.{digit_lt, digit-shr, digit_low, digit-past, bit-same, bit-clear, le_of, bytes-all, le-digit, shifted, shifted-low, shifted-high}
use Rattle.bits.proofs.RowLaws.{rows_ext, rows_split, rows-point, rows_at, rows_alike, length-rows, selected-cons, selected-more}

-- ---- the set bits of a number of k digits

mark-digit : (x : ℕ) → x < 2 → x ≡ cond (eqb x 1) 1 0
mark-digit zero h = refl
mark-digit (suc zero) h = refl
mark-digit (suc (suc x)) h = absurd (omega arith)

ones-zero : ones 0 ≡ 0
unfolding ones
ones-zero = refl

first-digit : (n : ℕ) → n % 2 ≡ cond (bit_at n 0) 1 0
unfolding bit_at digit
first-digit n = (let e : n % 2 ≡ n / 2 ^ 0 % 2 = omega arith in e) ∙ mark-digit (n / 2 ^ 0 % 2) (digit_lt n 0)

half_lt : (n k : ℕ) → n < 2 ^ suc k → n / 2 < 2 ^ k
half_lt n k h = shr_lt k 1 (subst (λ (x : ℕ). n < 2 ^ x) (sym (add-one k)) h)

half-bit : (n j : ℕ) → bit_at (n / 2) (0 + j) ≡ bit_at n (1 + j)
half-bit n j = ap (bit_at (n / 2)) (let e : 0 + j ≡ j = omega arith in e) ∙ bit-same (n / 2) n j (1 + j) (digit-shr n 1 j)

pub ones_selected : (k n : ℕ) → n < 2 ^ k → ones n ≡ selected_count (word_rows n k)
unfolding rows_of
ones_selected zero n h = ap ones (let e : n ≡ 0 = omega arith in e) ∙ ones-zero
ones_selected (suc k) n h =
    ones_step n
    ∙ ap₂ (λ (x y : ℕ). x + y) (first-digit n)
    (ones_selected k (n / 2) (half_lt n k h) ∙ ap selected_count (rows_ext (bit_at (n / 2)) (bit_at n) 0 1 k (λ j l. half-bit n j)))
    ∙ sym (selected-cons (bit_at n 0) (rows_of (bit_at n) 1 k))

-- the bits above a number's digits are not counted
pub selected-short : (k m n : ℕ) → n < 2 ^ k → k ≤ m → selected_count (word_rows n m) ≡ selected_count (word_rows n k)
selected-short k m n h l = sym (ones_selected m n (lt_of_lt_of_le h (pow_mono l))) ∙ ones_selected k n h

-- the n low bits of w % 2 ^ n are those of w
pub low_rows : (w n : ℕ) → word_rows (w % 2 ^ n) n ≡ word_rows w n
low_rows w n = rows_ext (bit_at (w % 2 ^ n)) (bit_at w) 0 0 n (λ k l. bit-same (w % 2 ^ n) w (0 + k) (0 + k) (digit_low w n (0 + k) (omega arith)))

-- the bits of w from bit s on, as those of w >> s
pub high-rows : (w s n : ℕ) → word_rows (w / 2 ^ s) n ≡ rows_of (bit_at w) s n
high-rows w s n = rows_ext (bit_at (w / 2 ^ s)) (bit_at w) 0 s n (λ k l.
    ap (bit_at (w / 2 ^ s)) (let e : 0 + k ≡ k = omega arith in e) ∙ bit-same (w / 2 ^ s) w k (s + k) (digit-shr w s k))

-- the set bits of a byte between two places
pub ones-part : (b from to : ℕ) → from ≤ to → ones (b % 2 ^ to / 2 ^ from) ≡ selected_count (rows_of (bit_at b) from (to - from))
ones-part b from to h =
    ones_selected (to - from) (b % 2 ^ to / 2 ^ from)
    (shr_lt (to - from) from (subst (λ (x : ℕ). b % 2 ^ to < 2 ^ x) (let e : to ≡ to - from + from = omega arith in e) (mod-lt b (pow_pos to))))
    ∙ ap selected_count (high-rows (b % 2 ^ to) from (to - from)
    ∙ rows_ext (bit_at (b % 2 ^ to)) (bit_at b) from from (to - from) (λ k l. bit-same (b % 2 ^ to) b (from + k) (from + k) (digit_low b to (from + k) (omega arith))))

-- ---- bytes

-- the bytes from b on
row_drop : (bytes : List ℕ) (b p : ℕ) → row_at (drop b bytes) p ≡ row_at bytes (8 * b + p)
unfolding row_at
row_drop bytes b p =
    ap (λ (x : ℕ). bit_at x (p % 8)) (get_or-drop b bytes (p / 8) 0)
    ∙ ap₂ (λ (x y : ℕ). bit_at (get_or bytes x 0) y) (let e : b + p / 8 ≡ (8 * b + p) / 8 = omega arith in e) (let e : p % 8 ≡ (8 * b + p) % 8 = omega arith in e)

pub bytes_drop : (bytes : List ℕ) (b o q n : ℕ) → 8 * b + o ≡ q → mask_rows (drop b bytes) o n ≡ mask_rows bytes q n
bytes_drop bytes b o q n h =
    rows_ext (row_at (drop b bytes)) (row_at bytes) o q n (λ k l.
    row_drop bytes b (o + k) ∙ ap (row_at bytes) (let e : 8 * b + (o + k) ≡ q + k = omega arith in e))

-- a byte's bits are the rows at its place
pub row-byte : (bytes : List ℕ) (i k : ℕ) → k < 8 → row_at bytes (8 * i + k) ≡ bit_at (get_or bytes i 0) k
unfolding row_at
row-byte bytes i k h =
    ap₂ (λ (x y : ℕ). bit_at (get_or bytes x 0) y) (let e : (8 * i + k) / 8 ≡ i = omega arith in e) (let e : (8 * i + k) % 8 ≡ k = omega arith in e)

-- n rows from p on within the byte at i, whose bit s is row p
pub byte-part : (bytes : List ℕ) (i p s n : ℕ) → 8 * i + s ≡ p → s + n ≤ 8 → mask_rows bytes p n ≡ rows_of (bit_at (get_or bytes i 0)) s n
byte-part bytes i p s n e h =
    rows_ext (row_at bytes) (bit_at (get_or bytes i 0)) p s n (λ k l.
    ap (row_at bytes) (let d : p + k ≡ 8 * i + (s + k) = omega arith in d) ∙ row-byte bytes i (s + k) (omega arith))

-- ---- words

-- the word of eight bytes, which are those from byte i on
pub word-rows : (bytes eight : List ℕ) (i w : ℕ) → ((j : ℕ) → get_or bytes j 0 < 256) → ((j : ℕ) → j < 8 → get_or eight j 0 ≡ get_or bytes (i + j) 0)
    → w ≡ get_or eight 0 0 + get_or eight 1 0 * 256 + get_or eight 2 0 * 65536 + get_or eight 3 0 * 16777216 + get_or eight 4 0 * 4294967296 + get_or eight 5 0 * 1099511627776 + get_or eight 6 0 * 281474976710656 + get_or eight 7 0 * 72057594037927936
    → word_rows w 64 ≡ mask_rows bytes (8 * i) 64
unfolding row_at
word-rows bytes eight i w h same e =
    let s : w ≡ le_of (λ j. get_or bytes (i + j) 0) 8 =
    omega (arith, e, same 0 (omega arith), same 1 (omega arith), same 2 (omega arith), same 3 (omega arith), same 4 (omega arith), same 5 (omega arith), same 6 (omega arith), same 7 (omega arith)) in
    rows_ext (bit_at w) (row_at bytes) 0 (8 * i) 64 (λ k l.
    bit-same w (get_or bytes (i + k / 8) 0) (0 + k) (k % 8)
    (ap₂ digit s (let d : 0 + k ≡ k = omega arith in d)
    ∙ le-digit 8 (λ j. get_or bytes (i + j) 0) (bytes-all 8 (λ j. get_or bytes (i + j) 0) (λ j. h (i + j))) k l)
    ∙ ap₂ (λ (x y : ℕ). bit_at (get_or bytes x 0) y) (let d : i + k / 8 ≡ (8 * i + k) / 8 = omega arith in d) (let d : k % 8 ≡ (8 * i + k) % 8 = omega arith in d))

-- 64 rows from bit sh of byte i on, out of a word and the byte hi above it
pub shifted-rows : (bytes : List ℕ) (i sh p lo hi : ℕ) → hi ≡ get_or bytes (i + 8) 0 → lo < 2 ^ 64 → hi < 256 → sh < 8 → 8 * i + sh ≡ p → word_rows lo 64 ≡ mask_rows bytes (8 * i) 64
    → word_rows (shifted lo hi sh) 64 ≡ mask_rows bytes p 64
shifted-rows bytes i sh p lo hi eh hl hh hs ep e =
    rows_ext (bit_at (shifted lo hi sh)) (row_at bytes) 0 p 64 (λ k l.
    ap (bit_at (shifted lo hi sh)) (let d : 0 + k ≡ k = omega arith in d) ∙ go k l (cases_lt (sh + k) 64))
  where
    go : (k : ℕ) → k < 64 → (sh + k < 64) ⊎ (64 ≤ sh + k) → bit_at (shifted lo hi sh) k ≡ row_at bytes (p + k)
    go k l (inl h) =
        bit-same (shifted lo hi sh) lo k (sh + k) (shifted-low lo hi sh hl hh hs k h)
        ∙ ap (bit_at lo) (let d : sh + k ≡ 0 + (sh + k) = omega arith in d)
        ∙ rows-point (bit_at lo) (row_at bytes) 0 (8 * i) 64 e (sh + k) h
        ∙ ap (row_at bytes) (let d : 8 * i + (sh + k) ≡ p + k = omega arith in d)
    go k l (inr h) =
        bit-same (shifted lo hi sh) hi k (sh + k - 64) (shifted-high lo hi sh hl hh hs k l h)
        ∙ ap (λ (x : ℕ). bit_at x (sh + k - 64)) eh
        ∙ sym (row-byte bytes (i + 8) (sh + k - 64) (omega arith))
        ∙ ap (row_at bytes) (let d : 8 * (i + 8) + (sh + k - 64) ≡ p + k = omega arith in d)

-- the row at q + k, as a bit of the word of the rows from q on
pub row_word : (bytes : List ℕ) (q w n k : ℕ) → word_rows w n ≡ mask_rows bytes q n → k < n → row_at bytes (q + k) ≡ bit_at w k
row_word bytes q w n k e h =
    sym (rows-point (bit_at w) (row_at bytes) 0 q n e k h) ∙ ap (bit_at w) (let d : 0 + k ≡ k = omega arith in d)

-- the set bits of a number whose n digits are the low bits of w
pub low_count : (w low n : ℕ) → n ≤ 64 → low < 2 ^ n → word_rows low n ≡ word_rows w n → selected_count (word_rows low 64) ≡ selected_count (word_rows w n)
low_count w low n l h e = selected-short n 64 low h l ∙ ap selected_count e

-- ---- a byte written at i

row_new : (xs : List ℕ) (i v k : ℕ) → i < length xs → k / 8 ≡ i → row_at (set xs i v) k ≡ bit_at v (k % 8)
unfolding row_at
row_new xs i v k h e = ap (λ (x : ℕ). bit_at (get_or (set xs i v) x 0) (k % 8)) e ∙ ap (λ (x : ℕ). bit_at x (k % 8)) (get_or-set_same xs i v 0 h)

row_old : (xs : List ℕ) (i v k : ℕ) → k / 8 ≢ i → row_at (set xs i v) k ≡ row_at xs k
unfolding row_at
row_old xs i v k h = ap (λ (x : ℕ). bit_at x (k % 8)) (get_or-set_other xs i (k / 8) v 0 h)

-- m rows of mark b are appended to q rows by a byte v at q / 8, which keeps the bits below q % 8
pub rows_append : (xs : List ℕ) (q m v : ℕ) (b : Bool) → q / 8 < length xs → q % 8 + m ≤ 8
    → ((k : ℕ) → k < q % 8 → bit_at v k ≡ bit_at (get_or xs (q / 8) 0) k)
    → ((k : ℕ) → q % 8 ≤ k → k < q % 8 + m → bit_at v k ≡ b)
    → mask_rows (set xs (q / 8) v) 0 (q + m) ≡ mask_rows xs 0 q ++ replicate m b
rows_append xs q m v b l h kept added =
    rows_split (row_at new) 0 q m
    ∙ ap₂ (λ (ys zs : List Bool). ys ++ zs) (rows_ext (row_at new) (row_at xs) 0 0 q (λ k t. before (0 + k) (omega arith) (cases_lt ((0 + k) / 8) (q / 8))))
    (rows_alike (row_at new) b (0 + q) m (λ k i j. row_new xs (q / 8) v k l (omega arith) ∙ added (k % 8) (omega arith) (omega arith)))
  where
    new : List ℕ
    new = set xs (q / 8) v

    same : (k : ℕ) → k < q → q / 8 ≤ k / 8 → row_at xs k ≡ bit_at (get_or xs (q / 8) 0) (k % 8)
    same k t g = ap (row_at xs) (let e : k ≡ 8 * (q / 8) + k % 8 = omega arith in e) ∙ row-byte xs (q / 8) (k % 8) (omega arith)

    before : (k : ℕ) → k < q → (k / 8 < q / 8) ⊎ (q / 8 ≤ k / 8) → row_at new k ≡ row_at xs k
    before k t (inl g) = row_old xs (q / 8) v k (omega arith)
    before k t (inr g) = row_new xs (q / 8) v k l (omega arith) ∙ kept (k % 8) (omega arith) ∙ sym (same k t g)

-- ---- counting byte by byte: the rows below the byte at i, and those of it from bit `from` on below bit `to`
pub count-byte : (bytes : List ℕ) (a e i from to : ℕ) → 8 * i < e → a < 8 * i + 8 → a ≤ e → from ≡ a - 8 * i → to ≡ min 8 (e - 8 * i)
    → selected_count (mask_rows bytes a (min (8 * (i + 1)) e - a)) ≡ selected_count (mask_rows bytes a (min (8 * i) e - a)) + selected_count (rows_of (bit_at (get_or bytes i 0)) from (to - from))
count-byte bytes a e i from to h k l f t =
    selected-more (row_at bytes) a (min (8 * i) e - a) (to - from) (8 * i + from) (min (8 * (i + 1)) e - a) (omega arith) (omega arith)
    ∙ ap (λ (xs : List Bool). selected_count (mask_rows bytes a (min (8 * i) e - a)) + selected_count xs) (byte-part bytes i (8 * i + from) from (to - from) refl (omega arith))

-- ---- the rows from row `at` on as a word, of n rows from place a on

-- a row past the rows is not selected
pub past-rows : (f : ℕ → Bool) (a n i : ℕ) → n ≤ i → get_or (rows_of f a n) i false ≡ false
past-rows f a n i h = get_or_past (rows_of f a n) i false (omega (arith, length-rows f a n))

-- a word of m digits, which are the rows that are left, as far as a word goes
pub word-selects : (f : ℕ → Bool) (a n at m w : ℕ) → m ≡ min (n - at) 64 → w < 2 ^ m → word_rows w m ≡ rows_of f (a + at) m
    → (k : ℕ) → k < 64 → bit_at w k ≡ get_or (rows_of f a n) (at + k) false
word-selects f a n at m w e small same k h = go (cases_lt k m)
  where
    go : (k < m) ⊎ (m ≤ k) → bit_at w k ≡ get_or (rows_of f a n) (at + k) false
    go (inl l) =
        ap (bit_at w) (let d : k ≡ 0 + k = omega arith in d) ∙ rows-point (bit_at w) f 0 (a + at) m same k l
        ∙ ap f (let d : a + at + k ≡ a + (at + k) = omega arith in d) ∙ sym (rows_at f a n (at + k) false (omega arith))
    go (inr l) = bit-clear w k (digit-past w m k small l) ∙ sym (past-rows f a n (at + k) (omega arith))

-- no row is left
pub word_none : (f : ℕ → Bool) (a n at k : ℕ) → n ≤ at → bit_at 0 k ≡ get_or (rows_of f a n) (at + k) false
word_none f a n at k h = bit-clear 0 k (digit-past 0 0 k (omega arith) (omega arith)) ∙ sym (past-rows f a n (at + k) (omega arith))
