-- Laws of a mask that grows at its end. Assumes nothing.
use Rattle.std.proofs.Common.{◌≡◌, ℕ, ◌+◌, ◌-◌, ◌/◌, ◌<◌, ◌≤◌, Bool, List, ◌++◌, length, drop, set, replicate, sym, ap, ◌∙◌, append_assoc, append-nil, arith, length-append}
use lib.ListN.{length-replicate}
use Rattle.rows.specs.Rows.{row_limit}
use Rattle.runs.specs.Sinks.{Room}
use Rattle.bits.specs.Bits.{row_at, mask_rows}
use Rattle.bits.proofs.RowLaws.{length-rows}
use Rattle.std.proofs.lemmas.List.{drop-set-lt, replicate-append-replicate}
use Rattle.masks.specs.Spares.{bytes_of}

pub keeps-more : (xs : List ℕ) (q m v : ℕ) → 0 < m → drop (bytes_of (q + m)) (set xs (q / 8) v) ≡ drop (bytes_of (q + m)) xs
keeps-more xs q m v some = drop-set-lt (bytes_of (q + m)) xs (q / 8) v (omega arith)

length-grown : (xs : List ℕ) (n m : ℕ) (b : Bool) → length (mask_rows xs 0 n ++ replicate m b) ≡ n + m
length-grown xs n m b = omega (arith, length-append (mask_rows xs 0 n) (replicate m b), length-rows (row_at xs) 0 n, length-replicate m b)

abbrev price : ℕ → ℕ → ℕ
price m _ = bytes_of m

pub mask-room : (xs : List ℕ) (cap n m : ℕ) (b : Bool) → n + m ≤ row_limit → bytes_of (n + m) ≤ cap → Room price cap (mask_rows xs 0 n ++ replicate m b)
mask-room xs cap n m b few h = let e = length-grown xs n m b in (omega arith, omega arith)

pub past-limit : (xs : List ℕ) (cap n m : ℕ) (b : Bool) → row_limit < n + m → Room price cap (mask_rows xs 0 n ++ replicate m b) → ⊥
past-limit xs cap n m b more room = omega (arith, length-grown xs n m b, room.0)

pub past_bytes : (xs : List ℕ) (cap n m : ℕ) (b : Bool) → cap < bytes_of (n + m) → Room price cap (mask_rows xs 0 n ++ replicate m b) → ⊥
past_bytes xs cap n m b more room = let e = length-grown xs n m b in omega (arith, room.1)

-- one turn of put
pub longer : (xs ys zs : List Bool) (b : Bool) (a q m t : ℕ) → a ≤ q → t ≡ q + m → ys ≡ xs ++ replicate (q - a) b → zs ≡ ys ++ replicate m b → zs ≡ xs ++ replicate (t - a) b
longer xs ys zs b a q m t l e inv put =
    let k : q - a + m ≡ t - a = omega arith in
    put ∙ ap (λ l. l ++ replicate m b) inv ∙ append_assoc xs (replicate (q - a) b) (replicate m b) ∙ ap (λ l. xs ++ l) (replicate-append-replicate (q - a) m b ∙ ap (λ x. replicate x b) k)

pub all_of : (xs ys : List Bool) (b : Bool) (a n t : ℕ) → t ≡ a + n → ys ≡ xs ++ replicate (t - a) b → ys ≡ xs ++ replicate n b
all_of xs ys b a n t e inv = let k : t - a ≡ n = omega arith in inv ∙ ap (λ x. xs ++ replicate x b) k

pub none_more : (xs : List Bool) (n : ℕ) (b : Bool) → n ≡ 0 → xs ≡ xs ++ replicate n b
none_more xs n b e = sym (ap (λ k. xs ++ replicate k b) e ∙ append-nil xs)
