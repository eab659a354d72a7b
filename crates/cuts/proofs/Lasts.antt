-- Where the last selected row ends, run by run. Assumes nothing.
use Rattle.std.proofs.Common.{◌≡◌, ℕ, zero, suc, ◌+◌, ◌<◌, Bool, true, false, List, [], ◌∷◌, ◌++◌, length, replicate, refl, ap, ◌∙◌, arith}
use Rattle.rows.specs.Rules.{keep_front, trimmed}

-- so many rows of zs are left when it is trimmed
abbrev pub kept : List Bool → ℕ
kept zs = length (trimmed zs)

-- the end of the last selected row, where k rows that begin at row `at` are kept and it was `last` before them
abbrev pub ends : ℕ → ℕ → ℕ → ℕ
ends at last zero = last
ends at last (suc k) = at + suc k

-- n skipped rows in front of k kept ones
abbrev skips_of : ℕ → ℕ → ℕ
skips_of n zero = 0
skips_of n (suc k) = n + suc k

kept-true : (n : ℕ) (zs : List Bool) → kept (replicate n true ++ zs) ≡ n + kept zs
kept-true zero zs = omega arith
kept-true (suc n) zs = omega (arith, kept-true n zs)

one-skip : (ys : List Bool) → length (keep_front false ys) ≡ skips_of 1 (length ys)
one-skip [] = refl
one-skip (y ∷ ys) = omega arith

none-skip : (k : ℕ) → k ≡ skips_of 0 k
none-skip zero = refl
none-skip (suc k) = omega arith

more-skip : (n k : ℕ) → skips_of 1 (skips_of n k) ≡ skips_of (suc n) k
more-skip n zero = refl
more-skip n (suc k) = let e : n + suc k ≡ suc (n + k) = omega arith in ap (skips_of 1) e ∙ omega arith

kept-false : (n : ℕ) (zs : List Bool) → kept (replicate n false ++ zs) ≡ skips_of n (kept zs)
kept-false zero zs = none-skip (kept zs)
kept-false (suc n) zs = one-skip (trimmed (replicate n false ++ zs)) ∙ ap (skips_of 1) (kept-false n zs) ∙ more-skip n (kept zs)

pub ends-skip : (at last n : ℕ) (zs : List Bool) → ends at last (kept (replicate n false ++ zs)) ≡ ends (at + n) last (kept zs)
ends-skip at last n zs = ap (ends at last) (kept-false n zs) ∙ go (kept zs)
  where
    go : (k : ℕ) → ends at last (skips_of n k) ≡ ends (at + n) last k
    go zero = refl
    go (suc k) = let e : n + suc k ≡ suc (n + k) = omega arith in ap (ends at last) e ∙ omega arith

pub ends-select : (at last n : ℕ) (zs : List Bool) → 0 < n → ends at last (kept (replicate n true ++ zs)) ≡ ends (at + n) (at + n) (kept zs)
ends-select at last zero zs h = absurd (omega arith)
ends-select at last (suc n) zs h = ap (ends at last) (kept-true (suc n) zs) ∙ go (kept zs)
  where
    go : (k : ℕ) → ends at last (suc n + k) ≡ ends (at + suc n) (at + suc n) k
    go zero = let e : suc n + 0 ≡ suc n = omega arith in ap (ends at last) e
    go (suc k) = let e : suc n + suc k ≡ suc (n + suc k) = omega arith in ap (ends at last) e ∙ omega arith
