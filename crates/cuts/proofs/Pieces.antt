-- One piece of a selection cut short: h₀, h₁ and h₂ are what is held before, after the fill and after the take. Assumes nothing.
use Rattle.std.proofs.Common.{◌≡◌, ℕ, zero, suc, ◌-◌, ◌<◌, ◌≤◌, min, Bool, true, false, not, ◌⊎◌, List, [], ◌∷◌, ◌++◌, take, replicate, sym, ap, ◌∙◌, inl, inr, arith}
use Rattle.std.proofs.lemmas.Bool.{cases_lt}
use Rattle.rows.specs.Rows.{NotFirst}
use Rattle.rows.specs.Rules.{limit, skip_selected}
use Rattle.rows.proofs.Stretches.{split-stretch, limit-skip, limit-take, skip-skip, skip-take, take-stretch}

module _ (h₀ h₁ h₂ : List Bool) (m n : ℕ) (s : Bool) (filled : h₁ ≡ h₀) (taken : replicate n (not s) ++ h₂ ≡ h₁) where
  pub limit-past : (m ≡ 0 → ⊥) → s ≡ true → limit m h₀ ≡ replicate n (not s) ++ limit m h₂
  limit-past h e = rw (← filled, ← taken, e) (limit-skip m n h₂ (omega arith))

  pub limit-on : n ≤ m → s ≡ false → limit m h₀ ≡ replicate n true ++ limit (m - n) h₂
  limit-on h e = rw (← filled, ← taken, e) (limit-take m n h₂ h)

  pub skip-past : s ≡ true → skip_selected m h₀ ≡ replicate n (not s) ++ skip_selected m h₂
  skip-past e = rw (← filled, ← taken, e) (skip-skip m n h₂)

  pub skip-none : m ≡ 0 → skip_selected m h₀ ≡ replicate n (not s) ++ skip_selected m h₂
  skip-none e = rw (← filled, ← taken, e)

  pub skip-on : n ≤ m → s ≡ false → skip_selected m h₀ ≡ replicate n false ++ skip_selected (m - n) h₂
  skip-on h e = rw (← filled, ← taken, e) (skip-take m n h₂ h)

-- a run of the first rows of a source: whole, or cut where no more rows are taken
pub part-run : (left m : ℕ) (b : Bool) (xs : List Bool) → take left (replicate m b ++ xs) ≡ replicate (min m left) b ++ take (left - min m left) xs
part-run left m b xs = go (cases_lt left m)
  where
    go : (left < m) ⊎ (m ≤ left) → take left (replicate m b ++ xs) ≡ replicate (min m left) b ++ take (left - min m left) xs
    go (inl h) =
        let e : min m left ≡ left = omega arith in
        rw e (ap (take left) (sym (split-stretch left m b xs (omega arith))) ∙ take-stretch left left b (replicate (m - left) b ++ xs) (omega arith) ∙ ap (λ l. replicate left b ++ l) (none (replicate (m - left) b ++ xs) xs))
      where
        none : (ys zs : List Bool) → take (left - left) ys ≡ take (left - left) zs
        none ys zs = let z : left - left ≡ 0 = omega arith in ap (λ k. take k ys) z ∙ sym (ap (λ k. take k zs) z)
    go (inr h) = let e : min m left ≡ m = omega arith in rw e (take-stretch left m b xs h)

pub not-first-part : (n : ℕ) (b : Bool) (xs : List Bool) → NotFirst b xs → NotFirst b (take n xs)
not-first-part zero b xs h = tt
not-first-part (suc n) b [] h = tt
not-first-part (suc n) b (x ∷ xs) h = h
