-- One piece of a narrowing or a combining: h₀, h₁ and h₂ are what the first holds before, after the fill and after the take; k₀, k₁ and k₂ the second. Assumes nothing.
use Rattle.std.proofs.Common.{◌≡◌, ℕ, Bool, true, false, not, List, [], ◌++◌, replicate, sym, ap, ◌∙◌}
use Rattle.rows.specs.Rules.{and_then, combine}
use Rattle.rows.proofs.Stretches.{not-not, and_then-skip, and_then-take, and_then-out, combine-both, combine-nil}

module _ (h₀ h₁ h₂ : List Bool) (n : ℕ) (s : Bool) (filled : h₁ ≡ h₀) (taken : replicate n (not s) ++ h₂ ≡ h₁) where
  pub piece-skip : (k : List Bool) → s ≡ true → and_then h₀ k ≡ replicate n (not s) ++ and_then h₂ k
  piece-skip k e = rw (← filled, ← taken, e) (and_then-skip n h₂ k)

  pub piece-out : (k₀ k₁ : List Bool) → s ≡ false → k₁ ≡ k₀ → k₁ ≡ [] → and_then h₀ k₀ ≡ replicate n false ++ and_then h₂ k₁
  piece-out k₀ k₁ e f o = rw (← filled, ← taken, e, ← f, o) (and_then-out n h₂)

  pub piece-take : (k₀ k₁ k₂ : List Bool) (b : Bool) → s ≡ false → k₁ ≡ k₀ → replicate n b ++ k₂ ≡ k₁ → and_then h₀ k₀ ≡ replicate n b ++ and_then h₂ k₂
  piece-take k₀ k₁ k₂ b e f t = rw (← filled, ← taken, e, ← f, ← t) (and_then-take n b h₂ k₂)

-- one piece of a combining, with nothing beside the first, and with both side by side
module _ (f : Bool → Bool → Bool) (h₀ h₁ h₂ : List Bool) (n : ℕ) (b : Bool) (filled : h₁ ≡ h₀) (taken : replicate n b ++ h₂ ≡ h₁) (k₀ k₁ : List Bool) (others : k₁ ≡ k₀) where
  pub piece-alone : k₁ ≡ [] → combine f h₀ k₀ ≡ replicate n b ++ combine f h₂ k₁
  piece-alone none =
      ap (combine f h₀) (sym others ∙ none) ∙ combine-nil f h₀ ∙ sym filled ∙ sym taken
      ∙ sym (ap (λ l. replicate n b ++ l) (ap (combine f h₂) none ∙ combine-nil f h₂))

  pub piece-both : (k₂ : List Bool) (c m : Bool) → replicate n c ++ k₂ ≡ k₁ → m ≡ f b c → combine f h₀ k₀ ≡ replicate n (not (not m)) ++ combine f h₂ k₂
  piece-both k₂ c m beside is =
      rw (← filled, ← taken, ← others, ← beside) (combine-both f n b c h₂ k₂) ∙ ap (λ x. replicate n x ++ combine f h₂ k₂) (sym (not-not m ∙ is))
