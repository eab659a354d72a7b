-- Laws of rows cut at a selected row, and of rows whose first ones are skipped. Assumes nothing.
use Rattle.std.proofs.Common.{◌≡◌, ℕ, zero, suc, ◌+◌, ◌-◌, ◌<◌, ◌≤◌, Bool, true, false, cond, eqb, ◌⊎◌, List, [], ◌∷◌, length, Some, None, sym, refl, ap, ◌∙◌, inl, inr, arith}
use Rattle.std.proofs.lemmas.Bool.{cases_lt, lt-ltb, le-ltb, eqb-false}
use Rattle.rows.specs.Rows.{selected_count}
use Rattle.rows.specs.Rules.{skip_selected, offset, keep_front, trimmed, nth_end}
use Rattle.rows.specs.Said.{Selects}
use Rattle.bits.specs.Bits.{bit_at}
use Rattle.bits.specs.Masks.{last_selected}
use Rattle.words.specs.Fronts.{skip_front}
use Rattle.words.proofs.WordLaws.{Reads, clear-word}

-- ---- the last selected row

pub last_some : (xs : List Bool) (i : ℕ) → Some i ≡ last_selected xs → i + 1 ≡ length (trimmed xs)
last_some xs i e = go (eqb (length (trimmed xs)) 0) refl
  where
    go : (b : Bool) → eqb (length (trimmed xs)) 0 ≡ b → i + 1 ≡ length (trimmed xs)
    go true h = absurd (let f : Some i ≡ None = e ∙ ap (λ b. cond b None (Some (length (trimmed xs) - 1))) h in let z : ◌≡◌ {A = ℕ} 0 1 = cc in omega arith)
    go false h =
        let f : Some i ≡ Some (length (trimmed xs) - 1) = e ∙ ap (λ b. cond b None (Some (length (trimmed xs) - 1))) h in
        let same : i ≡ length (trimmed xs) - 1 = cc in
        omega (arith, eqb-false (length (trimmed xs)) 0 h)

-- ---- a selected row past the n-th

keep_some : (zs : List Bool) → 0 < length zs → length (keep_front false zs) ≡ suc (length zs)
keep_some [] h = absurd (omega arith)
keep_some (z ∷ zs) h = refl

keep-none : (zs : List Bool) → length zs ≤ 0 → length (keep_front false zs) ≤ 0
keep-none [] h = h
keep-none (z ∷ zs) h = absurd (omega arith)

keep-le : (zs : List Bool) → length (keep_front false zs) ≤ suc (length zs)
keep-le [] = omega arith
keep-le (z ∷ zs) = omega arith

pub trimmed-le : (xs : List Bool) → length (trimmed xs) ≤ length xs
trimmed-le [] = omega arith
trimmed-le (true ∷ xs) = omega (arith, trimmed-le xs)
trimmed-le (false ∷ xs) = omega (arith, trimmed-le xs, keep-le (trimmed xs))

more-past : (n : ℕ) (xs : List Bool) → n < selected_count xs → nth_end n xs < length (trimmed xs)
more-past n [] h = absurd (omega arith)
more-past zero (true ∷ xs) h = omega arith
more-past zero (false ∷ xs) h = let some = more-past zero xs h in omega (arith, keep_some (trimmed xs) some)
more-past (suc n) (true ∷ xs) h = omega (arith, more-past n xs (omega arith))
more-past (suc n) (false ∷ xs) h = let some = more-past (suc n) xs h in omega (arith, keep_some (trimmed xs) (omega arith))

none-past : (n : ℕ) (xs : List Bool) → selected_count xs ≤ n → length (trimmed xs) ≤ nth_end n xs
none-past n [] h = omega arith
none-past zero (true ∷ xs) h = absurd (omega arith)
none-past zero (false ∷ xs) h = keep-none (trimmed xs) (none-past zero xs h)
none-past (suc n) (true ∷ xs) h = omega (arith, none-past n xs (omega arith))
none-past (suc n) (false ∷ xs) h = omega (arith, none-past (suc n) xs h, keep-le (trimmed xs))

-- ---- the first rows skipped

pub skip-early : (n : ℕ) (xs : List Bool) (i : ℕ) → i < n → Selects (skip_front n xs) i ≡ false
skip-early zero xs i h = absurd (omega arith)
skip-early (suc n) [] i h = refl
skip-early (suc n) (x ∷ xs) zero h = refl
skip-early (suc n) (x ∷ xs) (suc i) h = skip-early n xs i (omega arith)

pub skip-late : (n : ℕ) (xs : List Bool) (i : ℕ) → n ≤ i → Selects (skip_front n xs) i ≡ Selects xs i
skip-late zero xs i h = refl
skip-late (suc n) [] i h = refl
skip-late (suc n) (x ∷ xs) zero h = absurd (omega arith)
skip-late (suc n) (x ∷ xs) (suc i) h = skip-late n xs i (omega arith)

-- a word before row n, and one of which the rows from row n on are read in v
pub skipped-whole : (n : ℕ) (xs : List Bool) (at : ℕ) → at + 64 ≤ n → Reads (skip_front n xs) at 0
skipped-whole n xs at h k l = clear-word k ∙ sym (skip-early n xs (at + k) (omega arith))

pub skipped-part : (n : ℕ) (xs : List Bool) (at r v m : ℕ) → m ≡ n - at → Reads xs at v → ((k : ℕ) → k < m → bit_at r k ≡ bit_at 0 k) → ((k : ℕ) → m ≤ k → bit_at r k ≡ bit_at v k) → Reads (skip_front n xs) at r
skipped-part n xs at r v m e reads under over k h = go (cases_lt k m)
  where
    go : (k < m) ⊎ (m ≤ k) → bit_at r k ≡ Selects (skip_front n xs) (at + k)
    go (inl t) = under k t ∙ clear-word k ∙ sym (skip-early n xs (at + k) (omega arith))
    go (inr t) = over k t ∙ reads k h ∙ sym (skip-late n xs (at + k) (omega arith))

-- ---- offset

skip-to-nth : (n : ℕ) (xs : List Bool) → skip_selected n xs ≡ skip_front (nth_end n xs) xs
skip-to-nth zero xs = refl
skip-to-nth (suc n) [] = refl
skip-to-nth (suc n) (true ∷ xs) = ap (λ l. false ∷ l) (skip-to-nth n xs)
skip-to-nth (suc n) (false ∷ xs) = ap (λ l. false ∷ l) (skip-to-nth (suc n) xs)

pub offset-none : (n : ℕ) (xs : List Bool) → 0 < n → length (trimmed xs) ≤ nth_end n xs → offset n xs ≡ []
offset-none zero xs h e = absurd (omega arith)
offset-none (suc n) xs h e = ap (λ b. cond b (skip_selected (suc n) xs) []) (le-ltb (suc n) (selected_count xs) (few (cases_lt (suc n) (selected_count xs))))
  where
    few : (suc n < selected_count xs) ⊎ (selected_count xs ≤ suc n) → selected_count xs ≤ suc n
    few (inl l) = absurd (omega (arith, more-past (suc n) xs l))
    few (inr l) = l

pub offset-some : (n : ℕ) (xs : List Bool) → (0 < n → nth_end n xs < length (trimmed xs)) → offset n xs ≡ skip_front (nth_end n xs) xs
offset-some zero xs e = refl
offset-some (suc n) xs e = ap (λ b. cond b (skip_selected (suc n) xs) []) (lt-ltb (suc n) (selected_count xs) (more (cases_lt (suc n) (selected_count xs)))) ∙ skip-to-nth (suc n) xs
  where
    more : (suc n < selected_count xs) ⊎ (selected_count xs ≤ suc n) → suc n < selected_count xs
    more (inl l) = l
    more (inr l) = absurd (omega (arith, none-past (suc n) xs l, e (omega arith)))
