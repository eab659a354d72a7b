-- The leading run of what is left of a mask. Assumes nothing.
use Rattle.std.proofs.Common.{◌≡◌, ℕ, ◌+◌, ◌-◌, ◌<◌, Bool, true, false, cond, ltb, List, [], ◌∷◌, ◌++◌, length, get_or, drop, replicate, Some, None, sym, refl, ap, ◌∙◌, subst, arith}
use Rattle.std.proofs.lemmas.List.{drop-drop, drop_more, drop_all}
use Rattle.std.proofs.lemmas.Bool.{lt-ltb, ltb-false, ltb-true}
use Rattle.rows.specs.Rows.{NotFirst}
use Rattle.rows.specs.Chunks.{leading}
use Rattle.bits.specs.Masks.{value_at, next_change}
use Rattle.bits.proofs.WalkLaws.{leads, stops}

some-lead : (b : Bool) (xs : List Bool) → 0 < leading b (b ∷ xs)
some-lead true xs = omega arith
some-lead false xs = omega arith

-- the mark of row i, and the row where it changes
module _ (xs : List Bool) (i : ℕ) (b : Bool) (here : value_at xs i ≡ Some b) where
  pub inside : i < length xs
  inside = go (ltb i (length xs)) refl
    where
      go : (t : Bool) → ltb i (length xs) ≡ t → i < length xs
      go true e = ltb-true i (length xs) e
      go false e = absurd (let f : None ≡ Some b = sym (ap (λ t. cond t (Some (get_or xs i false)) None) e) ∙ here in let z : ◌≡◌ {A = ℕ} 0 1 = cc in omega arith)

  mark : get_or xs i false ≡ b
  mark = let f : Some (get_or xs i false) ≡ Some b = sym (ap (λ t. cond t (Some (get_or xs i false)) None) (lt-ltb i (length xs) inside)) ∙ here in cc

  abbrev pub ahead : ℕ
  ahead = leading b (drop i xs)

  pub change : next_change xs i ≡ i + ahead
  change = ap (λ t. cond t (i + leading (get_or xs i false) (drop i xs)) (length xs)) (lt-ltb i (length xs) inside) ∙ ap (λ c. i + leading c (drop i xs)) mark

  pub some-ahead : 0 < ahead
  some-ahead = omega (arith, ap (leading b) (drop_more xs i false inside ∙ ap (λ c. c ∷ drop (i + 1) xs) mark), some-lead b (drop (i + 1) xs))

  rest : drop ahead (drop i xs) ≡ drop (next_change xs i) xs
  rest = drop-drop ahead i xs ∙ ap (λ k. drop k xs) (sym change)

  pub run-rows : drop i xs ≡ replicate (next_change xs i - i) b ++ drop (next_change xs i) xs
  run-rows =
      let e : leading b (drop i xs) ≡ next_change xs i - i = omega (arith, change) in
      leads b (drop i xs) ∙ ap (λ l. replicate ahead b ++ l) rest ∙ ap (λ k. replicate k b ++ drop (next_change xs i) xs) e

  pub run-stops : NotFirst b (drop (next_change xs i) xs)
  run-stops = subst (NotFirst b) rest (stops b (drop i xs))

-- past the rows nothing is left
pub none_left : (xs : List Bool) (i : ℕ) → value_at xs i ≡ None → drop i xs ≡ []
none_left xs i here = go (ltb i (length xs)) refl
  where
    go : (t : Bool) → ltb i (length xs) ≡ t → drop i xs ≡ []
    go true e = absurd (let f : Some (get_or xs i false) ≡ None = sym (ap (λ t. cond t (Some (get_or xs i false)) None) e) ∙ here in let z : ◌≡◌ {A = ℕ} 0 1 = cc in omega arith)
    go false e = drop_all i xs (ltb-false i (length xs) e)
