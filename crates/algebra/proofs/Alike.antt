-- Whole runs of rows that are the same, and runs of which one selects. Assumes nothing.
use Rattle.std.proofs.Common.{◌≡◌, ℕ, zero, suc, ◌-◌, ◌<◌, Bool, true, false, cond, not, ◌&&◌, eqb, ltb, List, [], ◌∷◌, ◌++◌, length, drop, replicate, is_some, Some, None, Option, sym, refl, ap, ◌∙◌, subst, arith}
use mathlib.Core.Bool.{beq}
use Rattle.std.specs.Option.{option_eq}
use Rattle.std.proofs.lemmas.Bool.{lt-ltb, true≢false, and_from, and_parts, eq-eqb, eqb-true}
use Rattle.runs.proofs.RunPlaceLaws.{beq-is}
use Rattle.rows.specs.declared.selector.RowSelector.{RowSelector}
use Rattle.rows.specs.Items.{Decides}
use Rattle.rows.specs.Rows.{selected_count, run_of, NotFirst}
use Rattle.rows.specs.Chunks.{leading}
use Rattle.rows.proofs.Counts.{length_run, piece-selected}
use Rattle.rows.proofs.Stretches.{drop-stretch}
use Rattle.runs.specs.Steps.{Next}

-- the leading rows of a whole run
leads : (n : ℕ) (b : Bool) (xs : List Bool) → NotFirst b xs → leading b (replicate n b ++ xs) ≡ n
leads zero b [] h = refl
leads zero true (true ∷ xs) h = absurd (h refl)
leads zero true (false ∷ xs) h = refl
leads zero false (true ∷ xs) h = refl
leads zero false (false ∷ xs) h = absurd (h refl)
leads (suc n) true xs h = ap suc (leads n true xs h)
leads (suc n) false xs h = ap suc (leads n false xs h)

-- rows with a first row have no other mark first
marks : (m n : ℕ) (b c : Bool) (xs ys : List Bool) → 0 < m → 0 < n → replicate m b ++ xs ≡ replicate n c ++ ys → b ≡ c
marks zero n b c xs ys h k e = absurd (omega arith)
marks (suc m) zero b c xs ys h k e = absurd (omega arith)
marks (suc m) (suc n) b c xs ys h k e = cc

not_same : (s t : Bool) → not s ≡ not t → s ≡ t
not_same true true e = refl
not_same true false e = sym e
not_same false true e = sym e
not_same false false e = refl

-- two whole runs r and q, with xs and ys after them
module _ (r q : RowSelector) (whole others xs ys : List Bool) (a : Next whole (Some r) xs) (b : Next others (Some q) ys) where
  pub same-marks : whole ≡ others → r.skip ≡ q.skip
  same-marks e = not_same r.skip q.skip (marks r.row_count q.row_count (not r.skip) (not q.skip) xs ys a.0 b.0 (sym a.1 ∙ e ∙ b.1))

  pub same-lengths : whole ≡ others → r.row_count ≡ q.row_count
  same-lengths e =
      let m = ap not (same-marks e) in
      sym (leads r.row_count (not r.skip) xs a.2) ∙ ap (leading (not r.skip)) (sym a.1 ∙ e ∙ b.1) ∙ ap (λ c. leading c (run_of q ++ ys)) m ∙ leads q.row_count (not q.skip) ys b.2

-- rows after the same whole run are the same exactly where they are the same with it
module _ (r : RowSelector) (whole others xs ys : List Bool) (a : Next whole (Some r) xs) (b : Next others (Some r) ys) where
  pub whole-from-rest : xs ≡ ys → whole ≡ others
  whole-from-rest e = a.1 ∙ ap (λ l. run_of r ++ l) e ∙ sym b.1

  pub rest-from-whole : whole ≡ others → xs ≡ ys
  rest-from-whole e = sym (past xs) ∙ ap (drop r.row_count) (sym a.1 ∙ e ∙ b.1) ∙ past ys
    where
      past : (zs : List Bool) → drop r.row_count (run_of r ++ zs) ≡ zs
      past zs = drop-stretch r.row_count r.row_count (not r.skip) zs (omega arith) ∙ ap (λ k. drop k zs) (let z : r.row_count - r.row_count ≡ 0 = omega arith in z)

-- no rows are not a run
pub no_run : (r : RowSelector) (whole xs : List Bool) → Next whole (Some r) xs → whole ≡ [] → ⊥
no_run r whole xs a e = omega (arith, a.0, ap length (sym e ∙ a.1), length_run r.row_count (not r.skip) xs)

-- the same rows begin with the same whole run
pub same-run : (r : RowSelector) (o : Option RowSelector) (whole others xs ys : List Bool) → Next whole (Some r) xs → Next others o ys → whole ≡ others → o ≡ Some r
same-run r None whole others xs ys a b e = absurd (no_run r whole xs a (e ∙ b.0))
same-run r (Some q) whole others xs ys a b e =
    let n = same-lengths r q whole others xs ys a b e in
    let s = same-marks r q whole others xs ys a b e in
    ap Some (rw (n, s))

-- two runs compare as equal where they are the same, and nowhere else
abbrev eq_run : RowSelector → RowSelector → Bool
eq_run x y = eqb x.row_count y.row_count && beq x.skip y.skip

pub is-run : (r : RowSelector) (o : Option RowSelector) → option_eq eq_run o (Some r) ≡ true → o ≡ Some r
is-run r None e = absurd (true≢false (sym e))
is-run r (Some q) e =
    let n : q.row_count ≡ r.row_count = eqb-true _ _ (and_parts _ _ e).0 in
    let s = beq-is q.skip r.skip (and_parts _ _ e).1 in
    ap Some (rw (n, s))

pub not-run : (r : RowSelector) (o : Option RowSelector) → option_eq eq_run o (Some r) ≡ false → o ≡ Some r → ⊥
not-run r o e h = true≢false (sym (and_from _ _ (eq-eqb r.row_count r.row_count refl) (beq-self r.skip)) ∙ ap (λ p. option_eq eq_run p (Some r)) (sym h) ∙ e)
  where
    beq-self : (b : Bool) → beq b b ≡ true
    beq-self true = refl
    beq-self false = refl

-- whether a first run selects, and whether anything comes after a first run of skips
pub selects-first : (r : RowSelector) (whole xs : List Bool) → Next whole (Some r) xs → r.skip ≡ false → true ≡ ltb 0 (selected_count whole)
selects-first r whole xs a s =
    let count = piece-selected whole xs r.row_count r.skip a.1 in
    let all : cond r.skip 0 r.row_count ≡ r.row_count = ap (λ t. cond t 0 r.row_count) s in
    sym (lt-ltb 0 (selected_count whole) (omega (arith, count, all, a.0)))

after-skip : (o : Option RowSelector) (ys zs : List Bool) → Next ys o zs → NotFirst false ys → is_some o ≡ ltb 0 (selected_count ys)
after-skip None ys zs a h = sym (ap (λ l. ltb 0 (selected_count l)) a.0)
after-skip (Some q) ys zs a h = selects-first q ys zs a (unlike q.row_count q.skip zs a.0 a.1)
  where
    unlike : (n : ℕ) (s : Bool) (zs : List Bool) → 0 < n → ys ≡ replicate n (not s) ++ zs → s ≡ false
    unlike zero s zs k e = absurd (omega arith)
    unlike (suc n) true zs k e = absurd (subst (NotFirst false) e h refl)
    unlike (suc n) false zs k e = refl

pub selects-later : (r : RowSelector) (whole xs ys : List Bool) (o : Option RowSelector) → Next whole (Some r) xs → r.skip ≡ true → Next xs o ys → is_some o ≡ ltb 0 (selected_count whole)
selects-later r whole xs ys o a s b =
    let none : cond r.skip 0 r.row_count ≡ 0 = ap (λ t. cond t 0 r.row_count) s in
    let same : selected_count xs ≡ selected_count whole = omega (arith, piece-selected whole xs r.row_count r.skip a.1, none) in
    after-skip o xs ys b (subst (λ t. NotFirst (not t) xs) s a.2) ∙ ap (ltb 0) same

-- at the end of the first's runs: the rows are the same exactly where the second has no run either
pub ended : (o : Option RowSelector) (whole others ys zs : List Bool) (r : Bool) → r ≡ not (is_some o) → Next ys o zs → (ys ≡ [] → whole ≡ others) → (whole ≡ others → ys ≡ []) → Decides r (whole ≡ others)
ended None whole others ys zs r e a to from = subst (λ b. Decides b (whole ≡ others)) (sym e) (to a.0)
ended (Some q) whole others ys zs r e a to from = subst (λ b. Decides b (whole ≡ others)) (sym e) (λ same. no_run q ys zs a (from same))
