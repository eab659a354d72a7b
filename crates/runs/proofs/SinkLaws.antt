-- Laws of what a sink has room for, and of rows poured into one. Assumes nothing.
use Rattle.std.proofs.Common.{◌≡◌, ℕ, ◌≤◌, Bool, true, false, cond, not, ltb, List, ◌++◌, length, replicate, None, Ok, Err, Result, OnOk, sym, refl, ap, ◌∙◌, subst, append_assoc, append-nil, arith, length-append}
use Rattle.rows.specs.declared.selector.RowSelector.{RowSelector}
use Rattle.rows.specs.Rows.{run_of, count_runs}
use Rattle.rows.proofs.Counts.{runs-front}
use Rattle.std.proofs.lemmas.Bool.{ltb-false}
use Rattle.std.proofs.lemmas.Result.{MatchResult-weaker}
use Rattle.refusals.specs.declared.refusal.Layer.{Layer}
use Rattle.refusals.specs.declared.fault.SelectionFault.{SelectionFault}
use Rattle.refusals.specs.Refusals.{no, refused}
use Rattle.runs.specs.Sinks.{Verdict, Sink, Room, Writes, Delivers, admitted}

-- rows that have room have room for their first ones
pub room-front : (cost : ℕ → ℕ → ℕ) (cap : ℕ) → ((m n p q : ℕ) → m ≤ p → n ≤ q → cost m n ≤ cost p q) → (xs ys : List Bool) → Room cost cap (xs ++ ys) → Room cost cap xs
room-front cost cap dearer xs ys room =
    let fewer : length xs ≤ length (xs ++ ys) = omega (arith, length-append xs ys) in
    let less = dearer (length xs) (count_runs xs) (length (xs ++ ys)) (count_runs (xs ++ ys)) fewer (runs-front None xs ys) in
    (omega (arith, room.0), omega (arith, room.1))

-- no row more
pub none_more : (xs : List Bool) (r : RowSelector) → r.row_count ≡ 0 → xs ≡ xs ++ run_of r
none_more xs r e = sym (append-nil xs) ∙ ap (λ k. xs ++ replicate k (not r.skip)) (sym e)

-- what a sink took it had room for
pub took : (cost : ℕ → ℕ → ℕ) (cap cap' : ℕ) (xs ys zs : List Bool) → Room cost cap' zs → cap' ≡ cap → zs ≡ xs ++ ys → Room cost cap (xs ++ ys) × (zs ≡ xs ++ ys)
took cost cap cap' xs ys zs room c e = (subst (λ k. Room cost k (xs ++ ys)) c (subst (Room cost cap') e room), e)

-- one turn of pouring: ks ++ xs is the whole, and the piece p is taken off xs, with ys left
module _ (whole ks xs p ys : List Bool) (inv : ks ++ xs ≡ whole) (taken : xs ≡ p ++ ys) where
  pub pour-room : (cost : ℕ → ℕ → ℕ) (cap : ℕ) → ((m n p q : ℕ) → m ≤ p → n ≤ q → cost m n ≤ cost p q) → Room cost cap whole → Room cost cap (ks ++ p)
  pour-room cost cap dearer room = room-front cost cap dearer (ks ++ p) ys (rw (append_assoc ks p ys, ← taken, inv) room)

-- what is admitted is within the capacity
pub admits : (l : Layer) (cap cost : ℕ) → ◌≡◌ {A = Verdict} (Ok tt) (admitted l cap cost) → cost ≤ cap
admits l cap cost e = go (ltb cap cost) refl
  where
    go : (b : Bool) → ltb cap cost ≡ b → cost ≤ cap
    go true h = absurd (let f : ◌≡◌ {A = Verdict} (Ok tt) (Err (no 12 cost l)) = e ∙ ap (λ b. cond b (refused 12 cost l) (Ok tt)) h in let z : ◌≡◌ {A = ℕ} 0 1 = cc in omega arith)
    go false h = ltb-false cap cost h

-- rows that were delivered, and the verdict on them, by another name
pub delivered-as : {S : Type 0} (k : Sink S) {s t : S} {xs ys : List Bool} {r : Result (Unit {0}) SelectionFault} → xs ≡ ys → Delivers k s xs r t → Delivers k s ys r t
delivered-as k {s} {t} {xs} {ys} {r} e d = subst (λ zs. Delivers k s zs r t) e d

-- what is true of the rows that a call was to write is true of those that the sink then has
pub of-delivered : {S : Type 0} (k : Sink S) {s t : S} {v : Verdict} {xs : List Bool} {r : Result (Unit {0}) SelectionFault} (P : List Bool → Type 0) → P xs → Writes k s v xs r t → OnOk r (P (k.rows t))
of-delivered k {r = r} P h d = MatchResult-weaker r d.written (λ _ e. subst P (sym e) h) (λ _ _. tt)
