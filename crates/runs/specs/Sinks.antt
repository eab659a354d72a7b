-- What a sink has room for, when it is refused as too small, and what a call that writes into one comes to.
use Rattle.std.specs.Prelude.{◌≡◌, ℕ, ◌+◌, ◌≤◌, cond, Bool, List, ◌++◌, length, Ok, Err, Result, MatchResult, nat_lt}
use Rattle.refusals.specs.declared.fault.SelectionFault.{SelectionFault}
use Rattle.refusals.specs.declared.refusal.Layer.{Layer}
use Rattle.refusals.specs.declared.refusal.Refusal.{Refusal}
use Rattle.refusals.specs.Refusals.{refused, selection, verdict}
use Rattle.rows.specs.Rows.{row_limit, count_runs}
use Rattle.rows.specs.Rules.{split_front, split_rest}
use Rattle.runs.specs.declared.place.Full.{Full}

-- what contracts say of a sink of the type S
pub record Sink (S : Type 0) : Type 1 where
  -- the rows taken so far
  pub rows : S → List Bool
  pub capacity : S → ℕ
  -- what rows cost, by their number and that of their whole runs
  pub cost : ℕ → ℕ → ℕ
  -- the layer that a sink too small belongs to
  pub layer : Layer
  -- the same memory, with nothing altered beyond what the second holds
  pub keeps : S → S → Type 0

-- more rows and runs never cost less, and what is kept by two steps is kept by both together
pub record SinkLaws {S : Type 0} (k : Sink S) : Type 0 where
  pub dearer : (m n p q : ℕ) → m ≤ p → n ≤ q → k.cost m n ≤ k.cost p q
  pub still : (s : S) → k.keeps s s
  pub chain : (s t u : S) (more : List Bool) → k.rows u ≡ k.rows t ++ more → k.keeps s t → k.keeps t u → k.keeps s u

-- a call that answers nothing, or is refused
abbrev pub Verdict : Type 0
Verdict = Result (Unit {0}) Refusal

-- the cost of the rows xs, by their number and that of their whole runs
abbrev pub priced : (ℕ → ℕ → ℕ) → List Bool → ℕ
priced cost xs = cost (length xs) (count_runs xs)

-- within the row limit, and at a cost within the capacity
abbrev pub Room : (ℕ → ℕ → ℕ) → ℕ → List Bool → Type 0
Room cost cap xs = (length xs ≤ row_limit) × (priced cost xs ≤ cap)

-- xs, offered ys, takes all of them exactly when that leaves it within its room, and else is unaltered
abbrev pub Offered : (List Bool → Type 0) → List Bool → List Bool → Result (Unit {0}) Full → List Bool → Type 0
Offered room xs ys (Ok u) zs = room (xs ++ ys) × (zs ≡ xs ++ ys)
Offered room xs ys (Err e) zs = (room (xs ++ ys) → ⊥) × (zs ≡ xs)

-- a place of the given capacity takes what costs so much, or is too small: 12, with the size needed
abbrev pub admitted : Layer → ℕ → ℕ → Verdict
admitted layer cap cost = cond (nat_lt cap cost) (refused 12 cost layer) (Ok tt)

-- the same of rows, in the sink s
abbrev pub placed : {S : Type 0} → Sink S → S → List Bool → Verdict
placed k s xs = admitted k.layer (k.capacity s) (priced k.cost xs)

-- two joined end to end: 1 at the second part where both are too long together, else what the place says
abbrev pub joins : {S : Type 0} → Sink S → S → List Bool → List Bool → Verdict
joins k s xs ys = cond (nat_lt row_limit (length xs + length ys)) (refused 1 1 selection) (placed k s (xs ++ ys))

-- what a first verdict says, and where it is no refusal what a second does
abbrev pub then_placed : Verdict → Verdict → Verdict
then_placed (Ok x) v = v
then_placed (Err e) v = Err e

-- split_off: the answer's place is asked first, then the rest's
abbrev pub splits : {S T : Type 0} → Sink S → S → Sink T → T → ℕ → List Bool → Verdict
splits k s l t n xs = then_placed (placed k s (split_front n xs)) (placed l t (split_rest n xs))

-- from s on, with the answer r: the verdict is v; the sink then holds xs, or is as it was; and beyond that nothing is altered
pub record Writes {S : Type 0} (k : Sink S) (s : S) (v : Verdict) (xs : List Bool) (r : Result (Unit {0}) SelectionFault) (t : S) : Type 0 where
  pub verdict : verdict r ≡ v
  pub written : MatchResult r (λ _. k.rows t ≡ xs) (λ _. t ≡ s)
  pub rest : k.keeps s t

-- the same of rows that are refused only where the sink is too small for them
abbrev pub Delivers : {S : Type 0} → Sink S → S → List Bool → Result (Unit {0}) SelectionFault → S → Type 0
Delivers k s xs r t = Writes k s (placed k s xs) xs r t

-- the same of the rows ys after the rows xs
abbrev pub JoinsInto : {S : Type 0} → Sink S → S → List Bool → List Bool → Result (Unit {0}) SelectionFault → S → Type 0
JoinsInto k s xs ys r t = Writes k s (joins k s xs ys) (xs ++ ys) r t

-- the first n of the rows xs in one sink, and the rows after them in another: both are written, or neither is
pub record SplitsInto {S T : Type 0} (k : Sink S) (s : S) (l : Sink T) (t : T) (n : ℕ) (xs : List Bool) (r : Result (Unit {0}) SelectionFault) (s' : S) (t' : T) : Type 0 where
  pub front : Writes k s (splits k s l t n xs) (split_front n xs) r s'
  pub rest : Writes l t (splits k s l t n xs) (split_rest n xs) r t'
