-- How a call ends that takes memory for its result.
use Rattle.std.specs.Prelude.{◌≡◌, ℕ, ◌≤◌, Bool, true, false, List, length, Ok, Err, Result}
use Rattle.refusals.specs.declared.fault.SelectionFault.{SelectionFault}
use Rattle.refusals.specs.Refusals.{bits, selection, told_selection}
use Rattle.rows.specs.Rows.{count_runs}
use Rattle.runs.specs.Sinks.{Verdict, admitted, then_placed}
use Rattle.masks.specs.Spares.{bytes_of}
use Rattle.stored.specs.declared.room.Room.{Room}
use Rattle.stored.specs.declared.room.Room.TheVariants.{Runs, Mask}
use Rattle.stored.specs.declared.trouble.Trouble.{Trouble}
use Rattle.stored.specs.declared.trouble.Trouble.TheVariants.{Refused, NoMemory}

-- whether a result there is a mask
abbrev pub masked_in : Room → Bool
masked_in (Runs most) = false
masked_in (Mask most) = true

-- what a place of so many runs or bytes says of the rows xs: 12 where they need more
abbrev pub fitted : Room → List Bool → Verdict
fitted (Runs most) xs = admitted selection most (count_runs xs)
fitted (Mask most) xs = admitted bits most (bytes_of (length xs))

-- the call answers or is refused as the verdict says, unless there is no memory
abbrev pub Ends : {X : Type 0} → Verdict → Result X Trouble → Type 0
Ends v (Ok x) = v ≡ Ok tt
Ends v (Err (Refused f)) = v ≡ Err (told_selection f)
Ends v (Err (NoMemory e)) = Unit {0}

-- three verdicts one after another: the first that is a refusal
abbrev pub in_turn : Verdict → Verdict → Verdict → Verdict
in_turn u v w = then_placed u (then_placed v w)

-- memory for rows xs, which are refused by u, serves for rows ys, which are refused by v
pub record Serves (u : Verdict) (xs : List Bool) (v : Verdict) (ys : List Bool) : Type 0 where
  pub refused : then_placed u v ≡ v
  pub runs : count_runs ys ≤ count_runs xs
  pub rows : length ys ≤ length xs

-- what a result needs, where it is not refused wherever it stands
abbrev pub Needs : Verdict → ℕ → Result ℕ SelectionFault → Type 0
Needs v cost (Ok n) = (v ≡ Ok tt) × (n ≡ cost)
Needs v cost (Err f) = v ≡ Err (told_selection f)
