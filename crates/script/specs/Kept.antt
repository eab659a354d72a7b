-- What a command leaves as it was, and how it flags what it writes.
use Rattle.std.specs.Prelude.{ℕ, ◌≡◌, Bool, false, Ok, Err, Result, Some, slice_set}
use Rattle.stored.specs.declared.held.Stored.{Stored}
use Rattle.script.specs.declared.no.No.{No}
use Rattle.script.specs.declared.no.No.TheVariants.{Misuse, Refused, NoMemory, Io}
use Rattle.script.specs.declared.slots.Slots.{Slots}

-- a command that is misused or refused, of which the run goes on, changes no slot
abbrev pub Kept : {X : Type 0} → Result X No → Slots → Slots → Type 0
Kept (Ok x) s t = Unit {0}
Kept (Err Misuse) s t = t ≡ s
Kept (Err (Refused f)) s t = t ≡ s
Kept (Err NoMemory) s t = Unit {0}
Kept (Err (Io e)) s t = Unit {0}

-- it is a write that failed, if anything
abbrev pub WriteFailed : {X : Type 0} → Result X No → Type 0
WriteFailed (Ok x) = Unit {0}
WriteFailed (Err Misuse) = ⊥
WriteFailed (Err (Refused f)) = ⊥
WriteFailed (Err NoMemory) = ⊥
WriteFailed (Err (Io e)) = Unit {0}

-- no slot but one may change, and what is written into it is flagged as trimmed or not
abbrev pub Written : Bool → Slots → Slots → Type 0
Written flag s t = (n : ℕ) × ((made : Stored) × (t.slots.items ≡ slice_set s.slots.items n (Some (record { stored = made; trimmed = flag }))))

-- two slots may change, one after the other, and neither is flagged
abbrev pub WrittenBoth : Slots → Slots → Type 0
WrittenBoth s t = (u : Slots) × (Written false s u × Written false u t)
