-- Lists that grow over lent memory.
use Rattle.std.specs.Prelude.{◌≡◌, ◌+◌, ◌-◌, ◌<◌, ◌≤◌, List, [], ◌∷◌, ◌++◌, length, take, drop, Some, None, Option, Ok, Err, Result}
use Rattle.runs.specs.declared.place.Place.{Place}
use Rattle.runs.specs.declared.place.Full.{Full}

-- the items of a place: what stands in its first slots
abbrev pub held : {T : Type 0} → Place T → List T
held p = take p.len p.slots.now

abbrev pub last_of : {T : Type 0} → List T → Option T
last_of [] = None
last_of (x ∷ []) = Some x
last_of (x ∷ y ∷ xs) = last_of (y ∷ xs)

abbrev pub but_last : {T : Type 0} → List T → List T
but_last xs = take (length xs - 1) xs

-- the same memory, and nothing altered beyond the items that t holds
abbrev pub Untouched : {T : Type 0} → Place T → Place T → Type 0
Untouched s t = (t.slots.ghost_name ≡ s.slots.ghost_name) × (length t.slots.now ≡ length s.slots.now) × (drop t.len t.slots.now ≡ drop t.len s.slots.now)

-- one item more exactly where there is a slot for it; else nothing changes
abbrev pub Pushed : {T : Type 0} → Place T → T → Result (Unit {0}) Full → Place T → Type 0
Pushed s x (Ok u) t = (s.len < length s.slots.now) × (t.len ≡ s.len + 1) × (held t ≡ held s ++ (x ∷ []))
Pushed s x (Err e) t = (length s.slots.now ≤ s.len) × (t ≡ s)

-- another item in the last one's place, which is y, exactly where there is one; else nothing changes
abbrev pub Replaced : {T : Type 0} → Place T → T → Option T → Place T → Type 0
Replaced s x (Some y) t = (last_of (held s) ≡ Some y) × (t.len ≡ s.len) × (held t ≡ but_last (held s) ++ (x ∷ []))
Replaced s x None t = (s.len ≡ 0) × (t ≡ s)
