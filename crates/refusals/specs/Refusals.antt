-- The twelve refusals: each fault's number, place and layer.
use Rattle.std.specs.Prelude.{ℕ, Ok, Err, Result}
use Rattle.refusals.specs.declared.fault.BitsFault.{BitsFault}
use Rattle.refusals.specs.declared.fault.BitsFault.TheVariants.{PastBytes, BytesTooFew}
use Rattle.refusals.specs.declared.fault.SelectionFault.{SelectionFault}
use Rattle.refusals.specs.declared.fault.SelectionFault.TheVariants.{Bits, RowLimit, BadRange, SecondShort, SecondLong, BadPage, BadTotal, PlaceTooSmall}
use Rattle.refusals.specs.declared.fault.ReaderFault.{ReaderFault}
use Rattle.refusals.specs.declared.fault.ReaderFault.TheVariants.{Selection, EmptyBatch, NotLoaded, ColumnShort, ReadTooMuch, ValuesTooFew}
use Rattle.refusals.specs.declared.refusal.Layer.{Layer}
use Rattle.refusals.specs.declared.refusal.Layer.TheVariants as layer
use Rattle.refusals.specs.declared.refusal.Refusal.{Refusal}

abbrev pub bits : Layer
bits = layer.Bits

abbrev pub selection : Layer
selection = layer.Selection

abbrev pub reader : Layer
reader = layer.Reader

-- the refusal of this number, at this place, in this layer
abbrev pub no : ℕ → ℕ → Layer → Refusal
no n p l = record { number = n; place = p; layer = l }

-- what a fault tells, seen from the uppermost layer, which carries those below whole
abbrev pub told : ReaderFault → Refusal
told (Selection (Bits (PastBytes n))) = no 2 n bits
told (Selection (Bits (BytesTooFew n))) = no 12 n bits
told (Selection (RowLimit n)) = no 1 n selection
told (Selection (BadRange n)) = no 3 n selection
told (Selection (SecondShort n)) = no 4 n selection
told (Selection (SecondLong n)) = no 5 n selection
told (Selection (BadPage n)) = no 6 n selection
told (Selection (BadTotal n)) = no 7 n selection
told (Selection (PlaceTooSmall n)) = no 12 n selection
told (EmptyBatch n) = no 8 n reader
told (NotLoaded n) = no 9 n reader
told (ColumnShort n) = no 10 n reader
told (ReadTooMuch n) = no 11 n reader
told (ValuesTooFew n) = no 12 n reader

abbrev pub told_selection : SelectionFault → Refusal
told_selection s = told (Selection s)

abbrev pub told_bits : BitsFault → Refusal
told_bits b = told_selection (Bits b)

-- a call's verdict: its answer, or the refusal that its fault tells
abbrev pub verdict_by : {X E : Type 0} → (E → Refusal) → Result X E → Result X Refusal
verdict_by tell (Ok x) = Ok x
verdict_by tell (Err e) = Err (tell e)

abbrev pub verdict : {X : Type 0} → Result X SelectionFault → Result X Refusal
verdict r = verdict_by told_selection r

abbrev pub bits_verdict : {X : Type 0} → Result X BitsFault → Result X Refusal
bits_verdict r = verdict_by told_bits r

-- a call that is refused
abbrev pub refused : {X : Type 0} → ℕ → ℕ → Layer → Result X Refusal
refused n p l = Err (no n p l)
