-- What holds however a call ends. Assumes nothing.
use Rattle.std.proofs.Common.{Ok, Err, Result, IfOk}

pub if-done : {X E : Type 0} (r : Result X E) (P : Type 0) → P → IfOk r (λ _. P)
if-done (Ok x) P p = p
if-done (Err e) P p = tt
