-- Proofs that ghost members of this crate cite. Assumes nothing.
use Rattle.std.specs.Prelude.{◌≡◌, ◌≢◌, ℕ, Bool, true, false, cond, Ok}
use Rattle.std.proofs.Common.{ap, arith}
use Rattle.refusals.specs.declared.refusal.Layer.{Layer}
use Rattle.refusals.specs.Refusals.{no, refused}
use Rattle.runs.specs.Sinks.{Verdict}
use Rattle.stored.specs.declared.operation.Operation.{Operation}
use Rattle.stored.specs.declared.operation.Operation.TheVariants as op
use Rattle.stored.specs.Makes.{wrong}

-- no refusal at all is none by 12
pub fine-not-12 : (n : ℕ) (l : Layer) → ◌≢◌ {A = Verdict} (Ok tt) (refused 12 n l)
fine-not-12 n l e = cc

-- nor is one by another number, or else what is none
either-not-12 : (b : Bool) (m p : ℕ) (k : Layer) (v : Verdict) (n : ℕ) (l : Layer) → m ≢ 12 → v ≢ refused 12 n l → cond b (refused m p k) v ≢ refused 12 n l
either-not-12 true m p k v n l h g e = h (let same : no m p k ≡ no 12 n l = cc in ap (λ r. r.number) same)
either-not-12 false m p k v n l h g e = g e

pub wrong-not-12 : (o : Operation) (n : ℕ) (l : Layer) → wrong o ≢ refused 12 n l
wrong-not-12 (op.Convert a) n l = fine-not-12 n l
wrong-not-12 (op.Narrow a b) n l = either-not-12 _ 4 _ _ _ n l (omega arith) (either-not-12 _ 5 _ _ _ n l (omega arith) (fine-not-12 n l))
wrong-not-12 (op.And a b) n l = fine-not-12 n l
wrong-not-12 (op.Or a b) n l = fine-not-12 n l
wrong-not-12 (op.Join a b) n l = either-not-12 _ 1 _ _ _ n l (omega arith) (fine-not-12 n l)
wrong-not-12 (op.Offset a k) n l = fine-not-12 n l
wrong-not-12 (op.Limit a k) n l = fine-not-12 n l
wrong-not-12 (op.Trim a) n l = fine-not-12 n l
