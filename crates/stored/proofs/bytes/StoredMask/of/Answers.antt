use Rattle.std.proofs.Common.{◌≡◌, Bool, true, false, [], Ok, Err, Result, cond, is_ok, is_err, refl, sym, ap, ◌∙◌}
use Rattle.std.proofs.lemmas.Bool.{true≢false}
use Rattle.refusals.specs.declared.fault.SelectionFault.{SelectionFault}
use Rattle.refusals.specs.Refusals.{verdict}
use Rattle.runs.specs.Sinks.{Verdict}
use Rattle.bits.specs.Bits.{row_at, mask_rows}
use Rattle.bits.specs.Masks.{mask_verdict}
use Rattle.bits.proofs.RowLaws.{rows-nil}
use Rattle.stored.proofs.bytes.StoredMask.of.Goals as goal

-- a call that answers nothing is refused
not-ok : (r : Result (Unit {0}) SelectionFault) (v : Verdict) → verdict r ≡ v → is_err r ≡ true → is_ok v ≡ false
not-ok (Ok x) v e h = absurd (true≢false (sym h))
not-ok (Err f) v e h = sym (ap is_ok e)

pub returns-then-is_err-clause-rows : goal.returns-then-is_err-clause-rows
returns-then-is_err-clause-rows c =
    let bytes = c.args.bytes.items in
    let o = c.args.offset in
    let n = c.args.len in
    let e = c.check.ensures ∙ ap (λ xs. mask_verdict xs o n) c.as_slice.ensures.value in
    rows-nil (row_at bytes) 0 0 refl
    ∙ sym (ap (λ (b : Bool). cond b (mask_rows bytes o n) []) (not-ok c.check.result (mask_verdict bytes o n) e (sym c.is_err.ensures.value ∙ c.if-is_err.true)))
