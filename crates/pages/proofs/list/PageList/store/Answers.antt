use Rattle.std.proofs.Common.{[], ◌∷◌, ◌++◌, map, length, sym, ap, ◌∙◌, append_assoc, arith}
use Rattle.runs.specs.Places.{held}
use Rattle.runs.specs.Shown.{untouched-chain}
use Rattle.pages.specs.Walks.{pages_left}
use Rattle.pages.proofs.list.PageList.store.Goals as goal

pub loop-page-preserved : goal.loop-page-preserved
loop-page-preserved g c =
    let i = c.loop-page.invariant in
    let o = c.loop-page.out in
    let p = c.in-Ok.ensures.pushed in
    let taken = c.in-Some.ensures.steps in
    let left = pages_left g.S.RunSource.rows c.next.new.self in (
      omega (arith, p.1, i.0, ap length taken),
      λ h t.
          ap (λ l. l ++ map h left) p.2 ∙ append_assoc (held o) (c.tell.result ∷ []) (map h left)
          ∙ ap (λ x. held o ++ (x ∷ map h left)) (t c.in-Some.page c.tell.result c.tell.ensures) ∙ ap (λ l. held o ++ l) (sym (ap (map h) taken)) ∙ i.1 h t,
      untouched-chain c.new-out.result o c.push.new.self (omega (arith, p.1)) i.2 c.push.ensures.rest,
    )
