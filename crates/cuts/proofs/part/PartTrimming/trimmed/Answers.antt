use Rattle.std.proofs.Common.{◌≤◌, length, take, sym, ap, ◌∙◌, arith}
use Rattle.std.proofs.lemmas.List.{length-take, take-take}
use Rattle.rows.specs.Rules.{trimmed}
use Rattle.rows.proofs.Endings.{trimmed-front}
use Rattle.cuts.proofs.part.PartTrimming.trimmed.Goals as goal

pub returns : goal.returns
returns g c =
    let s = c.args.self.now in
    let xs = g.S.RunSource.rows s.source in
    let zs = take s.left xs in
    let short : length (trimmed zs) ≤ s.left = omega (arith, ap length (trimmed-front zs), length-take (length (trimmed zs)) zs, length-take s.left xs) in
    ap (λ k. take k xs) c.up_to_last.ensures ∙ sym (trimmed-front zs ∙ take-take (length (trimmed zs)) s.left xs short)
