use Rattle.std.proofs.Common.{◌+◌, ◌%◌, eqb, ◌++◌, drop, replicate, sym, refl, ap, ◌∙◌, arith}
use Rattle.rows.proofs.Stretches.{not-not}
use Rattle.words.proofs.WordLaws.{word-leads, some-lead}
use Rattle.words.proofs.word_runs.WordRunsPieces.piece.Goals as goal

pub returns : goal.returns
returns g c =
    let s = c.args.self.now in
    let xs = g.W.WordRows.rows s.from in
    let w = c.word-w.result in
    let n = c.min-n.result in
    let set = eqb (w % 2) 1 in
    let same = c.same_bits.ensures in (
      omega (arith, some-lead w c.same_bits.result set refl same.stops, c.if-left-eq0.false, c.min-n.ensures),
      word-leads xs s.at w n set c.word-w.ensures (omega (arith, same.within, c.min-n.ensures)) (omega (arith, c.len.ensures, c.min-n.ensures, c.saturating_sub-left.ensures, c.if-left-eq0.false)) (λ k h. same.alike k (omega (arith, c.min-n.ensures)))
          ∙ ap (λ b. replicate n b ++ drop (s.at + n) xs) (sym (not-not set)),
    )
