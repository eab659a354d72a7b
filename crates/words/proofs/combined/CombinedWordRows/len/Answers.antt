use Rattle.std.proofs.Common.{arith}
use Rattle.rows.proofs.Rules.{row-by-row}
use Rattle.bits.specs.Masks.{rows}
use Rattle.words.proofs.combined.CombinedWordRows.len.Goals as goal

pub returns : goal.returns
returns g c =
    let s = c.args.self.now in
    omega (arith, (row-by-row g.P.Policy.rule (rows s.first) (rows s.second)).long)
