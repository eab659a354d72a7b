use Rattle.std.proofs.Common.{vec_items, sym, ◌∙◌}
use Rattle.tokens.proofs.Pairs.{pair_read}
use Rattle.tokens.proofs.hex.pairs.Goals as goal

pub loop-high-preserved : goal.loop-high-preserved
loop-high-preserved c =
    pair_read
    (vec_items c.loop-high.found)
    (vec_items c.push.new.self)
    c.as_chunks.result.0.now
    c.loop-high.high-index
    c.in_ok-ok_or.field-0
    _
    c.loop-high-test.true
    (sym c.in_ok-ok_or.ensures.ok_part ∙ c.byte.ensures)
    c.in_ok-push.ensures.items
    c.loop-high.invariant
