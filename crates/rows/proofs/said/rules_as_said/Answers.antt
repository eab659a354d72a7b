use Rattle.std.proofs.Common.{refl}
use Rattle.rows.proofs.Rules.{by_rank, row-by-row, in_two, offset-rows}
use Rattle.rows.proofs.Endings.{limited, trim}
use Rattle.rows.proofs.ChunkLaws.{chunk-rule}
use Rattle.rows.proofs.RunLaws.{one_list}
use Rattle.rows.proofs.said.rules_as_said.Goals as goal

pub returns : goal.returns
returns c = (
  refl,
  record {
    and_then = by_rank;
    combining = row-by-row;
    split_off = in_two;
    offsetting = offset-rows;
    limiting = limited;
    trimming = trim;
    chunks = chunk-rule;
    one_list = one_list;
  },
)
