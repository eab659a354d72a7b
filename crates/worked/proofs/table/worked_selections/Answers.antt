use Rattle.std.proofs.Common.{refl}
use Rattle.bits.specs.Bits.{digit, bit_at, row_at, rows_of}
use Rattle.worked.proofs.table.worked_selections.Goals as goal

pub returns : goal.returns
unfolding digit bit_at row_at rows_of
returns c = (
  refl,
  record {
    as_mask = refl;
    narrowed = refl;
    lengths = λ l cost cap. (refl, refl);
    none_selected = refl;
    both = refl;
    either = refl;
    offsets = (refl, refl);
    limits = (refl, refl);
    split = (refl, refl);
    trim = refl;
    pages = (refl, refl, refl);
    chunks = (refl, refl, refl, refl);
    loaded_chunks = (refl, refl, refl);
    strategies = (refl, refl);
  },
)
