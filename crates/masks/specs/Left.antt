-- What a walk over a mask's runs has left.
use Rattle.std.specs.Prelude.{Bool, List, drop}
use Rattle.bits.specs.Masks.{rows}
use Rattle.masks.specs.declared.iter.MaskRunIter.{MaskRunIter}

abbrev pub left : MaskRunIter → List Bool
left s = drop s.at (rows s.mask)
