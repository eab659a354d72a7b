-- What the first rows of a source are.
use Rattle.std.specs.Prelude.{Bool, List, take}
use Rattle.cuts.specs.declared.part.Part.{Part}

abbrev pub part_rows : {S : Type 0} → (S → List Bool) → Part S → List Bool
part_rows rows p = take p.left (rows p.source)
