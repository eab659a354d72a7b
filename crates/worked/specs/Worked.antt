-- Fourteen selections, worked out by hand. `+3 -2` stands for three selected rows and then two skipped ones.
use Rattle.std.specs.Prelude.{◌≡◌, ℕ, Bool, true, false, ◌&&◌, ◌||◌, List, [], ◌∷◌, ◌++◌, replicate, pos, Some, None, Ok, Option, Result}
use Rattle.refusals.specs.declared.refusal.Layer.{Layer}
use Rattle.refusals.specs.declared.refusal.Refusal.{Refusal}
use Rattle.refusals.specs.Refusals.{refused, selection}
use Rattle.rows.specs.declared.chunk.MaskChunk.{MaskChunk}
use Rattle.rows.specs.declared.strategy.RowSelectionStrategy.TheVariants.{Selectors, Mask}
use Rattle.rows.specs.Rules.{and_then, combine, split_front, split_rest, offset, limit, trimmed, strategy}
use Rattle.rows.specs.Chunks.{next_chunk, chunk_end}
use Rattle.bits.specs.Bits.{mask_rows}
use Rattle.runs.specs.Sinks.{Sink}
use Rattle.algebra.specs.Verdicts.{narrows}
use Rattle.pages.specs.declared.page.PageLocation.{PageLocation}
use Rattle.pages.specs.Pages.{ByteRange, scanned}
use Rattle.pages.specs.Verdicts.{scan_verdict}

-- so many selected rows, and so many skipped ones
abbrev pub plus : ℕ → List Bool
plus n = replicate n true

abbrev pub minus : ℕ → List Bool
minus n = replicate n false

-- S is -2 +3 -1 +2
abbrev pub S : List Bool
S = minus 2 ++ (plus 3 ++ (minus 1 ++ plus 2))

-- P is three pages: at byte 100, of 50 bytes, from row 0 on; at 150, of 50, from 4 on; at 200, of 30, from 6 on
abbrev pub page : ℕ → ℕ → ℕ → PageLocation
page o s f = record { offset = pos o; compressed_page_size = pos s; first_row_index = pos f }

abbrev pub P : List PageLocation
P = page 100 50 0 ∷ (page 150 50 4 ∷ (page 200 30 6 ∷ []))

abbrev pub bytes : ℕ → ℕ → ByteRange
bytes a b = record { start = a; end = b }

-- a chunk by its initial_skip, chunk_rows, selected_rows and mask_start
abbrev pub rows_of : ℕ → ℕ → ℕ → ℕ → MaskChunk
rows_of a b c d = record { initial_skip = a; chunk_rows = b; selected_rows = c; mask_start = d }

-- a sink of any kind, by all that a verdict depends on
abbrev pub sink : Layer → (ℕ → ℕ → ℕ) → ℕ → Sink (Unit {0})
sink l cost cap = record { rows = λ s. []; capacity = λ s. cap; cost = cost; layer = l; keeps = λ s t. s ≡ t }

-- the answer of a call that takes it, and the position that follows
abbrev pub chunk : ℕ → ℕ → ℕ → ℕ → Result (Option MaskChunk) Refusal
chunk a b c d = Ok (Some (rows_of a b c d))

abbrev pub past : ℕ → ℕ → ℕ → ℕ → ℕ
past a b c d = chunk_end (rows_of a b c d)

-- the rows that are loaded in the last but one row of the table: +5 -1 +2
abbrev pub loaded : Option (List Bool)
loaded = Some (plus 5 ++ (minus 1 ++ plus 2))

pub record Worked : Type 0 where
  pub as_mask : mask_rows (220 ∷ []) 0 8 ≡ S
  pub narrowed : and_then S (plus 1 ++ (minus 1 ++ plus 3)) ≡ minus 2 ++ (plus 1 ++ (minus 1 ++ (plus 1 ++ (minus 1 ++ plus 2))))
  pub lengths : (l : Layer) (cost : ℕ → ℕ → ℕ) (cap : ℕ) → (narrows (sink l cost cap) tt S (plus 4) ≡ refused 4 4 selection) × (narrows (sink l cost cap) tt S (plus 6) ≡ refused 5 5 selection)
  pub none_selected : and_then (minus 3) [] ≡ minus 3
  pub both : combine ◌&&◌ (plus 3 ++ minus 2) (minus 1 ++ plus 1) ≡ minus 1 ++ (plus 2 ++ minus 2)
  pub either : combine ◌||◌ (plus 3 ++ minus 2) (minus 1 ++ plus 1) ≡ plus 3 ++ minus 2
  pub offsets : (offset 2 S ≡ minus 4 ++ (plus 1 ++ (minus 1 ++ plus 2))) × (offset 5 S ≡ [])
  pub limits : (limit 2 (plus 2 ++ minus 3) ≡ plus 2) × (limit 3 (plus 2 ++ minus 3) ≡ plus 2 ++ minus 3)
  pub split : (split_front 4 S ≡ minus 2 ++ plus 2) × (split_rest 4 S ≡ plus 1 ++ (minus 1 ++ plus 2))
  pub trim : trimmed (minus 4) ≡ []
  pub pages : (scanned P (minus 4 ++ plus 2) ≡ bytes 150 200 ∷ []) × (scanned P (minus 4 ++ plus 3) ≡ bytes 150 200 ∷ (bytes 200 230 ∷ [])) × (scan_verdict 1 P (minus 4 ++ plus 2) ≡ Ok 1)
  pub chunks : (next_chunk 2 None S 0 ≡ chunk 2 2 2 2) × (next_chunk 2 None S (past 2 2 2 2) ≡ chunk 0 3 2 4) × (next_chunk 2 None S (past 0 3 2 4) ≡ chunk 0 1 1 7) × (next_chunk 2 None S (past 0 1 1 7) ≡ Ok None)
  pub loaded_chunks : (next_chunk 2 loaded S 0 ≡ chunk 2 2 2 2) × (next_chunk 2 loaded S (past 2 2 2 2) ≡ chunk 0 1 1 4) × (next_chunk 2 loaded S (past 0 1 1 4) ≡ chunk 1 2 2 6)
  pub strategies : (strategy 2 S ≡ Selectors) × (strategy 3 S ≡ Mask)
