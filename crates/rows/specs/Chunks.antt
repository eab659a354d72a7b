-- Chunks of an opened selection: which rows a reader takes at once.
use Rattle.std.specs.Prelude.{ℕ, suc, ◌+◌, ◌-◌, min, Bool, true, false, cond, List, [], ◌∷◌, length, drop, Some, None, Ok, Option, Result, ◌==◌, nat_le, slice_index_or, slice_range}
use Rattle.refusals.specs.declared.refusal.Refusal.{Refusal}
use Rattle.refusals.specs.Refusals.{refused, reader}
use Rattle.rows.specs.declared.chunk.MaskChunk.{MaskChunk}
use Rattle.rows.specs.Rows.{same, selected_count}
use Rattle.rows.specs.Rules.{limit, trimmed}

-- how many rows at the start have the mark b
abbrev pub leading : Bool → List Bool → ℕ
leading b [] = 0
leading b (x ∷ xs) = cond (same b x) (suc (leading b xs)) 0

-- the first selected row at or after the position p, where there is one
abbrev pub next_selected : List Bool → ℕ → ℕ
next_selected xs p = p + leading false (drop p xs)

-- loaded rows are a selection, or absent, which means all
abbrev pub is_loaded : Option (List Bool) → ℕ → Bool
is_loaded None s = true
is_loaded (Some loaded) s = slice_index_or loaded s false

-- the end of the loaded run that holds row s, at most the length
abbrev pub loaded_end : Option (List Bool) → ℕ → ℕ → ℕ
loaded_end None s len = len
loaded_end (Some loaded) s len = min len (s + leading true (drop s loaded))

-- the chunk's rows: from s on, before e, the first selected ones up to the batch size, and no row past the last of them
abbrev pub rows_of_chunk : ℕ → ℕ → ℕ → List Bool → List Bool
rows_of_chunk size s e xs = trimmed (limit size (slice_range xs s e))

abbrev pub chunk_at : ℕ → Option (List Bool) → List Bool → ℕ → ℕ → MaskChunk
chunk_at size loaded xs p s =
    let rows = rows_of_chunk size s (loaded_end loaded s (length xs)) xs in
    record { initial_skip = s - p; chunk_rows = length rows; selected_rows = selected_count rows; mask_start = s }

-- next_chunk at the position p: refused by 8, none where the cursor has ended, refused by 9, or the chunk
abbrev pub next_chunk : ℕ → Option (List Bool) → List Bool → ℕ → Result (Option MaskChunk) Refusal
next_chunk size loaded xs p =
    cond (size == 0) (refused 8 p reader)
    (cond (nat_le (length xs) p) (Ok None)
    (cond (is_loaded loaded (next_selected xs p)) (Ok (Some (chunk_at size loaded xs p (next_selected xs p)))) (refused 9 (next_selected xs p) reader)))

-- the position after a chunk
abbrev pub chunk_end : MaskChunk → ℕ
chunk_end c = c.mask_start + c.chunk_rows
