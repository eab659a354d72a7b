-- The grammar of commands, as a table.
use Rattle.std.specs.Prelude.{cond, List, [], ◌∷◌, Some, None, codes, Option}
use Prim.Native.String.{String}
use Rattle.std.specs.Str.{bytes_eq}
use Rattle.tokens.specs.Words.{Word}
use Rattle.scripts.specs.declared.command.Verb.{Verb}
use Rattle.scripts.specs.declared.command.Verb.TheVariants as verb
use Rattle.scripts.specs.declared.grammar.Kind.{Kind}
use Rattle.scripts.specs.declared.grammar.Kind.TheVariants.{Slot, Number, Place, Loaded}
use Rattle.scripts.specs.declared.grammar.Ending.{Ending}
use Rattle.scripts.specs.declared.grammar.Ending.TheVariants.{Nothing, Bytes, Runs, Ranges, Pages}
use Rattle.scripts.specs.declared.grammar.Rule.{Rule}

-- a command: its name, the kinds of its arguments, and what stands behind them
pub record Entry : Type 0 where
  pub name : Word
  pub verb : Verb
  pub head : List Kind
  pub ending : Ending

abbrev entry : String → Verb → List Kind → Ending → Entry
entry n v ks e = record { name = codes n; verb = v; head = ks; ending = e }

abbrev pub grammar : List Entry
grammar =
    entry "reset" verb.Reset [] Nothing
    ∷ entry "runs" verb.Runs (Slot ∷ Number ∷ []) Runs
    ∷ entry "mask" verb.Mask (Slot ∷ Number ∷ Number ∷ []) Bytes
    ∷ entry "ranges" verb.Ranges (Slot ∷ Number ∷ Number ∷ []) Ranges
    ∷ entry "copy" verb.Copy (Slot ∷ Slot ∷ []) Nothing
    ∷ entry "convert" verb.Convert (Slot ∷ Slot ∷ Place ∷ []) Nothing
    ∷ entry "andthen" verb.AndThen (Slot ∷ Slot ∷ Slot ∷ Place ∷ []) Nothing
    ∷ entry "and" verb.And (Slot ∷ Slot ∷ Slot ∷ Place ∷ []) Nothing
    ∷ entry "or" verb.Or (Slot ∷ Slot ∷ Slot ∷ Place ∷ []) Nothing
    ∷ entry "join" verb.Join (Slot ∷ Slot ∷ Slot ∷ Place ∷ []) Nothing
    ∷ entry "split" verb.Split (Slot ∷ Slot ∷ Number ∷ Place ∷ Place ∷ []) Nothing
    ∷ entry "offset" verb.Offset (Slot ∷ Number ∷ Place ∷ []) Nothing
    ∷ entry "limit" verb.Limit (Slot ∷ Number ∷ Place ∷ []) Nothing
    ∷ entry "trim" verb.Trim (Slot ∷ Place ∷ []) Nothing
    ∷ entry "rows" verb.Rows (Slot ∷ []) Nothing
    ∷ entry "bytes" verb.Bytes (Slot ∷ Number ∷ []) Nothing
    ∷ entry "count" verb.Count (Slot ∷ []) Nothing
    ∷ entry "sum" verb.Sum (Slot ∷ []) Nothing
    ∷ entry "eq" verb.Eq (Slot ∷ Slot ∷ []) Nothing
    ∷ entry "strategy" verb.Strategy (Slot ∷ Number ∷ []) Nothing
    ∷ entry "scan" verb.Scan (Slot ∷ Number ∷ []) Pages
    ∷ entry "pagerows" verb.PageRows (Slot ∷ Number ∷ Number ∷ []) Pages
    ∷ entry "view" verb.View (Slot ∷ Number ∷ Number ∷ []) Nothing
    ∷ entry "nth" verb.Nth (Slot ∷ Number ∷ []) Nothing
    ∷ entry "open" verb.Open (Slot ∷ []) Nothing
    ∷ entry "pos" verb.Pos (Slot ∷ []) Nothing
    ∷ entry "next" verb.Next (Slot ∷ []) Nothing
    ∷ entry "give" verb.Give (Slot ∷ Number ∷ []) Nothing
    ∷ entry "chunk" verb.Chunk (Slot ∷ Number ∷ Loaded ∷ []) Nothing
    ∷ entry "batch" verb.Batch (Slot ∷ Number ∷ Loaded ∷ Number ∷ Number ∷ []) Nothing
    ∷ entry "shots" verb.Shots (Slot ∷ Number ∷ Loaded ∷ Number ∷ Number ∷ []) Nothing
    ∷ entry "fillmask" verb.FillMask (Slot ∷ Number ∷ Number ∷ Number ∷ Number ∷ []) Nothing
    ∷ entry "fillruns" verb.FillRuns (Slot ∷ Number ∷ Number ∷ Number ∷ Number ∷ []) Nothing
    ∷ []

-- the first entry with a name
abbrev pub entry_named : Word → List Entry → Option Entry
entry_named w [] = None
entry_named w (e ∷ es) = cond (bytes_eq w e.name) (Some e) (entry_named w es)

-- a rule of the code as an entry
abbrev pub entry_of : Rule → Entry
entry_of r = record { name = r.name.now; verb = r.verb; head = r.head.now; ending = r.ending }
