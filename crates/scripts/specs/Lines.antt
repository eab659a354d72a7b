-- What a line says.
use Rattle.std.specs.Prelude.{ℕ, cond, List, [], ◌∷◌, Some, None, vec_items, Option, ◌==◌}
use Rattle.tokens.specs.Words.{Word, words_of}
use Rattle.scripts.specs.Grammar.{Entry, grammar, entry_named}
use Rattle.scripts.specs.Args.{head_of}
use Rattle.scripts.specs.Tails.{Listed, nothing, bytes, runs, ranges, pages, tail_of}
use Rattle.scripts.specs.declared.command.Verb.{Verb}
use Rattle.scripts.specs.declared.command.Arg.{Arg}
use Rattle.scripts.specs.declared.command.Tail.{Tail}
use Rattle.scripts.specs.declared.command.Tail.TheVariants as tail
use Rattle.scripts.specs.declared.command.Command.{Command}

-- a line says nothing, is not of the form, or says a command
pub data Said : Type 0 where
  silent : Said
  misuse : Said
  command : Verb → List Arg → Listed → Said

abbrev pub with_tail : Verb → List Arg → Option Listed → Said
with_tail v args None = misuse
with_tail v args (Some t) = command v args t

abbrev pub with_head : Entry → Option (List Arg × List Word) → Said
with_head e None = misuse
with_head e (Some (args, ws)) = with_tail e.verb args (tail_of e.ending ws)

abbrev pub by_entry : Option Entry → List Word → Said
by_entry None ws = misuse
by_entry (Some e) ws = with_head e (head_of e.head ws)

-- the first word names the command, and the others are its arguments and what stands behind them
abbrev pub command_of : List Word → Said
command_of [] = misuse
command_of (w ∷ ws) = by_entry (entry_named w grammar) ws

-- a line that is empty or begins with '#' (35) says nothing
abbrev pub line_of : List ℕ → Said
line_of [] = silent
line_of (b ∷ bs) = cond (b == 35) silent (command_of (words_of (b ∷ bs)))

-- what the code returns, with lists for its vectors
abbrev pub listed_in : Tail → Listed
listed_in tail.Nothing = nothing
listed_in (tail.Bytes v) = bytes (vec_items v)
listed_in (tail.Runs v) = runs (vec_items v)
listed_in (tail.Ranges v) = ranges (vec_items v)
listed_in (tail.Pages v) = pages (vec_items v)

abbrev pub spoken : Command → Said
spoken c = command c.verb (vec_items c.head) (listed_in c.tail)

abbrev pub said : Option Command → Said
said None = silent
said (Some c) = spoken c
