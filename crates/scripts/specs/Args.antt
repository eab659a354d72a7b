-- The arguments that words say.
use Rattle.std.specs.Prelude.{ℕ, cond, List, [], ◌∷◌, ◌++◌, Some, None, codes, Option}
use Rattle.std.specs.Option.{option_map}
use Rattle.std.specs.Str.{bytes_eq}
use Rattle.tokens.specs.Words.{Word, below, number_of}
use Rattle.scripts.specs.declared.command.Place.{Place}
use Rattle.scripts.specs.declared.command.Place.TheVariants.{Natural, Runs, Mask}
use Rattle.scripts.specs.declared.command.Arg.{Arg}
use Rattle.scripts.specs.declared.command.Arg.TheVariants as arg
use Rattle.scripts.specs.declared.grammar.Kind.{Kind}
use Rattle.scripts.specs.declared.grammar.Kind.TheVariants as kind

-- a value, with the words behind those that say it
abbrev pub before : {X : Type 0} → List Word → Option X → Option (X × List Word)
before ws None = None
before ws (Some x) = Some (x, ws)

-- a slot is 0 to 15
abbrev pub slot_of : Word → Option ℕ
slot_of w = below 16 (number_of w)

-- the loaded rows: '-' for all, or a slot
abbrev pub loaded_of : Word → Option (Option ℕ)
loaded_of w = cond (bytes_eq w (codes "-")) (Some None) (option_map Some (slot_of w))

-- a place of a size: 'r' for runs, 'm' for a mask
abbrev pub sized_of : Word → Word → Option Place
sized_of w n = cond (bytes_eq w (codes "r")) (option_map Runs (number_of n)) (cond (bytes_eq w (codes "m")) (option_map Mask (number_of n)) None)

abbrev pub sized_by : Word → List Word → Option (Place × List Word)
sized_by w [] = None
sized_by w (n ∷ ws) = before ws (sized_of w n)

-- a place is '-', or a letter and a number
abbrev pub place_of : Word → List Word → Option (Place × List Word)
place_of w ws = cond (bytes_eq w (codes "-")) (Some (Natural, ws)) (sized_by w ws)

abbrev pub placed : Option (Place × List Word) → Option (Arg × List Word)
placed None = None
placed (Some (p, ws)) = Some (arg.Place p, ws)

-- the argument that a word says, a place with the words after it
abbrev pub arg_from : Kind → Word → List Word → Option (Arg × List Word)
arg_from kind.Slot w ws = before ws (option_map arg.Slot (slot_of w))
arg_from kind.Number w ws = before ws (option_map arg.Number (number_of w))
arg_from kind.Loaded w ws = before ws (option_map arg.Loaded (loaded_of w))
arg_from kind.Place w ws = placed (place_of w ws)

-- the next argument, by its kind
abbrev pub arg_of : Kind → List Word → Option (Arg × List Word)
arg_of k [] = None
arg_of k (w ∷ ws) = arg_from k w ws

-- arguments in front of others
abbrev pub with_args : List Arg → Option (List Arg × List Word) → Option (List Arg × List Word)
with_args args None = None
with_args args (Some (bs, ws)) = Some (args ++ bs, ws)

-- an argument, and then those that the words behind it say
abbrev pub then_args : Option (Arg × List Word) → (List Word → Option (List Arg × List Word)) → Option (List Arg × List Word)
then_args None more = None
then_args (Some (a, ws)) more = with_args (a ∷ []) (more ws)

-- the arguments of a command, one for each kind, and the words behind them
abbrev pub head_of : List Kind → List Word → Option (List Arg × List Word)
head_of [] ws = Some ([], ws)
head_of (k ∷ ks) ws = then_args (arg_of k ws) (head_of ks)
