-- The words of a line, and the numbers and bytes that a word writes.
use Rattle.std.specs.Prelude.{ℕ, ◌+◌, ◌-◌, ◌*◌, ◌^◌, Bool, cond, ◌&&◌, List, [], ◌∷◌, ℤ, pos, neg_ℤ, Some, None, codes, Option, ◌==◌, nat_le, nat_lt}
use Rattle.std.specs.Option.{option_map}
use Rattle.std.specs.Str.{bytes_eq}

-- a word is its bytes
abbrev pub Word : Type 0
Word = List ℕ

-- the first word with one more byte in front
abbrev pub longer : ℕ → List Word → List Word
longer b [] = (b ∷ []) ∷ []
longer b (w ∷ ws) = (b ∷ w) ∷ ws

-- a line is cut at each space (32); a space at an end or beside another leaves an empty word, which nothing accepts
abbrev pub words_of : List ℕ → List Word
words_of [] = [] ∷ []
words_of (b ∷ bs) = cond (b == 32) ([] ∷ words_of bs) (longer b (words_of bs))

-- the value, where it is below a limit
abbrev pub below : ℕ → Option ℕ → Option ℕ
below limit None = None
below limit (Some n) = cond (nat_lt n limit) (Some n) None

-- '0' (48) to '9' (57)
abbrev pub is_digit : ℕ → Bool
is_digit b = nat_le 48 b && nat_le b 57

-- the number that is written in base ten by the digits of n and then these; none where one is no digit
abbrev pub digits_after : ℕ → List ℕ → Option ℕ
digits_after n [] = Some n
digits_after n (b ∷ bs) = cond (is_digit b) (digits_after (10 * n + (b - 48)) bs) None

-- the same for a single digit, below 2 to the 64th
abbrev pub digit_after : ℕ → ℕ → Option ℕ
digit_after n b = below (2 ^ 64) (digits_after n (b ∷ []))

-- one digit or more, in base ten, below 2 to the 64th; zeros may lead
abbrev pub number_of : Word → Option ℕ
number_of [] = None
number_of (b ∷ bs) = below (2 ^ 64) (digits_after 0 (b ∷ bs))

-- what follows a first byte
abbrev pub behind : ℕ → Word → Option Word
behind mark [] = None
behind mark (b ∷ bs) = cond (b == mark) (Some bs) None

-- with no sign, and with one
abbrev pub by_sign : Option Word → Word → Option ℤ
by_sign None w = option_map pos (number_of w)
by_sign (Some digits) w = option_map (λ n. neg_ℤ (pos n)) (number_of digits)

-- a number, or one behind '-' (45) with its sign turned
abbrev pub signed_of : Word → Option ℤ
signed_of w = by_sign (behind 45 w) w

-- '0' to '9', and 'a' (97) to 'f' (102) for ten to fifteen
abbrev pub hex_digit : ℕ → Option ℕ
hex_digit b = cond (is_digit b) (Some (b - 48)) (cond (nat_le 97 b && nat_le b 102) (Some (b - 97 + 10)) None)

-- two digits in base sixteen
abbrev pub sixteens : Option ℕ → Option ℕ → Option ℕ
sixteens None low = None
sixteens (Some high) None = None
sixteens (Some high) (Some low) = Some (16 * high + low)

abbrev pub hex_byte : ℕ → ℕ → Option ℕ
hex_byte high low = sixteens (hex_digit high) (hex_digit low)

-- a list with one more in front, where there are both
abbrev pub added : {X : Type 0} → Option X → Option (List X) → Option (List X)
added None xs = None
added (Some x) None = None
added (Some x) (Some xs) = Some (x ∷ xs)

-- two digits for each byte
abbrev pub hex_bytes : Word → Option (List ℕ)
hex_bytes [] = Some []
hex_bytes (a ∷ []) = None
hex_bytes (a ∷ b ∷ w) = added (hex_byte a b) (hex_bytes w)

-- at least one byte
abbrev pub some_bytes : Word → Option (List ℕ)
some_bytes [] = None
some_bytes (a ∷ w) = hex_bytes (a ∷ w)

-- bytes in hexadecimal, or '-' for none
abbrev pub bytes_of : Word → Option (List ℕ)
bytes_of w = cond (bytes_eq w (codes "-")) (Some []) (some_bytes w)
