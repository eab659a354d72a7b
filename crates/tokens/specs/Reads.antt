-- What a call answers that reads words, and may want memory.
use Rattle.std.specs.Prelude.{◌≡◌, Some, None, Option, Result, MatchResult}
use Rattle.tokens.specs.declared.error.WordError.{WordError}
use Rattle.tokens.specs.declared.error.WordError.TheVariants.{Malformed}

-- what is found, as view shows it, is what the words say; Malformed comes only where the words are bad; NoMemory may always come
abbrev pub ReadsOr : {X Y : Type 0} → Y → (X → Y) → Result X WordError → Y → Type 0
ReadsOr bad view r said = MatchResult r (λ x. view x ≡ said) (λ e. e ≡ Malformed → bad ≡ said)

-- the same, where bad words say None
abbrev pub Reads : {X Y : Type 0} → (X → Y) → Result X WordError → Option Y → Type 0
Reads view r said = ReadsOr None (λ x. Some (view x)) r said
