-- Combining many selections under one policy.
use Rattle.std.specs.Prelude.{◌≡◌, Bool, List}
use Rattle.rows.specs.Rules.{combine}

-- the same rows in any order and any bracketing, whatever the lengths; of equal rows, these rows
pub record AnyOrder (f : Bool → Bool → Bool) : Type 0 where
  pub brackets : (xs ys zs : List Bool) → combine f (combine f xs ys) zs ≡ combine f xs (combine f ys zs)
  pub order : (xs ys : List Bool) → combine f xs ys ≡ combine f ys xs
  pub twice : (xs : List Bool) → combine f xs xs ≡ xs
