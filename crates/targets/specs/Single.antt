-- One factor to a whole exponent (01, "Simplification", second step): each factor of a canonical list is taken at exponent 1 and raised to the multiple, if `is_multiple_of` gives a whole one; the first that fits ends the search.
use Rattle.std.specs.Prelude.{List, [], ◌∷◌, ℕ, eqb, ltb, length}
use Rattle.exponents.specs.Words.{pick}
use Rattle.exponents.specs.Outcome.{Outcome, Ok, bind}
use Rattle.exponents.specs.Fractions.{unit}
use Rattle.exponents.specs.declared.Exponent.{Exponent}
use Rattle.units.specs.declared.Factor.{Factor}
use Rattle.tables.specs.Order.{atom, of}
use Rattle.reduction.specs.Multiple.{Maybe, times, none, is_multiple}

-- the factor to a whole multiple; else what follows
unfoldable pub wholly : Factor → Maybe → Outcome (List Factor) → Outcome (List Factor)
wholly f (times q) next = pick (eqb q.den 1) (Ok (of (atom f) q ∷ [])) next
wholly f none next = next

-- bs are the base rows' exponents
module _ (bs : List (ℕ → Exponent)) where
  -- among the factors l of the list c: the target, no factor where none fits
  unfoldable pub search : List Factor → List Factor → Outcome (List Factor)
  search c [] = Ok []
  search c (f ∷ l) = bind (is_multiple bs c (of (atom f) unit ∷ [])) (λ m. wholly f m (search c l))

  -- with two or more factors
  unfoldable pub single : List Factor → Outcome (List Factor)
  single c = pick (ltb 1 (length c)) (search c c) (Ok [])
