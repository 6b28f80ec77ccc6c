-- Base exponents of a list (01, "Powers and scales"): for each base row, in rank order, the sum of exponent times the row's base exponent.
use Rattle.std.specs.Prelude.{List, ℕ}
use Rattle.exponents.specs.Outcome.{Outcome, each}
use Rattle.exponents.specs.Fractions.{nought, mul?, sum?}
use Rattle.exponents.specs.declared.Exponent.{Exponent}
use Rattle.units.specs.declared.Factor.{Factor}

-- b has each row's exponent at one base row: products and partial sums tested, from left to right
unfoldable pub base_at : List Factor → (ℕ → Exponent) → Outcome Exponent
base_at l b = sum? (λ f. mul? f.exponent (b f.row)) nought l

-- bs has these for every base row, in rank order
unfoldable pub base : List (ℕ → Exponent) → List Factor → Outcome (List Exponent)
base bs l = each (base_at l) bs
