-- The knot vector and the span quotient (02, order 4): knots are quantities, each converted by order 3's rule to the unit of a rule, lowest place first.
use Rattle.std.specs.Prelude.{List, map, ℕ, Float, length}
use Rattle.exponents.specs.Outcome.{Outcome}
use Rattle.units.specs.declared.Factors.{Factors}
use Rattle.units.specs.declared.Quantity.{Quantity}
use Rattle.units.specs.declared.Rows.{Rows}
use Rattle.quantities.specs.Calls.{merged_value}
use Rattle.wire.specs.Bytes.{run_at}
use Rattle.wire.specs.Records.{quantity_at}
use Rattle.wire.specs.Arguments.{many_in}
use Rattle.knotruns.specs.Runs.{Run}
use Rattle.knotruns.specs.Knots.{vector, quotient}
use Rattle.knots.specs.declared.Rule.{Rule}
use Rattle.knots.specs.declared.Span.{Span}

-- knots lie in bytes, one quantity behind the other; bytes that are no whole number of them are one more than there may be
unfoldable pub knots_in : List ℕ → List Quantity
knots_in s = run_at quantity_at 336 (many_in 336 512 (length s)) s 0

module _ (t : Rows) where
  -- the knots' values in the unit m, or refusals
  abbrev pub conversions : List Quantity → Factors → List (Outcome Float)
  conversions ks m = map (λ q. merged_value t q m) ks

  unfoldable pub knot_vector : List Quantity → Rule → Outcome (List Run)
  knot_vector ks u = vector (conversions ks u.unit) u.degree u.tolerance

  -- of x, in the span whose left knot is at a place
  unfoldable pub span_quotient : List Quantity → Span → Outcome Float
  span_quotient ks s = quotient (conversions ks s.rule.unit) s.rule.degree s.rule.tolerance s.at s.x
