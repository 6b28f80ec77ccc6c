-- Conversion and comparison of quantities (01, "Conversion, sums, comparison", "The refusals"): the table is admitted, the lists are checked in argument order, then the call's own work is done.
use Rattle.std.specs.Prelude.{Bool, ◌||◌, List, Float, length}
use Prim.Native.Nat.{Ordering}
use Rattle.std.specs.Float.Ieee.{is_nan}
use Rattle.exponents.specs.Outcome.{Outcome, NAN, unless, apply, bind}
use Rattle.units.specs.declared.Factor.{Factor}
use Rattle.units.specs.declared.Factors.{Factors}
use Rattle.units.specs.declared.Quantity.{Quantity}
use Rattle.units.specs.declared.Rows.{Rows}
use Rattle.units.specs.Lists.{both}
use Rattle.tables.specs.Rows.{table}
use Rattle.tables.specs.Rules.{Rules, rules_in}
use Rattle.conversion.specs.Conversion.{convert, cancelling}
use Rattle.values.specs.Quantities.{fresh}
use Rattle.quantities.specs.Comparisons.{equal_to, ordered}

module _ (t : Rows) where
  -- ---- conversion

  -- by f, which converts values between lists by a table's rules
  abbrev pub convert_with : (Rules Float → List Factor → List Factor → Float → Outcome Float) → Quantity → Factors → Outcome Quantity
  convert_with f q m = bind (table t) (λ ks. bind (both (length ks) q.unit m) (λ p. apply (λ v. fresh v p.1) (f (rules_in t ks) p.0 p.1 q.value)))

  unfoldable pub convert_to : Quantity → Factors → Outcome Quantity
  convert_to = convert_with (λ R. convert R)

  -- 02, order 3
  unfoldable pub convert_merged : Quantity → Factors → Outcome Quantity
  convert_merged = convert_with (λ R. cancelling R)

  -- its value alone
  unfoldable pub merged_value : Quantity → Factors → Outcome Float
  merged_value q m = apply (λ p. p.value) (convert_merged q m)

  -- ---- comparison: the second is converted to the first's list

  unfoldable pub equal : Quantity → Quantity → Outcome Bool
  equal q p =
      bind (table t) (λ ks. bind (both (length ks) q.unit p.unit) (λ l.
      equal_to q.value (convert (rules_in t ks) l.1 l.0 p.value)))

  -- NAN of an operand, the conversion's refusal, NAN after it
  unfoldable pub compare : Quantity → Quantity → Outcome Ordering
  compare q p =
      bind (table t) (λ ks. bind (both (length ks) q.unit p.unit) (λ l.
      unless (is_nan q.value || is_nan p.value) NAN
      (bind (convert (rules_in t ks) l.1 l.0 p.value) (λ y. ordered q.value y))))
