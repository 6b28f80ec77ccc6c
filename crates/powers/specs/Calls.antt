-- Powers of quantities (01, "The refusals", "Powers and scales"): the table is admitted, the lists are checked in argument order, then the exponent is converted to scalar.
use Rattle.std.specs.Prelude.{[], length}
use Rattle.exponents.specs.Outcome.{Outcome, bind}
use Rattle.units.specs.declared.Quantity.{Quantity}
use Rattle.units.specs.declared.Rows.{Rows}
use Rattle.units.specs.Lists.{both}
use Rattle.tables.specs.Rows.{table}
use Rattle.tables.specs.Rules.{rules_in}
use Rattle.conversion.specs.Conversion.{convert}
use Rattle.powers.specs.Powers.{raised_to}

module _ (t : Rows) where
  -- the exponent's conversion to scalar, ZERONEG, NONWHOLE, RANGE
  unfoldable pub checked_power : Quantity → Quantity → Outcome Quantity
  checked_power q p =
      bind (table t) (λ ks. bind (both (length ks) q.unit p.unit) (λ l.
      bind (convert (rules_in t ks) l.1 [] p.value) (λ x. raised_to q.value l.0 x)))
