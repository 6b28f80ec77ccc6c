-- Simplification of quantities (01, "Simplification", "The refusals"): the table is admitted and the list is checked; without the mark the quantity is unchanged.
use Rattle.std.specs.Prelude.{false, length}
use Rattle.exponents.specs.Words.{pick}
use Rattle.exponents.specs.Outcome.{Outcome, Ok, apply, bind}
use Rattle.units.specs.declared.Quantity.{Quantity}
use Rattle.units.specs.declared.Rows.{Rows}
use Rattle.units.specs.Lists.{checked}
use Rattle.tables.specs.Rows.{table}
use Rattle.tables.specs.Rules.{rules_in}
use Rattle.values.specs.Quantities.{made}
use Rattle.simplification.specs.Steps.{quantity_of, simplify}

unfoldable pub full_simplify : Rows → Quantity → Outcome Quantity
full_simplify t q =
    bind (table t) (λ ks. bind (checked (length ks) q.unit) (λ fs.
    pick q.mark (apply quantity_of (simplify (rules_in t ks) q.value fs))
    (Ok (made false q.value fs))))
