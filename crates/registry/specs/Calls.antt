-- Simplification with candidates (01, "Simplification", "The refusals"): the table is admitted, the list and the candidates are checked in argument order, before the call's own work; without the mark the quantity is unchanged.
use Rattle.std.specs.Prelude.{false, length}
use Rattle.exponents.specs.Words.{pick}
use Rattle.exponents.specs.Outcome.{Outcome, Ok, apply, bind}
use Rattle.units.specs.declared.Candidates.{Candidates}
use Rattle.units.specs.declared.Quantity.{Quantity}
use Rattle.units.specs.declared.Rows.{Rows}
use Rattle.units.specs.Lists.{checked}
use Rattle.tables.specs.Rows.{table, base_rows}
use Rattle.tables.specs.Rules.{rules_in}
use Rattle.values.specs.Quantities.{made}
use Rattle.simplification.specs.Steps.{quantity_of, simplify}
use Rattle.registry.specs.Registry.{candidate_lists, registered}

unfoldable pub full_simplify_with : Rows → Quantity → Candidates → Outcome Quantity
full_simplify_with t q c =
    bind (table t) (λ ks. bind (checked (length ks) q.unit) (λ fs. bind (candidate_lists (length ks) c) (λ ms.
    pick q.mark (apply quantity_of (bind (simplify (rules_in t ks) q.value fs) (registered (rules_in t ks) (base_rows t) ms)))
    (Ok (made false q.value fs)))))
