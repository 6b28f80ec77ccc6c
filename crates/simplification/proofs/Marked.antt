-- The call by its mark: without it the quantity as it is, with it the three steps.
use mathlib.Core.Path.{◌≡◌, ap}
use mathlib.Core.Bool.{Bool, false}
use mathlib.Core.List.{List}
use Rattle.exponents.specs.Outcome.{Outcome, Ok, apply}
use Rattle.units.specs.declared.Factor.{Factor}
use Rattle.units.specs.declared.Quantity.{Quantity}
use Rattle.units.specs.declared.Rows.{Rows}
use Rattle.exponents.specs.Words.{pick}
use Rattle.tables.specs.Rows.{Facts}
use Rattle.lists.proofs.Checks.{Call1}
use Rattle.values.specs.Quantities.{made}
use Rattle.tables.specs.Rules.{rules_in}
use Rattle.simplification.specs.Steps.{quantity_of, simplify}
use Rattle.simplification.specs.Calls.{full_simplify}

module _ (t : Rows) (q : Quantity) where
  -- what the call does with the list, under a mark
  abbrev pub work : Bool → List Facts → List Factor → Outcome Quantity
  work m ks fs = pick m (apply quantity_of (simplify (rules_in t ks) q.value fs)) (Ok (made false q.value fs))

  pub by_mark : (m : Bool) → q.mark ≡ m → full_simplify t q ≡ Call1 t q.unit (work m)
  unfolding full_simplify
  by_mark m e = ap (λ m. Call1 t q.unit (work m)) e
