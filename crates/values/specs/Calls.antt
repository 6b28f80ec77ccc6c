-- The calls on quantities that convert nothing (01, "What we take", "Powers and scales", "The refusals", "Canonical form"): the table is admitted, the lists are checked in argument order, then the call's own work is done.
use Rattle.std.specs.Prelude.{false, List, map, length}
use Rattle.std.specs.Float.{binary64}
use Rattle.std.specs.Float.Ieee.{mul, div, neg}
use Rattle.exponents.specs.Outcome.{Outcome, DIVZERO, unless, apply, bind}
use Rattle.floats.specs.Values.{is_zero, abs_of}
use Rattle.units.specs.declared.Factor.{Factor}
use Rattle.units.specs.declared.Factors.{Factors}
use Rattle.units.specs.declared.Quantity.{Quantity}
use Rattle.units.specs.declared.Rows.{Rows}
use Rattle.units.specs.Lists.{checked, both, joined, inverted}
use Rattle.tables.specs.Rows.{table}
use Rattle.lists.specs.Calls as lists
use Rattle.values.specs.Quantities.{made, fresh}

module _ (t : Rows) where
  -- a list of the table
  unfoldable pub listed : Factors → Outcome (List Factor)
  listed l = bind (table t) (λ ks. checked (length ks) l)

  -- ---- one quantity

  unfoldable pub negate : Quantity → Outcome Quantity
  negate q = apply (fresh (neg q.value)) (listed q.unit)

  unfoldable pub magnitude : Quantity → Outcome Quantity
  magnitude q = apply (fresh (abs_of q.value)) (listed q.unit)

  unfoldable pub no_simplify : Quantity → Outcome Quantity
  no_simplify q = apply (made false q.value) (listed q.unit)

  -- the value is multiplied by the list's scale
  unfoldable pub reduce : Quantity → Outcome Quantity
  reduce q = apply (λ p. fresh (mul binary64 q.value p.1) p.0) (lists.reduction t q.unit)

  -- ---- product and quotient

  unfoldable pub multiply : Quantity → Quantity → Outcome Quantity
  multiply q p = apply (fresh (mul binary64 q.value p.value)) (lists.product t q.unit p.unit)

  -- DIVZERO, then ROOM
  unfoldable pub checked_div : Quantity → Quantity → Outcome Quantity
  checked_div q p =
      bind (table t) (λ ks. bind (both (length ks) q.unit p.unit) (λ l.
      unless (is_zero p.value) DIVZERO
      (apply (fresh (div binary64 q.value p.value)) (joined l.0 (map inverted l.1)))))
