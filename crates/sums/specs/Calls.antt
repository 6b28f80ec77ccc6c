-- Sum and difference of quantities (01, "Conversion, sums, comparison", "The refusals"): the table is admitted, the lists are checked in argument order, zeros are looked at before units.
use Rattle.std.specs.Prelude.{Bool, true, false, List, length}
use Rattle.std.specs.Float.Ieee.{neg}
use Rattle.exponents.specs.Words.{pick}
use Rattle.exponents.specs.Outcome.{Outcome, Ok, bind}
use Rattle.floats.specs.Values.{is_zero}
use Rattle.units.specs.declared.Factor.{Factor}
use Rattle.units.specs.declared.Quantity.{Quantity}
use Rattle.units.specs.declared.Rows.{Rows}
use Rattle.units.specs.Lists.{both}
use Rattle.tables.specs.Rows.{table}
use Rattle.tables.specs.Rules.{rules_in}
use Rattle.values.specs.Quantities.{made, fresh}
use Rattle.sums.specs.Sums.{nonzero_sum}

module _ (t : Rows) where
  -- self zero gives `lead`, else other zero gives self, mark kept
  unfoldable pub summed : Bool → (List Factor → Quantity) → Quantity → Quantity → Outcome Quantity
  summed minus lead q p =
      bind (table t) (λ ks. bind (both (length ks) q.unit p.unit) (λ l.
      pick (is_zero q.value) (Ok (lead l.1))
      (pick (is_zero p.value) (Ok (made q.mark q.value l.0))
      (nonzero_sum (rules_in t ks) minus q.value p.value l.0 l.1))))

  -- the other, mark kept
  unfoldable pub add : Quantity → Quantity → Outcome Quantity
  add q p = summed false (made p.mark p.value) q p

  -- the other negated, with a fresh mark
  unfoldable pub subtract : Quantity → Quantity → Outcome Quantity
  subtract q p = summed true (fresh (neg p.value)) q p
