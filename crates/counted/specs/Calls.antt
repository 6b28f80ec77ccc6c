-- Conversion of quantities with the multiplications that it takes inside the power rule, prefix powers included (02, order 5): by 01's rule, and by order 3's. It is the definition of conversion over numbers that carry a count; row scales are in hand, so nothing done for the table's rows is counted.
use Rattle.std.specs.Prelude.{List, ℕ, length}
use Rattle.exponents.specs.Outcome.{Outcome, apply, bind}
use Rattle.floats.specs.Power.{tally}
use Rattle.floats.specs.declared.Tally.{Tally}
use Rattle.units.specs.declared.Factor.{Factor}
use Rattle.units.specs.declared.Factors.{Factors}
use Rattle.units.specs.declared.Quantity.{Quantity}
use Rattle.units.specs.declared.Rows.{Rows}
use Rattle.units.specs.Lists.{both}
use Rattle.tables.specs.Rows.{table}
use Rattle.tables.specs.Rules.{Rules, rules_in, counted}
use Rattle.conversion.specs.Conversion.{convert, cancelling}
use Rattle.values.specs.Quantities.{fresh}
use Rattle.counted.specs.declared.Counted.{Counted}

module _ (t : Rows) where
  -- by f, which converts numbers between lists by a table's rules
  abbrev pub count_with_lem : (Rules Tally → List Factor → List Factor → Tally → Outcome Tally) → Quantity → Factors → Outcome (Quantity × ℕ)
  count_with_lem f q m = bind (table t) (λ ks. bind (both (length ks) q.unit m) (λ p. apply (λ v. (fresh v.value p.1, v.count)) (f (counted (rules_in t ks)) p.0 p.1 (tally q.value 0))))

  unfoldable pub convert_to_counted : Quantity → Factors → Outcome (Quantity × ℕ)
  convert_to_counted = count_with_lem (λ R. convert R)

  unfoldable pub convert_merged_counted : Quantity → Factors → Outcome (Quantity × ℕ)
  convert_merged_counted = count_with_lem (λ R. cancelling R)

-- how code hands it over
abbrev pub counted_of : Outcome (Quantity × ℕ) → Outcome Counted
counted_of = apply (λ p. record { quantity = p.0; count = p.1 })
