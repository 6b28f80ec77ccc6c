-- The calls on lists over a table (01, "The refusals", "Canonical form", "Powers and scales", "Simplification"): the table is admitted, the lists are checked in argument order, then the call's own work is done.
use Rattle.std.specs.Prelude.{Bool, List, Float, length}
use Rattle.exponents.specs.Words.{pick}
use Rattle.exponents.specs.Outcome.{Outcome, apply, bind}
use Rattle.exponents.specs.declared.Exponent.{Exponent}
use Rattle.units.specs.declared.Factor.{Factor}
use Rattle.units.specs.declared.Factors.{Factors}
use Rattle.units.specs.declared.Rows.{Rows}
use Rattle.units.specs.Lists as lists
use Rattle.units.specs.Lists.{checked, both}
use Rattle.tables.specs.Rows.{table, base_rows}
use Rattle.tables.specs.Rules.{rules_in}
use Rattle.canonical.specs.Canonical.{canon}
use Rattle.canonical.specs.Equality as equality
use Rattle.reduction.specs.Multiple.{Maybe, is_multiple}
use Rattle.reduction.specs.Reduction as reductions

module _ (t : Rows) where
  -- lists joined, unmerged
  unfoldable pub product : Factors → Factors → Outcome (List Factor)
  product a b = bind (table t) (λ ks. lists.product (length ks) a b)

  unfoldable pub quotient : Factors → Factors → Outcome (List Factor)
  quotient a b = bind (table t) (λ ks. lists.quotient (length ks) a b)

  unfoldable pub list_power : Factors → Exponent → Outcome (List Factor)
  list_power a e = bind (table t) (λ ks. lists.list_power (length ks) a e)

  -- factors in the order of their rows' keys and ranks, then prefixes; merged; zeros gone
  unfoldable pub canonical : Factors → Outcome (List Factor)
  canonical a = bind (table t) (λ ks. bind (checked (length ks) a) (λ fs. canon (rules_in t ks).order fs))

  -- is the canonical form the same? RANGE or DENOMINATOR of the first, then of the second
  unfoldable pub same_lists : Factors → Factors → Outcome Bool
  same_lists a b = bind (table t) (λ ks. bind (both (length ks) a b) (λ p. equality.equal (rules_in t ks).order p.0 p.1))

  -- the base factors in rank order, and the scale
  unfoldable pub reduction : Factors → Outcome (List Factor × Float)
  reduction a = bind (table t) (λ ks. bind (checked (length ks) a) (λ fs. reductions.reduction (rules_in t ks) (base_rows t) fs))

  -- the first if its scale is at most the second's
  unfoldable pub smaller_unit : Factors → Factors → Outcome (List Factor)
  smaller_unit a b = bind (table t) (λ ks. bind (both (length ks) a b) (λ p. apply (λ first. pick first p.0 p.1) (reductions.smaller_unit (rules_in t ks) p.0 p.1)))

  unfoldable pub multiple : Factors → Factors → Outcome Maybe
  multiple a b = bind (table t) (λ ks. bind (both (length ks) a b) (λ p. is_multiple (rules_in t ks).bases p.0 p.1))
