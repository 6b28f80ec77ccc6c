-- Sum and difference of nonzero values (01, "Conversion, sums, comparison", "The refusals"): equal lists add values under self's list; else both go to self's list if its scale is at most the other's, otherwise (a NaN scale too) to the other's.
use Rattle.std.specs.Prelude.{Bool, true, false, List, Float}
use Rattle.std.specs.Float.{binary64}
use Rattle.std.specs.Float.Ieee.{add, sub}
use Rattle.exponents.specs.Words.{pick}
use Rattle.exponents.specs.Outcome.{Outcome, Ok, apply, bind}
use Rattle.units.specs.declared.Factor.{Factor}
use Rattle.units.specs.declared.Quantity.{Quantity}
use Rattle.tables.specs.Rules.{Rules}
use Rattle.canonical.specs.Equality as lists
use Rattle.reduction.specs.Reduction.{smaller_unit}
use Rattle.conversion.specs.Conversion.{convert}
use Rattle.values.specs.Quantities.{fresh}

abbrev pub combined : Bool → Float → Float → Float
combined true x y = sub binary64 x y
combined false x y = add binary64 x y

-- by the rules R
module _ (R : Rules Float) where
  -- both converted to the list u, self first
  unfoldable pub together : Bool → Float → Float → List Factor → List Factor → List Factor → Outcome Quantity
  together minus x y fs gs u =
      bind (convert R fs u x) (λ a.
      apply (λ b. fresh (combined minus a b) u) (convert R gs u y))

  -- RANGE or DENOMINATOR of the equality test, these and FRACTION of each list, then the conversions'
  unfoldable pub nonzero_sum : Bool → Float → Float → List Factor → List Factor → Outcome Quantity
  nonzero_sum minus x y fs gs =
      bind (lists.equal R.order fs gs) (λ same.
      pick same (Ok (fresh (combined minus x y) fs))
      (bind (smaller_unit R fs gs) (λ first. together minus x y fs gs (pick first fs gs))))
