-- Conversion of a value from the list l to the list m (01, "Conversion, sums, comparison", "The refusals"), each step in 01's order; and that in which factors cancel on both sides (02, order 3). The answer is the value; its list is m as it is spelled.
use Rattle.std.specs.Prelude.{Bool, true, false, ◌||◌, List}
use Rattle.exponents.specs.Outcome.{Outcome, Ok, Err, UNITS, apply, bind}
use Rattle.units.specs.declared.Factor.{Factor}
use Rattle.tables.specs.Lists.{base}
use Rattle.tables.specs.Rules.{Rules, scale_by}
use Rattle.canonical.specs.Canonical.{canon, same_list, same_all}
use Rattle.common.specs.Common.{common, over}

module _ {A : Type 0} where
  -- unlike base exponents
  unfoldable pub judged : Bool → Outcome A → Outcome A
  judged true o = o
  judged false o = Err UNITS

  -- equal lists or a zero keep their value
  unfoldable pub choose : Bool → A → Outcome A → Outcome A
  choose true v o = Ok v
  choose false v o = o

-- a list as it stands
abbrev pub standing : List Factor → Outcome (List Factor)
standing l = Ok l

-- by the rules R
module _ {A : Type 0} (R : Rules A) where
  -- own scale, then target scale: the value times the one, divided by the other
  unfoldable pub rescaled : List Factor → List Factor → A → Outcome A
  rescaled own target v = bind (scale_by R own) (λ s. apply (λ t. R.numbers.divide (R.numbers.times v s) t) (scale_by R target))

  -- a value of the list `own`, reduced, against the target: both must have the same base exponents. `own` is worked out before the target is made.
  unfoldable pub against : List Factor → Outcome (List Factor) → A → Outcome A
  against own target v =
      bind (base R.bases own) (λ x.
      bind target (λ t.
      bind (base R.bases t) (λ y.
      judged (same_all x y) (rescaled own t v))))

  -- lists that differ, with the common factors c: the own list over them is made ready, then the target over them is made canonical
  unfoldable pub unlike : (List Factor → Outcome (List Factor)) → List Factor → List Factor → List Factor → A → Outcome A
  unlike ready c l m v = bind (ready (over l c)) (λ own. against own (canon R.order (over m c)) v)

  -- `ready` is how the own list over the common factors is made ready for its base exponents and its scale
  unfoldable pub convert_by : (List Factor → Outcome (List Factor)) → List Factor → List Factor → A → Outcome A
  convert_by ready l m v =
      bind (canon R.order l) (λ cl.
      bind (canon R.order m) (λ cm.
      choose (R.numbers.is_zero v || same_list R.order cl cm) v (unlike ready (common R.order cl cm) l m v)))

  -- 01: it stays as it stands, and is NOT merged
  abbrev pub convert : List Factor → List Factor → A → Outcome A
  convert = convert_by standing

  -- 02, order 3: it is merged too, into its canonical form, so that factors cancel on both sides
  abbrev pub cancelling : List Factor → List Factor → A → Outcome A
  cancelling = convert_by (canon R.order)
