-- Reduction (01, "Powers and scales") and the smaller of two units (01, "The refusals", "Conversion, sums, comparison").
use Rattle.std.specs.Prelude.{Bool, List, [], ◌∷◌, pos, Float}
use Rattle.std.specs.Float.Ieee.{le}
use Rattle.exponents.specs.Outcome.{Outcome, apply, bind}
use Rattle.exponents.specs.declared.Exponent.{Exponent}
use Rattle.units.specs.declared.Prefix.TheVariants.{Metric}
use Rattle.units.specs.declared.Factor.{Factor}
use Rattle.units.specs.Lists.{pack}
use Rattle.tables.specs.declared.Slot.{Slot}
use Rattle.tables.specs.Lists.{base}
use Rattle.tables.specs.Rules.{Rules, scale_by}
use Rattle.canonical.specs.Canonical.{nonzero}
use Rattle.reduction.specs.declared.reduce.Reduced.{Reduced}

-- a base row to an exponent, prefix Metric(0)
abbrev pub base_factor : Slot → Exponent → Factor
base_factor s e = record { row = s.row; prefix = Metric (pos 0); exponent = e }

-- the base rows, in rank order, with their exponents
unfoldable pub base_factors : List Slot → List Exponent → List Factor
base_factors [] es = []
base_factors (s ∷ ss) [] = []
base_factors (s ∷ ss) (e ∷ es) = base_factor s e ∷ base_factors ss es

-- the nonzero base exponents as base factors in rank order
unfoldable pub reduced : List Slot → List Exponent → List Factor
reduced ss es = nonzero (base_factors ss es)

-- by the rules R
module _ (R : Rules Float) where
  -- a list reduced, with its scale: RANGE or DENOMINATOR, then FRACTION
  unfoldable pub reduction : List Slot → List Factor → Outcome (List Factor × Float)
  reduction ss l = bind (base R.bases l) (λ es. apply (λ s. (reduced ss es, s)) (scale_by R l))

  -- the scale of a list that is reduced: RANGE or DENOMINATOR of its base exponents, FRACTION of its scale
  unfoldable pub reduced_scale : List Factor → Outcome Float
  reduced_scale l = bind (base R.bases l) (λ es. scale_by R l)

  -- is the first list's scale at most the second's? A NaN scale is at most nothing, and nothing is at most it.
  unfoldable pub smaller_unit : List Factor → List Factor → Outcome Bool
  smaller_unit l m = bind (reduced_scale l) (λ s. apply (le s) (reduced_scale m))

-- a reduced list and its scale, as code holds them
abbrev pub reduced_of : Outcome (List Factor × Float) → Outcome Reduced
reduced_of = apply (λ p. record { unit = pack p.0; scale = p.1 })
