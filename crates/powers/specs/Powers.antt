-- The power of a value and its list (01, "The refusals", "Powers and scales", last sentence of "Canonical form"), once the exponent is a scalar: ZERONEG, NONWHOLE, RANGE.
use Rattle.std.specs.Prelude.{◌&&◌, List, ℤ, Float}
use Rattle.std.specs.Float.Ieee.{lt}
use Rattle.exponents.specs.Outcome.{Outcome, ZERONEG, unless, apply, bind, each}
use Rattle.exponents.specs.declared.Exponent.{Exponent}
use Rattle.floats.specs.Power.{power}
use Rattle.floats.specs.Values.{is_zero}
use Rattle.units.specs.declared.Factor.{Factor}
use Rattle.units.specs.declared.Quantity.{Quantity}
use Rattle.units.specs.Lists.{raised}
use Rattle.values.specs.Quantities.{fresh}
use Rattle.powers.specs.Whole.{zero, whole_exponent}

-- n / 1
abbrev pub over1 : ℤ → Exponent
over1 n = record { num = n; den = 1 }

unfoldable pub raised_to : Float → List Factor → Float → Outcome Quantity
raised_to v fs x =
    unless (is_zero v && lt x zero) ZERONEG
    (bind (whole_exponent x) (λ n. apply (λ l. fresh (power v n) l) (each (raised (over1 n)) fs)))
