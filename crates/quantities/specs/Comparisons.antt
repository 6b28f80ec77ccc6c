-- Equality and order of values, once the second is converted (01, "Conversion, sums, comparison", "The refusals").
use Rattle.std.specs.Prelude.{Bool, false, ◌||◌, eqb, Float}
use Prim.Native.Nat.{Ordering}
use Rattle.std.specs.Float.Ieee.{is_nan, lt, eq}
use Rattle.exponents.specs.Words.{pick}
use Rattle.exponents.specs.Outcome.{Outcome, Ok, Err, UNITS, NAN, number, unless, apply}
use Rattle.keys.specs.Held.{sense_of}
use Rattle.std.specs.declared.cmp.Ordering as cmp

-- equality answers no on UNITS, and no if either value is then a NaN
unfoldable pub equal_to : Float → Outcome Float → Outcome Bool
equal_to x (Ok y) = Ok (eq x y)
equal_to x (Err r) = pick (eqb (number r) (number UNITS)) (Ok false) (Err r)

-- the order of two values: NAN where one is a NaN
unfoldable pub ordered : Float → Float → Outcome Ordering
ordered x y = unless (is_nan x || is_nan y) NAN (Ok (pick (lt x y) Ordering.lt (pick (eq x y) Ordering.eq Ordering.gt)))

-- how code hands it over
abbrev pub compared_of : Outcome Ordering → Outcome cmp.Ordering
compared_of = apply sense_of
