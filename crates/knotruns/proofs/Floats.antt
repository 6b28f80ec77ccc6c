-- Tests of values as the code makes them.
use mathlib.Core.Path.{◌≡◌, refl}
use mathlib.Core.Bool.{true, false}
use lib.Ieee.{Float, nan, inf, fin, lt, binary64, of_bits}
use lib.Ieee.Scale.{finite}
use Rattle.std.specs.Float.{float_is_finite}

pub is_finite : (x : Float) → float_is_finite x ≡ finite x
unfolding float_is_finite
is_finite nan = refl
is_finite (inf s) = refl
is_finite (fin s m e) = refl

-- -∞, as `f64::NEG_INFINITY` gives it: nothing is below it
abbrev pub bottom : Float
bottom = of_bits binary64 0xfff0_0000_0000_0000

pub lowest : (x : Float) → lt x bottom ≡ false
unfolding lt of_bits
lowest nan = refl
lowest (inf true) = refl
lowest (inf false) = refl
lowest (fin s m e) = refl
