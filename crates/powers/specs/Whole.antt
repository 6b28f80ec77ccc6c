-- A value as a whole exponent (01, "The refusals"): NONWHOLE if it isn't whole, NaN and infinities too; RANGE beyond ±2147483647.
use Rattle.std.specs.Prelude.{Bool, not, ◌||◌, ℤ, from_bits, Float}
use Rattle.std.specs.Float.{binary64}
use Rattle.std.specs.Float.Ieee.{rem, eq, le, to_signed}
use Rattle.exponents.specs.Outcome.{Outcome, Ok, NONWHOLE, RANGE, unless}
use Rattle.floats.specs.Power.{one}

abbrev pub zero : Float
zero = from_bits binary64 0

-- ±2147483647
abbrev pub most : Float
most = from_bits binary64 0x41df_ffff_ffc0_0000

abbrev pub least : Float
least = from_bits binary64 0xc1df_ffff_ffc0_0000

-- nothing is left by a division by 1
unfoldable pub is_whole : Float → Bool
is_whole x = eq (rem binary64 x one) zero

unfoldable pub is_beyond : Float → Bool
is_beyond x = not (le x most) || not (le least x)

unfoldable pub whole_exponent : Float → Outcome ℤ
whole_exponent x = unless (not (is_whole x)) NONWHOLE (unless (is_beyond x) RANGE (Ok (to_signed 63 x)))
