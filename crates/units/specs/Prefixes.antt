-- Prefixes: their rule and their factor (01, "Records and sizes", "Powers and scales"), and what the factor takes (02, order 5).
use Rattle.std.specs.Prelude.{Bool, ◌||◌, ℕ, ℤ, pos, negsuc, Float}
use Rattle.std.specs.Int.Signed.{lt_z}
use Rattle.std.specs.Float.{binary64}
use Rattle.std.specs.Float.Ieee.{of_bits}
use Rattle.exponents.specs.Outcome.{Outcome, Ok, SHAPE, unless}
use Rattle.floats.specs.Power.{power, power_count}
use Rattle.units.specs.declared.Prefix.{Prefix}
use Rattle.units.specs.declared.Prefix.TheVariants.{Metric, Binary}

-- n beyond -1100 to 1100
abbrev pub number_fault : ℤ → Bool
number_fault n = lt_z n (negsuc 1099) || lt_z (pos 1100) n

abbrev pub prefix_fault : Prefix → Bool
prefix_fault (Metric n) = number_fault n
prefix_fault (Binary n) = number_fault n

-- the factor of a prefix, by the power rule: 10 or 2 to the n
abbrev pub factor_of : Prefix → Float
factor_of (Metric n) = power (of_bits binary64 0x4024_0000_0000_0000) n
factor_of (Binary n) = power (of_bits binary64 0x4000_0000_0000_0000) n

-- the multiplications of that power
abbrev pub factor_count : Prefix → ℕ
factor_count (Metric n) = power_count n
factor_count (Binary n) = power_count n

-- the call on any prefix
unfoldable pub prefix_factor : Prefix → Outcome Float
prefix_factor p = unless (prefix_fault p) SHAPE (Ok (factor_of p))
