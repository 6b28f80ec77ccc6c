-- How code works exponents out and hands them over. No rule stands here: nothing that a call promises names these.
use Rattle.std.specs.Prelude.{Bool, true, false, not, ℕ, ℤ, pos, neg_ℤ, ◌*ℤ◌}
use Rattle.std.specs.Int.Signed.{le_z}
use Rattle.exponents.specs.Outcome.{Outcome, unless, bind}
use Rattle.exponents.specs.Gcd.{gcd, euclid, lcm}
use Rattle.exponents.specs.Fractions.{lowest, add, mul, neg, invert, div, less, same_z, same, beyond, faulty, ranged, sum?, lcm?}
use Rattle.exponents.specs.declared.Exponent.{Exponent}

-- ---- a signed number given as a sign and a magnitude

abbrev pub xor : Bool → Bool → Bool
xor true b = not b
xor false b = b

-- m, or -m where the sign is set
abbrev pub with_sign : Bool → ℕ → ℤ
with_sign true m = neg_ℤ (pos m)
with_sign false m = pos m

-- ---- the order and the negative

unfoldable pub at_most : Exponent → Exponent → Bool
at_most x y = le_z (x.num *ℤ pos y.den) (y.num *ℤ pos x.den)

abbrev pub neg? : Exponent → Outcome Exponent
neg? x = ranged (lowest (neg_ℤ x.num) x.den)

-- `unfolding worked` opens what exponents compute with
unfoldable pub worked : Unit {0}
unfolding gcd euclid lcm lowest add mul neg invert div less at_most same_z same beyond faulty unless bind ranged sum? lcm?
worked = tt
