-- The scale of a list (01, "Powers and scales"): 1 times, from left to right, each size to its exponent. A scale other than 1 that meets an exponent that isn't whole is FRACTION. It is said over the numbers that it is worked out with: 01's, or such that carry the multiplications they took (02, order 5).
use Rattle.std.specs.Prelude.{Bool, true, false, List, [], ◌∷◌, ℕ, ◌+◌, ℤ, pos, eqb, Float}
use Rattle.std.specs.Float.{binary64}
use Rattle.std.specs.Float.Ieee.{mul, div}
use Rattle.exponents.specs.Outcome.{Outcome, Ok, Err, FRACTION, bind}
use Rattle.floats.specs.Power as powers
use Rattle.floats.specs.Power.{tally, power_count}
use Rattle.floats.specs.declared.Tally.{Tally}
use Rattle.floats.specs.Values as values
use Rattle.exponents.specs.declared.Exponent.{Exponent}
use Rattle.units.specs.declared.Factor.{Factor}
use Rattle.units.specs.Prefixes.{factor_of, factor_count}

-- what values and scales are worked out with; `power` is the power rule
pub record Numbers (R : Type 0) : Type 0 where
  pub one : R
  pub times : R → R → R
  pub divide : R → R → R
  pub power : R → ℤ → R
  pub exactly_one : R → Bool
  pub is_zero : R → Bool

-- 01's numbers: IEEE 754 binary64
abbrev pub doubles : Numbers Float
doubles = record {
  one = powers.one;
  times = mul binary64;
  divide = div binary64;
  power = powers.power;
  exactly_one = values.exactly_one;
  is_zero = values.is_zero;
}

-- 02, order 5: the same numbers, each with the multiplications inside the power rule that it took. A power adds its own; a product and a quotient add none to those of both.
abbrev pub counting : Numbers Float → Numbers Tally
counting N = record {
  one = tally N.one 0;
  times = λ x y. tally (N.times x.value y.value) (x.count + y.count);
  divide = λ x y. tally (N.divide x.value y.value) (x.count + y.count);
  power = λ x n. tally (N.power x.value n) (x.count + power_count n);
  exactly_one = λ x. N.exactly_one x.value;
  is_zero = λ x. N.is_zero x.value;
}

module _ {R : Type 0} where
  -- p is the power to a whole exponent; else exactly 1 gives 1
  unfoldable pub raise : Bool → Bool → R → R → Outcome R
  raise true one? p u = Ok p
  raise false true p u = Ok u
  raise false false p u = Err FRACTION

-- a to the e; the 1 that exactly 1 gives is its power to 0
unfoldable pub raised_to : {R : Type 0} → Numbers R → R → Exponent → Outcome R
raised_to N a e = raise (eqb e.den 1) (N.exactly_one a) (N.power a e.num) (N.power a (pos 0))

-- `size` is what is raised: a prefix's factor times its row's scale, rounded
module _ {R : Type 0} (N : Numbers R) (size : Factor → R) where
  -- s times the scale of a list
  unfoldable pub scale_from_lem : R → List Factor → Outcome R
  scale_from_lem s [] = Ok s
  scale_from_lem s (f ∷ l) = bind (raised_to N (size f) f.exponent) (λ p. scale_from_lem (N.times s p) l)

  abbrev pub scale : List Factor → Outcome R
  scale l = scale_from_lem N.one l

-- the size of a factor where its row has the scale s
abbrev pub size_by : (ℕ → Float) → Factor → Float
size_by s f = mul binary64 (factor_of f.prefix) (s f.row)

-- 02, order 5: that size has taken the power of its prefix; its row's scale is in hand
abbrev pub counted_size : (Factor → Float) → Factor → Tally
counted_size size f = tally (size f) (factor_count f.prefix)
