-- Reductions, smaller units and multiples computed from the definitions: three tables, each with its one statement. What is expected was worked out by hand from 01; each statement computes it from the definitions.
use mathlib.Core.Path.{◌≡◌, refl}
use mathlib.Core.Bool.{Bool, true, false}
use mathlib.Core.List.{List, [], ◌∷◌, map}
use Prim.Native.Nat.{ℕ, compare}
use lib.Dec.{ltb, eqb}
use lib.IntN.{ℤ, pos, negsuc}
use lib.Ieee.{Float, binary64, nan, mul, div, eq, le, to_bits, of_bits}
use lib.ListN.{get_or}
use Rattle.exponents.specs.Outcome.{Outcome, Ok, Err, RANGE, FRACTION, each, apply}
use Rattle.exponents.specs.Fractions.{nought}
use Rattle.exponents.specs.Held.{worked}
use Rattle.exponents.specs.declared.Exponent.{Exponent}
use Rattle.floats.specs.Power.{one, bits_of, raise, power}
use Rattle.units.specs.declared.Prefix.TheVariants.{Metric}
use Rattle.units.specs.declared.Factor.{Factor}
use Rattle.tables.specs.declared.Slot.{Slot}
use Rattle.keys.specs.Key.{first}
use Rattle.tables.specs.Lists.{base_at, base}
use Rattle.tables.specs.Scale.{doubles, raise as raisedBy, raised_to, scale_from_lem, size_by}
use Rattle.tables.specs.Order.{order}
use Rattle.tables.specs.Rules.{Rules}
use Rattle.tables.specs.Rows.{places}
use Rattle.canonical.specs.Canonical.{drop_if, nonzero, same_all, all_nought}
use Rattle.reduction.specs.Reduction.{base_factors, reduced, reduction, reduced_scale, smaller_unit}
use Rattle.reduction.specs.Multiple.{Maybe, times, none, first_base, fits, multiple_of, is_multiple}

-- ---- rows 0 to 2 are gram, metre and second; then newton, minute, hour, and a row of no dimension whose scale is a NaN
abbrev over : ℤ → ℕ → Exponent
over n d = record { num = n; den = d }

abbrev by : ℤ → ℤ → ℤ → List Exponent
by g m s = over g 1 ∷ over m 1 ∷ over s 1 ∷ []

abbrev float : ℕ → Float
float n = of_bits binary64 n

abbrev exps : ℕ → List Exponent
exps r = get_or (by (pos 1) (pos 0) (pos 0) ∷ by (pos 0) (pos 1) (pos 0) ∷ by (pos 0) (pos 0) (pos 1) ∷ by (pos 1) (pos 1) (negsuc 1) ∷ by (pos 0) (pos 0) (pos 1) ∷ by (pos 0) (pos 0) (pos 1) ∷ by (pos 0) (pos 0) (pos 0) ∷ []) r []

-- base rows and sizes are all that is looked at
abbrev rules : Rules Float
rules = record {
  order = order compare;
  bases = map (λ j r. get_or (exps r) j nought) (places 0 3);
  numbers = doubles;
  size = size_by (λ r. get_or (one ∷ one ∷ one ∷ float 0x408f_4000_0000_0000 ∷ float 0x404e_0000_0000_0000 ∷ float 0x40ac_2000_0000_0000 ∷ nan ∷ []) r nan);
  alike = eqb;
  is_base = λ r. ltb r 3;
  lead = λ r. first (exps r);
}

abbrev slots : List Slot
slots = record { row = 0; rank = 2 } ∷ record { row = 1; rank = 5 } ∷ record { row = 2; rank = 7 } ∷ []

-- a prefix, a row, an exponent
abbrev with : ℤ → ℕ → ℤ → ℕ → Factor
with p r n d = record { row = r; prefix = Metric p; exponent = over n d }

abbrev to : ℕ → ℤ → Factor
to r n = with (pos 0) r n 1

-- ---- lists reduced, with the bits of their scales
abbrev Row : Type 0
Row = List Factor × Outcome (List Factor × ℕ)

abbrev reduced_as : List Factor → Outcome (List Factor × ℕ)
reduced_as l = apply (λ (p : List Factor × Float). (p.0, to_bits binary64 p.1)) (reduction rules slots l)

-- newton; its half, which isn't whole, and that of a millinewton, which is exactly 1; kilometre per hour; minute squared; what cancels, and the scalar; RANGE before FRACTION
lists : List Row
lists =
    (to 3 (pos 1) ∷ [], Ok (to 0 (pos 1) ∷ to 1 (pos 1) ∷ to 2 (negsuc 1) ∷ [], 0x408f_4000_0000_0000))
    ∷ (with (pos 0) 3 (pos 1) 2 ∷ [], Err FRACTION)
    ∷ (with (negsuc 2) 3 (pos 1) 2 ∷ [], Ok (with (pos 0) 0 (pos 1) 2 ∷ with (pos 0) 1 (pos 1) 2 ∷ to 2 (negsuc 0) ∷ [], 0x3ff0_0000_0000_0000))
    ∷ (with (pos 3) 1 (pos 1) 1 ∷ to 5 (negsuc 0) ∷ [], Ok (to 1 (pos 1) ∷ to 2 (negsuc 0) ∷ [], 0x3fd1_c71c_71c7_1c72))
    ∷ (to 4 (pos 1) ∷ to 4 (pos 1) ∷ [], Ok (to 2 (pos 2) ∷ [], 0x40ac_2000_0000_0000))
    ∷ (to 1 (pos 1) ∷ to 1 (negsuc 0) ∷ [], Ok ([], 0x3ff0_0000_0000_0000))
    ∷ ([], Ok ([], 0x3ff0_0000_0000_0000))
    ∷ (with (pos 0) 3 (pos 1) 2 ∷ to 2 (pos 2147483647) ∷ to 2 (pos 2) ∷ [], Err RANGE)
    ∷ []

reductions_known : map (λ (r : Row). reduced_as r.0) lists ≡ map (λ (r : Row). r.1) lists
unfolding lists worked each base_at base places raisedBy raised_to scale_from_lem power raise bits_of mul div eq to_bits of_bits drop_if nonzero base_factors reduced reduction
reductions_known = refl

-- ---- is the first unit's scale at most the second's?
abbrev Pair : Type 0
Pair = List Factor × List Factor

-- lesser, greater, equal; a NaN on either side; refusals: the first unit's before the second's, RANGE before FRACTION
pairs : List (Pair × Outcome Bool)
pairs =
    ((to 4 (pos 1) ∷ [], to 5 (pos 1) ∷ []), Ok true)
    ∷ ((to 5 (pos 1) ∷ [], to 4 (pos 1) ∷ []), Ok false)
    ∷ ((to 5 (pos 1) ∷ [], to 4 (pos 2) ∷ []), Ok true)
    ∷ ((to 6 (pos 1) ∷ [], to 4 (pos 1) ∷ []), Ok false)
    ∷ ((to 4 (pos 1) ∷ [], to 6 (pos 1) ∷ []), Ok false)
    ∷ ((with (pos 0) 3 (pos 1) 2 ∷ [], to 4 (pos 2147483647) ∷ to 2 (pos 1) ∷ []), Err FRACTION)
    ∷ ((to 4 (pos 1) ∷ [], with (pos 0) 3 (pos 1) 2 ∷ to 1 (pos 2147483647) ∷ []), Err RANGE)
    ∷ []

smaller_known : map (λ (r : Pair × Outcome Bool). smaller_unit rules r.0.0 r.0.1) pairs ≡ map (λ (r : Pair × Outcome Bool). r.1) pairs
unfolding pairs worked each base_at base places raisedBy raised_to scale_from_lem power raise bits_of mul div eq le of_bits reduced_scale smaller_unit
smaller_known = refl

-- ---- multiples
abbrev whole : ℤ → Outcome Maybe
whole n = Ok (times (over n 1))

abbrev part : ℤ → ℕ → Outcome Maybe
part n d = Ok (times (over n d))

-- those that the Rust lists; the scalar on either side; newton; RANGE of the quotient, and of a product behind one that differs; a half of newton, which has no FRACTION
multiples-of : List (Pair × Outcome Maybe)
multiples-of =
    ((to 1 (pos 2) ∷ [], to 1 (pos 1) ∷ []), whole (pos 2))
    ∷ ((to 1 (pos 1) ∷ [], to 1 (pos 3) ∷ []), part (pos 1) 3)
    ∷ ((to 1 (pos 3) ∷ [], to 1 (pos 2) ∷ []), part (pos 3) 2)
    ∷ ((to 1 (pos 2) ∷ to 2 (pos 2) ∷ [], to 1 (pos 1) ∷ to 2 (pos 1) ∷ []), whole (pos 2))
    ∷ ((to 1 (pos 1) ∷ [], with (pos 3) 1 (pos 1) 1 ∷ []), whole (pos 1))
    ∷ ((to 2 (negsuc 1) ∷ [], to 5 (pos 1) ∷ []), whole (negsuc 1))
    ∷ ((to 1 (pos 1) ∷ [], to 2 (pos 1) ∷ []), Ok none)
    ∷ ((to 1 (pos 1) ∷ [], to 1 (pos 1) ∷ to 2 (pos 1) ∷ []), Ok none)
    ∷ ((to 1 (pos 1) ∷ to 2 (pos 2) ∷ [], to 1 (pos 2) ∷ to 2 (pos 2) ∷ []), Ok none)
    ∷ (([], to 1 (pos 1) ∷ []), Ok none)
    ∷ ((to 1 (pos 1) ∷ [], []), Ok none)
    ∷ (([], to 6 (pos 1) ∷ []), whole (pos 1))
    ∷ ((to 3 (pos 1) ∷ [], to 2 (negsuc 1) ∷ to 1 (pos 1) ∷ to 0 (pos 1) ∷ []), whole (pos 1))
    ∷ ((to 0 (pos 2147483647) ∷ [], with (pos 0) 0 (pos 1) 2 ∷ []), Err RANGE)
    ∷ ((to 0 (pos 2147483647) ∷ to 1 (pos 1) ∷ [], to 0 (pos 1) ∷ to 1 (pos 1) ∷ to 2 (pos 2) ∷ []), Err RANGE)
    ∷ ((with (pos 0) 3 (pos 1) 2 ∷ [], to 3 (pos 1) ∷ []), part (pos 1) 2)
    ∷ []

multiples-known : map (λ (r : Pair × Outcome Maybe). is_multiple rules.bases r.0.0 r.0.1) multiples-of ≡ map (λ (r : Pair × Outcome Maybe). r.1) multiples-of
unfolding multiples-of worked each base_at base places same_all all_nought first_base fits multiple_of is_multiple
multiples-known = refl
