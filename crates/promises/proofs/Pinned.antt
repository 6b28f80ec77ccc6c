-- Rules that the exponent algebra leaves free, pinned by closed cases of the public calls: one table of cases and one statement. A comment has the case, its rule, and another rule that would answer otherwise.
-- The answers are numbat's, run by host/oracle; where numbat can't be asked (the order of rows of one key, merging, RANGE) they are 01's. The oracle's pinned.py has the same cases in this order, and `replay` answers them again.
use mathlib.Core.Path.{◌≡◌, refl}
use mathlib.Core.Bool.{true, false}
use mathlib.Core.List.{List, [], ◌∷◌, ◌++◌, map}
use Prim.Native.Nat.{Ordering}
use Prim.Native.Nat.{ℕ}
use lib.IntN.{pos, negsuc}
use Rattle.exponents.specs.Outcome.{RANGE, UNITS, ZERONEG}
use Rattle.units.specs.declared.Prefix.TheVariants.{Metric, Binary}
use Rattle.units.specs.declared.Factor.{Factor}
use Rattle.units.specs.Lists.{pack}
use Rattle.reduction.specs.Multiple.{times}
use Rattle.promises.specs.Table.{factor, root, plain, gram, metre, second, bit, minute, hour, byte, newton, rows, table}
use Rattle.promises.specs.Shop.{percent, thread, are, inch, foot, pound, poundforce, steel, toughness, shop, pixel, sixteen}
use Rattle.promises.proofs.Saying.{Case, listed, reduces, same, multiplies, gives, orders, refuses, only, units, marked, unmarked, product, quotient, list_power, canonical, reduction, smaller_unit, is_multiple_of, reduce, convert_to, equal, compare, add, checked_power, full_simplify, full_simplify_with, computed}

-- ---- values by their bits, and a list met often

abbrev one : ℕ
one = 0x3ff0_0000_0000_0000

abbrev two : ℕ
two = 0x4000_0000_0000_0000

abbrev three : ℕ
three = 0x4008_0000_0000_0000

abbrev five : ℕ
five = 0x4014_0000_0000_0000

-- kilogram·metre·second^-2
abbrev force : List Factor
force = factor gram (Metric (pos 3)) (pos 1) ∷ plain metre (pos 1) ∷ plain second (negsuc 1) ∷ []

-- ---- the cases

cases : List Case
cases =
    -- ---- lists joined and raised
    -- metre·second times metre: joined, not merged
    (product table (units (metre ∷ second ∷ [])) (only metre), listed (units (metre ∷ second ∷ metre ∷ [])))
    -- metre·second over metre: joined with exponents negated, not merged
    ∷ (quotient table (units (metre ∷ second ∷ [])) (only metre), listed (plain metre (pos 1) ∷ plain second (pos 1) ∷ plain metre (negsuc 0) ∷ []))
    -- metre·second to the 0: zeros kept, not gone
    ∷ (list_power table (units (metre ∷ second ∷ [])) (pos 0), listed (plain metre (pos 0) ∷ plain second (pos 0) ∷ []))
    -- ---- the order of factors
    -- Binary(0) metre·Metric(3) metre: Metric before Binary, not Binary or n first
    ∷ (canonical table (factor metre (Binary (pos 0)) (pos 1) ∷ factor metre (Metric (pos 3)) (pos 1) ∷ []), listed (factor metre (Metric (pos 3)) (pos 1) ∷ factor metre (Binary (pos 0)) (pos 1) ∷ []))
    -- Metric(3) metre·Metric(1) metre·Metric(-3) metre: n rising, not falling or by magnitude
    ∷ (canonical table (factor metre (Metric (pos 3)) (pos 1) ∷ factor metre (Metric (pos 1)) (pos 1) ∷ factor metre (Metric (negsuc 2)) (pos 1) ∷ []), listed (factor metre (Metric (negsuc 2)) (pos 1) ∷ factor metre (Metric (pos 1)) (pos 1) ∷ factor metre (Metric (pos 3)) (pos 1) ∷ []))
    -- metre·newton: by key, not by rank first
    ∷ (canonical table (units (metre ∷ newton ∷ [])), listed (units (newton ∷ metre ∷ [])))
    -- newton·gram: a shorter beginning first, not a longer one
    ∷ (canonical table (units (newton ∷ gram ∷ [])), listed (units (gram ∷ newton ∷ [])))
    -- poundforce·steel: numbers by sign, not by magnitude
    ∷ (canonical shop (units (poundforce ∷ steel ∷ [])), listed (units (steel ∷ poundforce ∷ [])))
    -- thread·metre: the key's first number turned positive, not kept below zero
    ∷ (canonical shop (units (thread ∷ metre ∷ [])), listed (units (metre ∷ thread ∷ [])))
    -- metre·are: the key divided by its common divisor, not left as it is
    ∷ (canonical shop (units (metre ∷ are ∷ [])), listed (units (are ∷ metre ∷ [])))
    -- toughness·poundforce: the key made whole, not left in fractions
    ∷ (canonical shop (units (toughness ∷ poundforce ∷ [])), listed (units (poundforce ∷ toughness ∷ [])))
    -- second·hour·minute: rows of one key by rank, not by their numbers
    ∷ (canonical table (units (second ∷ hour ∷ minute ∷ [])), listed (units (minute ∷ hour ∷ second ∷ [])))
    -- hour·Metric(3) minute: by rank, not by prefix first
    ∷ (canonical table (plain hour (pos 1) ∷ factor minute (Metric (pos 3)) (pos 1) ∷ []), listed (factor minute (Metric (pos 3)) (pos 1) ∷ plain hour (pos 1) ∷ []))
    -- metre^2147483647·metre·metre^-1: merged from left to right, not from the right
    ∷ (canonical table (plain metre (pos 2147483647) ∷ plain metre (pos 1) ∷ plain metre (negsuc 0) ∷ []), refuses RANGE)
    -- ---- base exponents and scales
    -- metre·bit reduced: base factors by rank, not by the row's number
    ∷ (reduction table (units (metre ∷ bit ∷ [])), reduces (units (bit ∷ metre ∷ [])) one)
    -- pixel reduced: a sixteenth base row has its exponent, not none
    ∷ (reduction sixteen (only pixel), reduces (only pixel) one)
    -- inch·foot·pound reduced: 3.5116758411503994; multiplied from the left, not from the right
    ∷ (reduction shop (units (inch ∷ foot ∷ pound ∷ [])), reduces (plain gram (pos 1) ∷ plain metre (pos 2) ∷ []) 0x400c_17e9_80df_2770)
    -- poundforce reduced: 4448.2216152605; the factor times the definition's scale, not times its first factor
    ∷ (reduction shop (only poundforce), reduces (plain gram (pos 1) ∷ plain metre (pos 1) ∷ plain second (negsuc 1) ∷ []) 0x40b1_6038_bbc7_1824)
    -- Metric(-3) inch^2 reduced: 6.451600000000001e-10; prefix and row raised together, not apart
    ∷ (reduction shop (factor inch (Metric (negsuc 2)) (pos 2) ∷ []), reduces (plain metre (pos 2) ∷ []) 0x3e06_2ae3_2af4_c172)
    -- Metric(-3) newton^(1/2) reduced: a root of exactly 1 as prefix and row make it, not as each has it
    ∷ (reduction table (root newton (Metric (negsuc 2)) (pos 1) 2 ∷ []), reduces (root gram (Metric (pos 0)) (pos 1) 2 ∷ root metre (Metric (pos 0)) (pos 1) 2 ∷ plain second (negsuc 0) ∷ []) one)
    -- 5 hour reduced: 18000; the value times the scale, not divided by it
    ∷ (reduce table (marked five (only hour)), gives 0x40d1_9400_0000_0000 (pack (only second)) true)
    -- ---- conversion and equality
    -- 3 foot·inch to inch^2: 36; of two exponents above zero the smaller, not the larger
    ∷ (convert_to shop (marked three (units (foot ∷ inch ∷ []))) (plain inch (pos 2) ∷ []), gives 0x4042_0000_0000_0000 (pack (plain inch (pos 2) ∷ [])) true)
    -- 1 foot^-1·inch^-1 to inch^-2: 0.08333333333333334; of two below zero the larger, not the smaller
    ∷ (convert_to shop (marked one (plain foot (negsuc 0) ∷ plain inch (negsuc 0) ∷ [])) (plain inch (negsuc 1) ∷ []), gives 0x3fb5_5555_5555_5556 (pack (plain inch (negsuc 1) ∷ [])) true)
    -- 1 foot^2 to foot·inch: 11.999999999999998; common factors taken out of both, not left in
    ∷ (convert_to shop (marked one (plain foot (pos 2) ∷ [])) (units (foot ∷ inch ∷ [])), gives 0x4027_ffff_ffff_ffff (pack (units (foot ∷ inch ∷ []))) true)
    -- 1 foot^2·inch^-3 to inch^-1: 144; the own list as it is, not merged
    ∷ (convert_to shop (marked one (plain foot (pos 2) ∷ plain inch (negsuc 2) ∷ [])) (plain inch (negsuc 0) ∷ []), gives 0x4062_0000_0000_0000 (pack (plain inch (negsuc 0) ∷ [])) true)
    -- 1 inch^-3 to inch^-2·foot^-1: 11.999999999999998; the target merged, not as it is
    ∷ (convert_to shop (marked one (plain inch (negsuc 2) ∷ [])) (plain inch (negsuc 1) ∷ plain foot (negsuc 0) ∷ []), gives 0x4027_ffff_ffff_ffff (pack (plain inch (negsuc 1) ∷ plain foot (negsuc 0) ∷ [])) true)
    -- 3 foot to inch: 36; times the own scale and then divided, not times the quotient of both
    ∷ (convert_to shop (marked three (only foot)) (only inch), gives 0x4042_0000_0000_0000 (pack (only inch)) true)
    -- 1 inch·pound to pound·inch: 1; equal lists keep the value, not scaled and back
    ∷ (convert_to shop (marked one (units (inch ∷ pound ∷ []))) (units (pound ∷ inch ∷ [])), gives one (pack (units (pound ∷ inch ∷ []))) true)
    -- 36 inch equal to 3 foot: the second converted to the first's list, not the first
    ∷ (equal shop (marked 0x4042_0000_0000_0000 (only inch)) (marked three (only foot)), same true)
    -- 36 inch compared with 3 foot: the second converted to the first's list, not the first
    ∷ (compare shop (marked 0x4042_0000_0000_0000 (only inch)) (marked three (only foot)), orders Ordering.eq)
    -- 6 unmarked hour to minute: 360; the mark set afresh, not kept
    ∷ (convert_to table (unmarked 0x4018_0000_0000_0000 (only hour)) (only minute), gives 0x4076_8000_0000_0000 (pack (only minute)) true)
    -- ---- sums, and the smaller unit
    -- 1 hour + 30 minute: 90; the smaller scale, not self's
    ∷ (add table (marked one (only hour)) (marked 0x403e_0000_0000_0000 (only minute)), gives 0x4056_8000_0000_0000 (pack (only minute)) true)
    -- 30 minute + 1 hour: 90; the smaller scale, not the other's
    ∷ (add table (marked 0x403e_0000_0000_0000 (only minute)) (marked one (only hour)), gives 0x4056_8000_0000_0000 (pack (only minute)) true)
    -- 1 Binary(0) metre + 2 metre: 3; self on a tie, not the other
    ∷ (add table (marked one (factor metre (Binary (pos 0)) (pos 1) ∷ [])) (marked two (only metre)), gives three (pack (factor metre (Binary (pos 0)) (pos 1) ∷ [])) true)
    -- 1 second·metre + 2 metre·second: 3; equal lists as self is spelled, not as the other or in order
    ∷ (add table (marked one (units (second ∷ metre ∷ []))) (marked two (units (metre ∷ second ∷ []))), gives three (pack (units (second ∷ metre ∷ []))) true)
    -- 5 unmarked metre + 0 second: 5; self with its mark where the other is zero, not with a fresh one
    ∷ (add table (unmarked five (only metre)) (marked 0 (only second)), gives five (pack (only metre)) false)
    -- 0 metre + 0 unmarked second: 0; of two zeros the other, not self
    ∷ (add table (marked 0 (only metre)) (unmarked 0 (only second)), gives 0 (pack (only second)) false)
    -- 1 unmarked metre + 2 unmarked metre: 3; equal lists give a fresh mark, not one kept
    ∷ (add table (unmarked one (only metre)) (unmarked two (only metre)), gives three (pack (only metre)) true)
    -- the smaller of Binary(0) metre and metre: the first on a tie, not the second
    ∷ (smaller_unit table (factor metre (Binary (pos 0)) (pos 1) ∷ []) (only metre), listed (factor metre (Binary (pos 0)) (pos 1) ∷ []))
    -- the smaller of metre and Metric(-1100) metre·Metric(-1100) second^-1: a NaN scale answers the second, not the one that has a scale
    ∷ (smaller_unit table (only metre) (factor metre (Metric (negsuc 1099)) (pos 1) ∷ factor second (Metric (negsuc 1099)) (negsuc 0) ∷ []), listed (factor metre (Metric (negsuc 1099)) (pos 1) ∷ factor second (Metric (negsuc 1099)) (negsuc 0) ∷ []))
    -- ---- powers
    -- 0 metre to the -1 second: the exponent's conversion before ZERONEG, not after it
    ∷ (checked_power table (marked 0 (only metre)) (marked 0xbff0_0000_0000_0000 (only second)), refuses UNITS)
    -- 0 metre to the -0.5: ZERONEG before NONWHOLE, not after it
    ∷ (checked_power table (marked 0 (only metre)) (marked 0xbfe0_0000_0000_0000 []), refuses ZERONEG)
    -- 2 to the 2147483648: RANGE for the scalar too, not an answer
    ∷ (checked_power table (marked two []) (marked 0x41e0_0000_0000_0000 []), refuses RANGE)
    -- ---- multiples, one factor, groups
    -- 5 unmarked second·metre simplified: 5; without the mark as it is, not in order
    ∷ (full_simplify table (unmarked five (units (second ∷ metre ∷ []))), gives five (pack (units (second ∷ metre ∷ []))) false)
    -- hour·second^-1 as a multiple of the scalar: scalars are a multiple of one another, not none
    ∷ (is_multiple_of table (plain hour (pos 1) ∷ plain second (negsuc 0) ∷ []) [], multiplies (times (record { num = pos 1; den = 1 })))
    -- 2 hour·minute simplified: 120; the first factor in order that fits, not the last or the first given
    ∷ (full_simplify table (marked two (units (hour ∷ minute ∷ []))), gives 0x405e_0000_0000_0000 (pack (plain minute (pos 2) ∷ [])) true)
    -- 5 are·metre simplified: 500; a whole multiple, not any
    ∷ (full_simplify shop (marked five (units (are ∷ metre ∷ []))), gives 0x407f_4000_0000_0000 (pack (plain metre (pos 3) ∷ [])) true)
    -- 5 bit·byte·metre simplified: 40; base before derived, not the last of one exponent
    ∷ (full_simplify table (marked five (units (bit ∷ byte ∷ metre ∷ []))), gives 0x4044_0000_0000_0000 (pack (plain bit (pos 2) ∷ plain metre (pos 1) ∷ [])) true)
    -- 5 hour^3·second^-1·metre simplified: 233280000000; base before derived, not by exponent first
    ∷ (full_simplify table (marked five (plain hour (pos 3) ∷ plain second (negsuc 0) ∷ plain metre (pos 1) ∷ [])), gives 0x424b_2849_2800_0000 (pack (plain metre (pos 1) ∷ plain second (pos 2) ∷ [])) true)
    -- 5 minute^2·hour·metre simplified: 300; then the greater exponent, not the last
    ∷ (full_simplify table (marked five (plain minute (pos 2) ∷ plain hour (pos 1) ∷ plain metre (pos 1) ∷ [])), gives 0x4072_c000_0000_0000 (pack (plain metre (pos 1) ∷ plain minute (pos 3) ∷ [])) true)
    -- 5 minute^-1·hour^-2·metre simplified: 0.001388888888888889; the greater with its sign, not by magnitude
    ∷ (full_simplify table (marked five (plain minute (negsuc 0) ∷ plain hour (negsuc 1) ∷ plain metre (pos 1) ∷ [])), gives 0x3f56_c16c_16c1_6c17 (pack (plain metre (pos 1) ∷ plain minute (negsuc 2) ∷ [])) true)
    -- 5 minute·hour·metre simplified: 0.08333333333333333; the last on a tie, not the first
    ∷ (full_simplify table (marked five (units (minute ∷ hour ∷ metre ∷ []))), gives 0x3fb5_5555_5555_5555 (pack (plain metre (pos 1) ∷ plain hour (pos 2) ∷ [])) true)
    -- 5 metre·are·gram simplified: 500; exponents times the rows' own, not summed alone
    ∷ (full_simplify shop (marked five (units (metre ∷ are ∷ gram ∷ []))), gives 0x407f_4000_0000_0000 (pack (plain gram (pos 1) ∷ plain metre (pos 3) ∷ [])) true)
    -- 5 percent·metre·gram simplified: 0.05; a group of scalar base gone, not kept
    ∷ (full_simplify shop (marked five (units (percent ∷ metre ∷ gram ∷ []))), gives 0x3fa9_9999_9999_999a (pack (units (gram ∷ metre ∷ []))) true)
    -- 3 foot·metre·pound·gram simplified: 414.764863128; the value times the product of groups, not times one after the other
    ∷ (full_simplify shop (marked three (units (foot ∷ metre ∷ pound ∷ gram ∷ []))), gives 0x4079_ec3c_e11e_8ad2 (pack (plain gram (pos 2) ∷ plain metre (pos 2) ∷ [])) true)
    -- ---- the single base unit and candidates
    -- 5 newton·bit simplified with Binary(0) newton·bit: fewer factors than now, not as many
    ∷ (full_simplify_with table (marked five (units (newton ∷ bit ∷ []))) ((factor newton (Binary (pos 0)) (pos 1) ∷ plain bit (pos 1) ∷ []) ∷ []), gives five (pack (units (bit ∷ newton ∷ []))) true)
    -- 5 Metric(3) gram·metre·second^-2·bit simplified with newton·bit^2·bit^-1 or newton·bit: the fewest, not the first
    ∷ (full_simplify_with table (marked five (force ++ only bit)) ((plain newton (pos 1) ∷ plain bit (pos 2) ∷ plain bit (negsuc 0) ∷ []) ∷ units (newton ∷ bit ∷ []) ∷ []), gives five (pack (units (newton ∷ bit ∷ []))) true)
    -- 5 Metric(3) gram·metre·second^-2·bit simplified with newton·bit or bit·newton: the first on a tie, not the last
    ∷ (full_simplify_with table (marked five (force ++ only bit)) (units (newton ∷ bit ∷ []) ∷ units (bit ∷ newton ∷ []) ∷ []), gives five (pack (units (newton ∷ bit ∷ []))) true)
    -- 5 Metric(3) gram·metre·second^-2 simplified with newton or bit^2147483647·bit: one factor wins at once, not after a look at all
    ∷ (full_simplify_with table (marked five force) (only newton ∷ (plain bit (pos 2147483647) ∷ plain bit (pos 1) ∷ []) ∷ []), gives five (pack (only newton)) true)
    -- 5 Metric(3) gram·metre·second^-2 simplified with Metric(3) newton: a candidate of the same scale, not of any
    ∷ (full_simplify_with table (marked five force) ((factor newton (Metric (pos 3)) (pos 1) ∷ []) ∷ []), gives five (pack force) true)
    -- 5 Metric(-3) newton·gram^-1·metre^-1 simplified with Binary(0) second^-2: the single base unit before the candidates, not after them
    ∷ (full_simplify_with table (marked five (factor newton (Metric (negsuc 2)) (pos 1) ∷ plain gram (negsuc 0) ∷ plain metre (negsuc 0) ∷ [])) ((factor second (Binary (pos 0)) (negsuc 1) ∷ []) ∷ []), gives five (pack (plain second (negsuc 1) ∷ [])) true)
    -- 5 Metric(-3) newton^(1/4)·gram^(-1/4)·metre^(-1/4) simplified with no candidates: the single base unit to a whole exponent, not to any
    ∷ (full_simplify_with table (marked five (root newton (Metric (negsuc 2)) (pos 1) 4 ∷ root gram (Metric (pos 0)) (negsuc 0) 4 ∷ root metre (Metric (pos 0)) (negsuc 0) 4 ∷ [])) [], gives five (pack (root gram (Metric (pos 0)) (negsuc 0) 4 ∷ root newton (Metric (negsuc 2)) (pos 1) 4 ∷ root metre (Metric (pos 0)) (negsuc 0) 4 ∷ [])) true)
    -- 5 newton·gram^-1·metre^-1 simplified with no candidates: the single base unit of scale 1, not of any
    ∷ (full_simplify_with table (marked five (plain newton (pos 1) ∷ plain gram (negsuc 0) ∷ plain metre (negsuc 0) ∷ [])) [], gives five (pack (plain gram (negsuc 0) ∷ plain newton (pos 1) ∷ plain metre (negsuc 0) ∷ [])) true)
    ∷ []

pinned : map (λ (c : Case). c.0) cases ≡ map (λ (c : Case). c.1) cases
unfolding cases rows table shop sixteen computed
pinned = refl
