-- Counted conversions over two small tables that the definitions compute: one table of cases, and one statement (readings 30 and 31); then both bounds, met.
use mathlib.Core.Path.{◌≡◌, refl}
use mathlib.Core.Bool.{true}
use mathlib.Core.List.{List, [], ◌∷◌, ◌++◌, map}
use Prim.Native.Nat.{ℕ}
use lib.IntN.{ℤ, pos, negsuc}
use lib.Ieee as ieee
use lib.Ieee.{binary64, to_bits, of_bits}
use lib.ListN.{length}
use Rattle.exponents.specs.Outcome.{Outcome, unless, bind, each, refusal_of}
use Rattle.exponents.specs.Held.{worked}
use Rattle.floats.specs.Power.{bits_of, raise, power, multiplications}
use Rattle.units.specs.declared.Factor.{Factor}
use Rattle.units.specs.declared.Prefix.{Prefix}
use Rattle.units.specs.declared.Prefix.TheVariants.{Metric, Binary}
use Rattle.units.specs.declared.Kind.TheVariants.{Base, Derived}
use Rattle.units.specs.declared.Row.{Row}
use Rattle.units.specs.declared.Rows.{Rows}
use Rattle.units.specs.Lists.{pack, factor_fault, some, checked, both, with_exponent, inverted}
use Rattle.lent.specs.Lent.{over, lent_rows_lem}
use Rattle.keys.specs.Key as keys
use Rattle.keys.specs.Key.{multiple, whole, wholes, divisor, below, turn, shrink, key, entry, entries, other, first}
use Rattle.keys.specs.Orders.{is_eq}
use Rattle.tables.specs.Lists.{base_at, base}
use Rattle.tables.specs.Scale.{raise as raisedBy, raised_to, scale_from_lem}
use Rattle.tables.specs.Rows.{exp_at, scale_at, places, placed, slotted, slots_from, is_base, count, kind_fault, table_fault, row_exps, row_scale, worked_out, row_facts, admit_from, admit}
use Rattle.tables.specs.Order.{key_order, row_order}
use Rattle.canonical.specs.Canonical.{place, insert, gather, nonzero, canon, same_list, same_all, all_nought, drop_if}
use Rattle.common.specs.Common.{meet, if_same, with_shared, shared_with_lem, common}
use Rattle.conversion.specs.Conversion.{judged, choose, rescaled, against, unlike, convert_by}
use Rattle.values.specs.Quantities.{made}
use Rattle.counted.specs.Calls.{convert_to_counted, convert_merged_counted, counted_of}
use Rattle.counted.specs.declared.Counted.{Counted}
use Rattle.countpromises.proofs.Counts.{multiplied}

-- ---- units

-- row r with a prefix, to n/d
abbrev unit : ℕ → Prefix → ℤ → ℕ → Factor
unit r p n d = record { row = r; prefix = p; exponent = record { num = n; den = d } }

abbrev plain : ℕ → Factor
plain r = unit r (Metric (pos 0)) (pos 1) 1

abbrev kilo : ℕ → ℤ → ℕ → Factor
kilo r n d = unit r (Metric (pos 3)) n d

abbrev base_row : ℕ → Row
base_row rank = record { def = []; len = 0; rank = rank; kind = Base }

-- the factor by its bits
abbrev derived_row : ℕ → ℕ → List Factor → Row
derived_row rank bits l = record { def = l; len = length l; rank = rank; kind = Derived (of_bits binary64 bits) }

-- ---- second and metre; a minute of 60 second; the numbers 0.001 and 1 as units
abbrev second : ℕ
second = 0

abbrev metre : ℕ
metre = 1

abbrev minute : ℕ
minute = 2

abbrev thousandth : ℕ
thousandth = 3

abbrev whole-one : ℕ
whole-one = 4

abbrev one : ℕ
one = 0x3ff0_0000_0000_0000

unfoldable minutes : Rows
minutes = lent_rows_lem (base_row 0 ∷ base_row 1 ∷ derived_row 2 0x404e_0000_0000_0000 (plain second ∷ []) ∷ derived_row 3 0x3f50_624d_d2f1_a9fc [] ∷ derived_row 4 one [] ∷ [])

-- ---- eight units that are the number 1: each with four prefixes whose powers take 19, all to one exponent
unfoldable ones : Rows
ones = lent_rows_lem (derived_row 0 one [] ∷ derived_row 1 one [] ∷ derived_row 2 one [] ∷ derived_row 3 one [] ∷ derived_row 4 one [] ∷ derived_row 5 one [] ∷ derived_row 6 one [] ∷ derived_row 7 one [] ∷ [])

abbrev four : ℕ → ℕ → List Factor
four r n = unit r (Metric (pos 1023)) (pos n) 1 ∷ unit r (Metric (negsuc 1022)) (pos n) 1 ∷ unit r (Binary (pos 1023)) (pos n) 1 ∷ unit r (Binary (negsuc 1022)) (pos n) 1 ∷ []

abbrev sixteen : ℕ → ℕ → ℕ → ℕ → ℕ → List Factor
sixteen a b c d n = four a n ++ four b n ++ four c n ++ four d n

-- ---- cases: a refusal's number or 0, and the count, by 01's rule and by order 3's

abbrev Case : Type 0
Case = ((ℕ × ℕ) × (ℕ × ℕ)) × ((ℕ × ℕ) × (ℕ × ℕ))

abbrev shown : Outcome Counted → ℕ × ℕ
shown o = (refusal_of o, multiplied o)

-- a value by its bits, from one list to another
abbrev both_ways : Rows → ℕ → List Factor → List Factor → (ℕ × ℕ) × (ℕ × ℕ)
both_ways t v l m = (shown (counted_of (convert_to_counted t (made true (of_bits binary64 v) l) (pack m))), shown (counted_of (convert_merged_counted t (made true (of_bits binary64 v) l) (pack m))))

abbrev takes : Rows → ℕ → List Factor → List Factor → ℕ → ℕ → Case
takes t v l m old new = (both_ways t v l m, ((0, old), (0, new)))

abbrev refuses : Rows → ℕ → List Factor → List Factor → ℕ → Case
refuses t v l m r = (both_ways t v l m, ((r, 0), (r, 0)))

-- `unfolding computed` opens what the calls are worked out by
unfoldable computed : Unit {0}
unfolding minutes ones over lent_rows_lem unless bind each worked bits_of raise power multiplications ieee.mul ieee.div ieee.eq to_bits of_bits pack factor_fault some checked both with_exponent inverted base_at base multiple whole wholes divisor below turn shrink keys.reduce key entry entries other first raisedBy raised_to scale_from_lem exp_at scale_at places placed slotted slots_from is_base count kind_fault table_fault row_exps row_scale worked_out row_facts admit_from admit key_order row_order place insert gather drop_if nonzero canon is_eq same_list same_all all_nought meet if_same with_shared shared_with_lem common judged choose rescaled against unlike convert_by convert_to_counted convert_merged_counted
computed = tt

cases : List Case
cases =
    -- reading 30: 5 minute·km^0 to second; the prefix of a zero exponent is counted
    takes minutes 0x4014_0000_0000_0000 (plain minute ∷ kilo metre (pos 0) 1 ∷ []) (plain second ∷ []) 5 2
    -- 1/r is none: minute^-1 takes 1, and so does second^-1
    ∷ takes minutes one (unit minute (Metric (pos 0)) (negsuc 0) 1 ∷ []) (unit second (Metric (pos 0)) (negsuc 0) 1 ∷ []) 2 2
    -- a common factor: minute·metre to second·metre, old minute, metre, 1/metre and second
    ∷ takes minutes one (plain minute ∷ plain metre ∷ []) (plain second ∷ plain metre ∷ []) 4 2
    -- one power takes 61, with such a prefix 80; a prefix to a zero exponent 19
    ∷ takes minutes one (unit whole-one (Metric (pos 0)) (pos 2147483647) 1 ∷ []) [] 61 61
    ∷ takes minutes one (unit whole-one (Binary (negsuc 1022)) (pos 2147483647) 1 ∷ []) [] 80 80
    ∷ takes minutes one (unit metre (Binary (negsuc 1022)) (pos 0) 1 ∷ plain minute ∷ []) (plain second ∷ []) 21 2
    -- a thousand thousandths are exactly 1: to 1/2 they take their prefix and no power
    ∷ takes minutes one (kilo thousandth (pos 1) 2 ∷ []) [] 3 3
    -- the shortcuts: a zero, to other base exponents too; equal lists, in another order, and but for a zero exponent
    ∷ takes minutes 0x8000_0000_0000_0000 (kilo minute (pos 1) 1 ∷ []) (plain metre ∷ []) 0 0
    ∷ takes minutes one (plain minute ∷ kilo metre (pos 1) 1 ∷ []) (kilo metre (pos 1) 1 ∷ plain minute ∷ []) 0 0
    ∷ takes minutes one (kilo metre (pos 0) 1 ∷ []) [] 0 0
    -- refusals: FRACTION of the target, after the own scale took 4; UNITS; UNKNOWN
    ∷ refuses minutes one (kilo second (pos 1) 1 ∷ []) (unit minute (Metric (pos 0)) (pos 1) 2 ∷ unit second (Metric (pos 0)) (pos 1) 2 ∷ []) 7
    ∷ refuses minutes one (kilo second (pos 1) 1 ∷ []) (plain metre ∷ []) 6
    ∷ refuses minutes one (kilo second (pos 1) 1 ∷ []) (plain 5 ∷ []) 3
    ∷ []

cases_known : map (λ (c : Case). c.0) cases ≡ map (λ (c : Case). c.1) cases
unfolding cases computed
cases_known = refl

-- THEOREM: the bounds are met: 32 different factors of 80 take 2,560 by either rule; three of 78 at each of 16, which are shared, take 3,744 by 01's
met : List Case
met = takes ones one (sixteen 0 1 2 3 2147483647) (sixteen 4 5 6 7 2147483647) 2560 2560 ∷ takes ones one (sixteen 0 1 2 3 1073741823) (sixteen 0 1 2 3 2147483646) 3744 1248 ∷ []

met_known : map (λ (c : Case). c.0) met ≡ map (λ (c : Case). c.1) met
unfolding met computed
met_known = refl
