-- Knot vectors and span quotients over small tables that the definitions compute: one table of cases for each call, and one statement (readings 23 to 28).
use mathlib.Core.Path.{◌≡◌, refl}
use mathlib.Core.Bool.{true}
use mathlib.Core.List.{List, [], ◌∷◌, map}
use Prim.Native.Nat.{ℕ}
use lib.IntN.{pos, negsuc}
use lib.Ieee as ieee
use lib.Ieee.{Float, binary64, to_bits, of_bits}
use lib.ListN.{length, replicate}
use Rattle.exponents.specs.Outcome.{Outcome, Ok, Err, number, unless, bind, each}
use Rattle.exponents.specs.Held.{worked}
use Rattle.floats.specs.Power.{bits_of, raise, power}
use Rattle.units.specs.declared.Factor.{Factor}
use Rattle.units.specs.declared.Prefix.{Prefix}
use Rattle.units.specs.declared.Prefix.TheVariants.{Metric}
use Rattle.units.specs.declared.Kind.TheVariants.{Base, Derived}
use Rattle.units.specs.declared.Quantity.{Quantity}
use Rattle.units.specs.declared.Row.{Row}
use Rattle.units.specs.declared.Rows.{Rows}
use Rattle.units.specs.Lists.{pack, factor_fault, some, checked, both, with_exponent, joined, inverted}
use Rattle.lent.specs.Lent.{over, lent_rows_lem}
use Rattle.keys.specs.Key as keys
use Rattle.keys.specs.Key.{multiple, whole, wholes, divisor, below, turn, shrink, key, entry, entries, other, first}
use Rattle.keys.specs.Orders.{is_eq}
use Rattle.tables.specs.Lists.{base_at, base}
use Rattle.tables.specs.Scale.{raise as raisedBy, raised_to, scale_from_lem}
use Rattle.tables.specs.Rows.{exp_at, scale_at, places, placed, slotted, slots_from, is_base, count, kind_fault, table_fault, row_exps, row_scale, worked_out, row_facts, admit_from, admit}
use Rattle.tables.specs.Order.{key_order, row_order}
use Rattle.canonical.specs.Canonical.{place, insert, gather, nonzero, canon, same_list, same_all, all_nought, drop_if}
use Rattle.common.specs.Common.{meet, if_same, with_shared, shared_with_lem, common}
use Rattle.conversion.specs.Conversion.{judged, choose, rescaled, against, unlike, convert_by}
use Rattle.values.specs.Quantities.{made}
use Rattle.quantities.specs.Calls.{convert_merged, merged_value}
use Rattle.knotruns.specs.Values.{tolerable, argument_fault, endless, falls}
use Rattle.knotruns.specs.Runs.{Run, runs, runs_from, crowded, run_of, quotient_at}
use Rattle.knotruns.specs.Knots.{uncrowded, merged, vector, quotient}
use Rattle.knots.specs.Calls.{knot_vector, span_quotient}
use Rattle.knots.specs.declared.Rule.{Rule}
use Rattle.knotpromises.proofs.Words.{span_of}

-- ---- units: a row's number and a prefix, to an exponent n/d

abbrev unit : ℕ → Prefix → ℕ → ℕ → List Factor
unit r p n d = record { row = r; prefix = p; exponent = record { num = pos n; den = d } } ∷ []

abbrev plain : ℕ → List Factor
plain r = unit r (Metric (pos 0)) 1 1

abbrev milli : ℕ → List Factor
milli r = unit r (Metric (negsuc 2)) 1 1

-- to n/d
abbrev part : ℕ → ℕ → ℕ → List Factor
part r n d = unit r (Metric (pos 0)) n d

abbrev base_row : ℕ → Row
base_row rank = record { def = []; len = 0; rank = rank; kind = Base }

-- the factor by its bits
abbrev derived_row : ℕ → ℕ → List Factor → Row
derived_row rank bits l = record { def = l; len = length l; rank = rank; kind = Derived (of_bits binary64 bits) }

-- a value by its bits, in a unit
abbrev knot : ℕ → List Factor → Quantity
knot v l = made true (of_bits binary64 v) l

-- ---- numbers by their bits

abbrev nought : ℕ
nought = 0

abbrev minus_nought : ℕ
minus_nought = 0x8000_0000_0000_0000

abbrev half : ℕ
half = 0x3fe0_0000_0000_0000

abbrev one : ℕ
one = 0x3ff0_0000_0000_0000

abbrev minus_one : ℕ
minus_one = 0xbff0_0000_0000_0000

-- 1.2
abbrev twelve : ℕ
twelve = 0x3ff3_3333_3333_3333

abbrev three : ℕ
three = 0x4008_0000_0000_0000

abbrev sixty : ℕ
sixty = 0x404e_0000_0000_0000

-- 76.2
abbrev three_inches_in_mm : ℕ
three_inches_in_mm = 0x4053_0ccc_cccc_cccd

abbrev not_a_number : ℕ
not_a_number = 0x7ff8_0000_0000_0000

-- ---- metre and second; an inch of 0.0254 metre; a minute of 60 second

abbrev metre : ℕ
metre = 0

abbrev second : ℕ
second = 1

abbrev inch : ℕ
inch = 2

abbrev minute : ℕ
minute = 3

unfoldable metres : Rows
metres = lent_rows_lem (base_row 0 ∷ base_row 1 ∷ derived_row 2 0x3f9a_0275_2546_0aa6 (plain metre) ∷ derived_row 3 sixty (plain second) ∷ [])

-- 3 inch and 76.2 mm in metre: 0.07619999999999999 and 0.0762, a last place apart
abbrev low : ℕ
low = 0x3fb3_81d7_dbf4_87fc

abbrev high : ℕ
high = 0x3fb3_81d7_dbf4_87fd

-- and a last place below
abbrev lower : ℕ
lower = 0x3fb3_81d7_dbf4_87fb

-- 2 ^ -56, and twice as much
abbrev last_place : ℕ
last_place = 0x3c70_0000_0000_0000

abbrev two-places : ℕ
two-places = 0x3c80_0000_0000_0000

-- ---- over tenths of a millimetre: a millimetre is 10, an inch 254, a metre 10,000
unfoldable tenths : Rows
tenths = lent_rows_lem (base_row 0 ∷ derived_row 1 0x4024_0000_0000_0000 (plain 0) ∷ derived_row 2 0x406f_c000_0000_0000 (plain 0) ∷ derived_row 3 0x40c3_8800_0000_0000 (plain 0) ∷ [])

-- a row of factor 0
unfoldable broken : Rows
broken = lent_rows_lem (base_row 0 ∷ derived_row 1 nought (plain 0) ∷ [])

-- ---- vectors: 0 and the pairs of a value's bits and its multiplicity, or a refusal's number and none

abbrev ruled : List Factor → ℕ → ℕ → Rule
ruled l d t = record { unit = pack l; tolerance = of_bits binary64 t; degree = d }

abbrev shown : Outcome (List Run) → ℕ × List (ℕ × ℕ)
shown (Ok rs) = (0, map (λ r. (to_bits binary64 r.first, r.times)) rs)
shown (Err w) = (number w, [])

abbrev told : Outcome Float → ℕ × ℕ
told (Ok q) = (0, to_bits binary64 q)
told (Err w) = (number w, 0)

abbrev Case : Type 0
Case = (ℕ × List (ℕ × ℕ)) × (ℕ × List (ℕ × ℕ))

abbrev gives : Rows → List Quantity → List Factor → ℕ → ℕ → List (ℕ × ℕ) → Case
gives t ks l d x ps = (shown (knot_vector t ks (ruled l d x)), (0, ps))

abbrev refuses : Rows → List Quantity → List Factor → ℕ → ℕ → ℕ → Case
refuses t ks l d x r = (shown (knot_vector t ks (ruled l d x)), (r, []))

-- the knot that arrived twice
abbrev twice : List Quantity
twice = knot three (plain inch) ∷ knot three_inches_in_mm (milli metre) ∷ []

-- `unfolding computed` opens what the calls are worked out by
unfoldable computed : Unit {0}
unfolding metres tenths broken over lent_rows_lem unless bind each worked bits_of raise power ieee.add ieee.sub ieee.mul ieee.div ieee.eq ieee.lt ieee.le to_bits of_bits pack factor_fault some checked both with_exponent joined inverted base_at base multiple whole wholes divisor below turn shrink keys.reduce key entry entries other first raisedBy raised_to scale_from_lem exp_at scale_at places placed slotted slots_from is_base count kind_fault table_fault row_exps row_scale worked_out row_facts admit_from admit key_order row_order place insert gather drop_if nonzero canon is_eq same_list same_all all_nought meet if_same with_shared shared_with_lem common judged choose rescaled against unlike convert_by convert_merged merged_value tolerable argument_fault endless falls crowded runs runs_from uncrowded merged vector knot_vector quotient_at run_of quotient span_quotient
computed = tt

vectors : List Case
vectors =
    -- two knots with no tolerance; one with a last place
    gives metres twice (plain metre) 3 nought ((low, 1) ∷ (high, 1) ∷ [])
    ∷ gives metres twice (plain metre) 3 last_place ((low, 2) ∷ [])
    -- the other way round they fall, within the tolerance too
    ∷ refuses metres (knot three_inches_in_mm (milli metre) ∷ knot three (plain inch) ∷ []) (plain metre) 3 last_place 14
    -- behind a knot a last place lower they part, though they are no further from each other; a tolerance that holds all three keeps them in one run
    ∷ gives metres (knot lower (plain metre) ∷ twice) (plain metre) 3 last_place ((lower, 2) ∷ (high, 1) ∷ [])
    ∷ gives metres (knot lower (plain metre) ∷ twice) (plain metre) 3 two-places ((lower, 3) ∷ [])
    -- where no scale is rounded they are one value
    ∷ gives tenths (knot three (plain 2) ∷ knot three_inches_in_mm (plain 1) ∷ []) (plain 3) 3 nought ((high, 2) ∷ [])
    -- a zero converts to any unit; its bits stand
    ∷ gives metres (knot minus_nought (plain second) ∷ knot nought (plain metre) ∷ knot three (plain inch) ∷ []) (plain metre) 1 nought ((minus_nought, 2) ∷ (low, 1) ∷ [])
    -- 0, 60 cm, 1.2 m, tolerance 1 m: held against the run's first, not the knot before
    ∷ gives metres (knot nought (plain metre) ∷ knot sixty (unit metre (Metric (negsuc 1)) 1 1) ∷ knot twelve (plain metre) ∷ []) (plain metre) 3 one ((nought, 2) ∷ (twelve, 1) ∷ [])
    -- a fall at place 1, and a knot in another unit at place 2: UNITS
    ∷ refuses metres (knot one (plain metre) ∷ knot half (plain metre) ∷ knot one (plain second) ∷ []) (plain metre) 3 one 6
    -- minute^(1/2), then second^(2/4), to second^(1/2): the lowest knot's FRACTION, not SHAPE
    ∷ refuses metres (knot one (part minute 1 2) ∷ knot one (part second 2 4) ∷ []) (part second 1 2) 3 one 7
    -- three of a knot: MULTIPLE at degree 1, taken at 2
    ∷ refuses metres (knot three (plain inch) ∷ knot three (plain inch) ∷ knot three (plain inch) ∷ []) (plain metre) 1 nought 15
    ∷ gives metres (knot three (plain inch) ∷ knot three (plain inch) ∷ knot three (plain inch) ∷ []) (plain metre) 2 nought ((low, 3) ∷ [])
    -- TABLE, and ARGUMENT before it: no knots, 513; degree 0 and 10; tolerance NaN and -1; -0 is taken
    ∷ refuses broken (replicate 512 (knot one (plain 0))) (plain 0) 3 nought 1
    ∷ refuses broken (replicate 513 (knot one (plain 0))) (plain 0) 3 nought 16
    ∷ refuses broken [] (plain 0) 3 nought 16
    ∷ refuses broken twice (plain 0) 0 nought 16
    ∷ refuses broken twice (plain 0) 10 nought 16
    ∷ refuses broken twice (plain 0) 3 not_a_number 16
    ∷ refuses broken twice (plain 0) 3 minus_one 16
    ∷ refuses broken twice (plain 0) 3 minus_nought 1
    ∷ []

vectors_known : map (λ (c : Case). c.0) vectors ≡ map (λ (c : Case). c.1) vectors
unfolding vectors computed
vectors_known = refl

-- ---- quotients in metre, at degree 3: 0 and the quotient's bits, or a refusal's number and 0

abbrev SpanCase : Type 0
SpanCase = (ℕ × ℕ) × (ℕ × ℕ)

abbrev divides : List Quantity → ℕ → ℕ → ℕ → ℕ → SpanCase
divides ks t i x q = (told (span_quotient metres ks (span_of (ruled (plain metre) 3 t) i (of_bits binary64 x))), (0, q))

abbrev refuses_span : List Quantity → ℕ → ℕ → ℕ → ℕ → SpanCase
refuses_span ks t i x r = (told (span_quotient metres ks (span_of (ruled (plain metre) 3 t) i (of_bits binary64 x))), (r, 0))

-- 3 inch, 76.2 mm, 1 metre
abbrev thrice : List Quantity
thrice = knot three (plain inch) ∷ knot three_inches_in_mm (milli metre) ∷ knot one (plain metre) ∷ []

spans : List SpanCase
spans =
    -- between the spellings, with no tolerance: one last place over one
    divides twice nought 0 low nought
    ∷ divides twice nought 0 high one
    -- with a last place the span is merged: +0 for every x, NaN too
    ∷ divides twice last_place 0 high nought
    ∷ divides twice last_place 0 not_a_number nought
    -- the next span's left end is the run's first, 3 inch
    ∷ divides thrice last_place 1 low nought
    ∷ divides thrice last_place 1 one one
    ∷ divides thrice last_place 1 not_a_number not_a_number
    -- no span there; a knot that doesn't convert, and a fall, come first
    ∷ refuses_span thrice last_place 2 low 16
    ∷ refuses_span (knot one (plain metre) ∷ []) nought 0 low 16
    ∷ refuses_span (knot one (plain second) ∷ []) nought 7 low 6
    ∷ refuses_span (knot one (plain metre) ∷ knot half (plain metre) ∷ []) nought 7 low 14
    ∷ []

spans_known : map (λ (c : SpanCase). c.0) spans ≡ map (λ (c : SpanCase). c.1) spans
unfolding spans computed
spans_known = refl
