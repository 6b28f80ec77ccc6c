-- Factors that cancel on both sides (02, order 3), pinned by closed cases of `convert_merged`, most of them beside `convert_to`: one table of cases and one statement.
use mathlib.Core.Path.{◌≡◌, refl}
use mathlib.Core.Bool.{true}
use mathlib.Core.List.{List, [], ◌∷◌, ◌++◌, map}
use Prim.Native.Nat.{ℕ}
use lib.IntN.{pos, negsuc}
use Rattle.exponents.specs.Outcome.{RANGE, UNITS, FRACTION, DENOMINATOR}
use Rattle.units.specs.declared.Prefix.TheVariants.{Metric}
use Rattle.units.specs.declared.Factor.{Factor}
use Rattle.units.specs.declared.Row.{Row}
use Rattle.units.specs.declared.Rows.{Rows}
use Rattle.units.specs.Lists.{pack}
use Rattle.lent.specs.Lent.{lent_rows_lem}
use Rattle.promises.specs.Table.{factor, root, plain, base_row, derived_row}
use Rattle.promises.proofs.Saying.{Says, Case, gives, refuses, only, units, marked, convert_to, convert_merged, computed}

-- ---- metre, second; minute = 60 second, hour = 60 minute; short, middle and long, 0.1, 0.3 and 0.7 metre; tower = metre^65536
abbrev metre : ℕ
metre = 0

abbrev second : ℕ
second = 1

abbrev minute : ℕ
minute = 2

abbrev hour : ℕ
hour = 3

abbrev short : ℕ
short = 4

abbrev middle : ℕ
middle = 5

abbrev long : ℕ
long = 6

abbrev tower : ℕ
tower = 7

abbrev one : ℕ
one = 0x3ff0_0000_0000_0000

abbrev sixty : ℕ
sixty = 0x404e_0000_0000_0000

abbrev thousand : ℕ
thousand = 0x408f_4000_0000_0000

abbrev most : ℕ
most = 2147483647

-- an hour of so many minutes, by the number's bits
unfoldable known : ℕ → List Row
known length =
    base_row 0
    ∷ base_row 1
    ∷ derived_row 2 sixty (only second)
    ∷ derived_row 3 length (only minute)
    ∷ derived_row 4 0x3fb9_9999_9999_999a (only metre)
    ∷ derived_row 5 0x3fd3_3333_3333_3333 (only metre)
    ∷ derived_row 6 0x3fe6_6666_6666_6666 (only metre)
    ∷ derived_row 7 one (plain metre (pos 65536) ∷ [])
    ∷ []

unfoldable table : Rows
table = lent_rows_lem (known sixty)

-- with an hour of 0.1 minutes
unfoldable other : Rows
other = lent_rows_lem (known 0x3fb9_9999_9999_999a)

abbrev half : ℕ → Factor
half r = root r (Metric (pos 0)) (pos 1) 2

abbrev part : ℕ → ℕ → Factor
part r d = root r (Metric (pos 0)) (pos 1) d

abbrev kilometre : Factor
kilometre = factor metre (Metric (pos 3)) (pos 1)

-- the answer of the value v in the list l
abbrev answers : ℕ → List Factor → Says
answers v l = gives v (pack l) true

-- by the old rule and by the new
abbrev both : Rows → ℕ → List Factor → List Factor → Says → Says → List Case
both t v l m old new = (convert_to t (marked v l) m, old) ∷ (convert_merged t (marked v l) m, new) ∷ []

cases : List Case
cases =
    -- km·hour^(1/2) to m·hour^(1/2): a factor that is gone refuses nothing
    both table one (kilometre ∷ half hour ∷ []) (plain metre (pos 1) ∷ half hour ∷ []) (refuses FRACTION) (answers thousand (plain metre (pos 1) ∷ half hour ∷ []))
    -- 1 km/minute to m/minute: and rounds nothing
    ++ both table one (kilometre ∷ plain minute (negsuc 0) ∷ []) (plain metre (pos 1) ∷ plain minute (negsuc 0) ∷ []) (answers 0x408f_4000_0000_0001 (plain metre (pos 1) ∷ plain minute (negsuc 0) ∷ [])) (answers thousand (plain metre (pos 1) ∷ plain minute (negsuc 0) ∷ []))
    -- km·hour to m·hour, and in a table with another hour: it isn't read
    ++ ((convert_merged table (marked one (kilometre ∷ plain hour (pos 1) ∷ [])) (units (metre ∷ hour ∷ [])), answers thousand (units (metre ∷ hour ∷ [])))
    ∷ (convert_merged other (marked one (kilometre ∷ plain hour (pos 1) ∷ [])) (units (metre ∷ hour ∷ [])), answers thousand (units (metre ∷ hour ∷ []))) ∷ [])
    -- 1 long·middle·short to metre^3: with nothing in common the own list is still put in canonical order
    ++ both table one (units (long ∷ middle ∷ short ∷ [])) (plain metre (pos 3) ∷ []) (answers 0x3f95_8106_24dd_2f1b (plain metre (pos 3) ∷ [])) (answers 0x3f95_8106_24dd_2f1a (plain metre (pos 3) ∷ []))
    -- minute^most·hour·hour^-1 to second^most: the own list's base exponents are those of the merged list
    ++ both table one (plain minute (pos most) ∷ plain hour (pos 1) ∷ plain hour (negsuc 0) ∷ []) (plain second (pos most) ∷ []) (refuses RANGE) (answers 0x7ff0_0000_0000_0000 (plain second (pos most) ∷ []))
    -- tower^(1/65536) to tower^(1/65537)·metre^(1/65537): merged, the own list leaves the range
    ++ both table one (part tower 65536 ∷ []) (part tower 65537 ∷ part metre 65537 ∷ []) (answers one (part tower 65537 ∷ part metre 65537 ∷ [])) (refuses DENOMINATOR)
    -- minute to minute^-1·second^2: one row on both sides, with exponents of two signs, stays
    ++ both table one (only minute) (plain minute (negsuc 0) ∷ plain second (pos 2) ∷ []) (answers 0x40ac_2000_0000_0000 (plain minute (negsuc 0) ∷ plain second (pos 2) ∷ [])) (answers 0x40ac_2000_0000_0000 (plain minute (negsuc 0) ∷ plain second (pos 2) ∷ []))
    -- the target over the common factors is merged as well: minute to minute^2·second^-1
    ++ both table one (only minute) (plain minute (pos 2) ∷ plain second (negsuc 0) ∷ []) (answers 0x3f91_1111_1111_1111 (plain minute (pos 2) ∷ plain second (negsuc 0) ∷ [])) (answers 0x3f91_1111_1111_1111 (plain minute (pos 2) ∷ plain second (negsuc 0) ∷ []))
    -- unlike units, a zero, equal lists
    ++ both table one (units (metre ∷ hour ∷ [])) (units (second ∷ hour ∷ [])) (refuses UNITS) (refuses UNITS)
    ++ both table 0x8000_0000_0000_0000 (only metre) (only second) (answers 0x8000_0000_0000_0000 (only second)) (answers 0x8000_0000_0000_0000 (only second))
    ++ both table 0x3fb9_9999_9999_999a (units (hour ∷ metre ∷ [])) (units (metre ∷ hour ∷ [])) (answers 0x3fb9_9999_9999_999a (units (metre ∷ hour ∷ []))) (answers 0x3fb9_9999_9999_999a (units (metre ∷ hour ∷ [])))
    -- FRACTION where a factor is left: the own scale first
    ++ both table one (half hour ∷ []) (half minute ∷ []) (refuses FRACTION) (refuses FRACTION)

cancelled : map (λ (c : Case). c.0) cases ≡ map (λ (c : Case). c.1) cases
unfolding cases known table other computed
cancelled = refl
