-- Which half of a fraction left its range (02, order 2), pinned by closed cases of the public calls: one table of cases and one statement. A comment has the case, and another order that would answer otherwise.
use mathlib.Core.Path.{◌≡◌, refl}
use mathlib.Core.List.{List, [], ◌∷◌, ◌++◌, map}
use Prim.Native.Nat.{ℕ}
use lib.IntN.{pos}
use Rattle.exponents.specs.Outcome.{RANGE, DENOMINATOR}
use Rattle.units.specs.declared.Prefix.TheVariants.{Metric}
use Rattle.units.specs.declared.Factor.{Factor}
use Rattle.units.specs.declared.Row.{Row}
use Rattle.units.specs.declared.Rows.{Rows}
use Rattle.units.specs.Lists.{pack}
use Rattle.lent.specs.Lent.{lent_rows_lem}
use Rattle.lists.specs.Calls as lists
use Rattle.promises.specs.Table.{root, plain, base_row, derived_row}
use Rattle.promises.proofs.Saying.{Says, says, Case, listed, refuses, marked, canonical, reduction, is_multiple_of, convert_to, equal, compare, add, full_simplify, computed}

-- ---- two base rows, and three of scale 1 above them: square = second^2, half = first^(1/2), double = first^2; then rows that are added
abbrev first : ℕ
first = 0

abbrev second : ℕ
second = 1

abbrev square : ℕ
square = 2

abbrev half : ℕ
half = 3

abbrev double : ℕ
double = 4

abbrev over : ℕ → ℕ → ℕ → Factor
over r n d = root r (Metric (pos 0)) (pos n) d

abbrev one : ℕ
one = 0x3ff0_0000_0000_0000

abbrev most : ℕ
most = 2147483647

unfoldable known : List Row
known =
    base_row 0
    ∷ base_row 1
    ∷ derived_row 2 one (plain second (pos 2) ∷ [])
    ∷ derived_row 3 one (over first 1 2 ∷ [])
    ∷ derived_row 4 one (plain first (pos 2) ∷ [])
    ∷ []

-- these, and one more row of the definition l
abbrev with : List Factor → Rows
with l = lent_rows_lem (known ++ (derived_row 5 one l ∷ []))

unfoldable table : Rows
table = lent_rows_lem known

-- ---- lists whose merging leaves the range

-- by the denominator
abbrev odd : ℕ → List Factor
odd r = over r 1 65536 ∷ over r 1 65537 ∷ []

-- by the numerator
abbrev huge : ℕ → List Factor
huge r = over r most 1 ∷ over r 1 1 ∷ []

-- to the exponent n/d
abbrev list_power : List Factor → ℕ → ℕ → Says
list_power l n d = says listed (lists.list_power table (pack l) (record { num = pos n; den = d }))

cases : List Case
cases =
    -- ---- sums
    (canonical table (odd first), refuses DENOMINATOR)
    ∷ (canonical table (huge first), refuses RANGE)
    ∷ (canonical table (over first most 1 ∷ over first 1 2 ∷ []), refuses RANGE)
    -- most/65536 + 1/65537: both leave it; the numerator is looked at first, not the denominator
    ∷ (canonical table (over first most 65536 ∷ over first 1 65537 ∷ []), refuses RANGE)
    -- in the order of the given list, not in that of rows
    ∷ (canonical table (huge second ++ odd first), refuses RANGE)
    ∷ (canonical table (odd second ++ huge first), refuses DENOMINATOR)
    -- ---- products and quotients
    -- first^most·first^(1/65536) to the 2/65537: the first factor that fails, not the last
    ∷ (list_power (over first most 1 ∷ over first 1 65536 ∷ []) 2 65537, refuses RANGE)
    ∷ (list_power (over first 1 65536 ∷ over first most 1 ∷ []) 2 65537, refuses DENOMINATOR)
    ∷ (is_multiple_of table (over first most 1 ∷ []) (over first 1 2 ∷ []), refuses RANGE)
    ∷ (is_multiple_of table (over first 1 65536 ∷ []) (over first 65537 1 ∷ []), refuses DENOMINATOR)
    -- ---- base exponents
    -- square^most·half^(1/most): the lowest base row decides, not the first factor
    ∷ (reduction table (over square most 1 ∷ over half 1 most ∷ []), refuses DENOMINATOR)
    ∷ (reduction table (over square most 1 ∷ []), refuses RANGE)
    -- ---- a row
    -- the common multiple of a key is a denominator
    ∷ (reduction (with (over first 1 65536 ∷ over second 1 65537 ∷ [])) [], refuses DENOMINATOR)
    -- all base exponents come before the key
    ∷ (reduction (with (over first 1 65536 ∷ over second 1 65537 ∷ over square most 1 ∷ [])) [], refuses RANGE)
    -- ---- conversion
    -- double^most to first^(1/65536)·first^(1/65537): both canonical forms come before the own base exponents, not all of the own list
    ∷ (convert_to table (marked one (over double most 1 ∷ [])) (odd first), refuses DENOMINATOR)
    ∷ (convert_to table (marked one (huge first)) (odd first), refuses RANGE)
    -- the own list is the converted one: the second quantity's, not the first's
    ∷ (compare table (marked one (odd first)) (marked one (huge first)), refuses RANGE)
    ∷ (equal table (marked one (odd first)) (marked one (huge first)), refuses RANGE)
    -- ---- no UNITS: it is answered at once
    ∷ (equal table (marked one (odd first)) (marked one (over second 1 1 ∷ [])), refuses DENOMINATOR)
    ∷ (add table (marked one (odd first)) (marked one (huge first)), refuses DENOMINATOR)
    ∷ (full_simplify table (marked one (odd first)), refuses DENOMINATOR)
    -- half^(1/most)·second: the conversion to scalar stops, and no next step follows
    ∷ (full_simplify table (marked one (over half 1 most ∷ over second 1 1 ∷ [])), refuses DENOMINATOR)
    ∷ []

halved : map (λ (c : Case). c.0) cases ≡ map (λ (c : Case). c.1) cases
unfolding cases known table computed
halved = refl
