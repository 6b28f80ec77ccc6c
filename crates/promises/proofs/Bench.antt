-- The starred cases of 01's bench list, from the definitions of the public calls over eight lent rows: one table of cases and one statement.
use mathlib.Core.Path.{◌≡◌, refl}
use mathlib.Core.Bool.{true, false}
use mathlib.Core.List.{List, [], ◌∷◌, map}
use Prim.Native.Nat.{Ordering}
use Prim.Native.Nat.{ℕ}
use lib.IntN.{ℤ, pos, negsuc}
use Rattle.exponents.specs.Outcome.{UNITS, FRACTION, ZERONEG}
use Rattle.units.specs.declared.Prefix.TheVariants.{Metric, Binary}
use Rattle.units.specs.declared.Factor.{Factor}
use Rattle.units.specs.Lists.{pack}
use Rattle.promises.specs.Table.{factor, root, plain, gram, metre, second, bit, minute, hour, byte, newton, rows, table}
use Rattle.promises.proofs.Saying.{Case, reduces, same, gives, orders, refuses, only, marked, unmarked, reduction, same_lists, convert_to, compare, add, subtract, checked_power, computed}

-- a row to an exponent of halves
abbrev halves : ℕ → ℤ → Factor
halves r n = root r (Metric (pos 0)) n 2

cases : List Case
cases =
    -- 6 hour to minute: 360
    (convert_to table (marked 0x4018_0000_0000_0000 (only hour)) (only minute), gives 0x4076_8000_0000_0000 (pack (only minute)) true)
    -- 1 Binary(10) byte to bit: 8192
    ∷ (convert_to table (marked 0x3ff0_0000_0000_0000 (factor byte (Binary (pos 10)) (pos 1) ∷ [])) (only bit), gives 0x40c0_0000_0000_0000 (pack (only bit)) true)
    -- 5 metre to second
    ∷ (convert_to table (marked 0x4014_0000_0000_0000 (only metre)) (only second), refuses UNITS)
    -- 0 metre and -0 metre to second
    ∷ (convert_to table (marked 0 (only metre)) (only second), gives 0 (pack (only second)) true)
    ∷ (convert_to table (marked 0x8000_0000_0000_0000 (only metre)) (only second), gives 0x8000_0000_0000_0000 (pack (only second)) true)
    -- newton: gram 1, metre 1, second -2, scale 1000
    ∷ (reduction table (only newton), reduces (plain gram (pos 1) ∷ plain metre (pos 1) ∷ plain second (negsuc 1) ∷ []) 0x408f_4000_0000_0000)
    -- 4 newton^(1/2) to gram^(1/2)·metre^(1/2)·second^-1
    ∷ (convert_to table (marked 0x4010_0000_0000_0000 (halves newton (pos 1) ∷ [])) (halves gram (pos 1) ∷ halves metre (pos 1) ∷ plain second (negsuc 0) ∷ []), refuses FRACTION)
    -- Metric(0) metre and Binary(0) metre: unequal lists; 7 of one is 7 of the other
    ∷ (same_lists table (only metre) (factor metre (Binary (pos 0)) (pos 1) ∷ []), same false)
    ∷ (convert_to table (marked 0x401c_0000_0000_0000 (only metre)) (factor metre (Binary (pos 0)) (pos 1) ∷ []), gives 0x401c_0000_0000_0000 (pack (factor metre (Binary (pos 0)) (pos 1) ∷ [])) true)
    ∷ (convert_to table (marked 0x401c_0000_0000_0000 (factor metre (Binary (pos 0)) (pos 1) ∷ [])) (only metre), gives 0x401c_0000_0000_0000 (pack (only metre)) true)
    -- 0 second compared with 5 metre, 5 metre with 0 second
    ∷ (compare table (marked 0 (only second)) (marked 0x4014_0000_0000_0000 (only metre)), refuses UNITS)
    ∷ (compare table (marked 0x4014_0000_0000_0000 (only metre)) (marked 0 (only second)), orders Ordering.gt)
    -- 0 metre + 5 unmarked second: 5 second, unmarked
    ∷ (add table (marked 0 (only metre)) (unmarked 0x4014_0000_0000_0000 (only second)), gives 0x4014_0000_0000_0000 (pack (only second)) false)
    -- 0 metre - the same: -5 second, marked
    ∷ (subtract table (marked 0 (only metre)) (unmarked 0x4014_0000_0000_0000 (only second)), gives 0xc014_0000_0000_0000 (pack (only second)) true)
    -- 0 metre to -1
    ∷ (checked_power table (marked 0 (only metre)) (marked 0xbff0_0000_0000_0000 []), refuses ZERONEG)
    ∷ []

bench : map (λ (c : Case). c.0) cases ≡ map (λ (c : Case). c.1) cases
unfolding cases rows table computed
bench = refl
