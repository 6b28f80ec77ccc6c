-- The table of 01's bench list: gram, metre, second, bit; minute = 60 second, hour = 60 minute, byte = 8 bit, newton = 1 kilogram·metre·second^−2.
use Rattle.std.specs.Prelude.{List, [], ◌∷◌, ℕ, ℤ, pos, negsuc, length}
use Rattle.std.specs.Float.{binary64}
use Rattle.std.specs.Float.Ieee.{of_bits}
use Rattle.units.specs.declared.Prefix.{Prefix}
use Rattle.units.specs.declared.Prefix.TheVariants.{Metric}
use Rattle.units.specs.declared.Factor.{Factor}
use Rattle.units.specs.declared.Kind.TheVariants.{Base, Derived}
use Rattle.units.specs.declared.Row.{Row}
use Rattle.units.specs.declared.Rows.{Rows}
use Rattle.lent.specs.Lent.{lent_rows_lem}

-- a row's number, a prefix and a whole exponent
abbrev pub factor : ℕ → Prefix → ℤ → Factor
factor r p n = record { row = r; prefix = p; exponent = record { num = n; den = 1 } }

-- the same to the exponent n/d
abbrev pub root : ℕ → Prefix → ℤ → ℕ → Factor
root r p n d = record { row = r; prefix = p; exponent = record { num = n; den = d } }

abbrev pub plain : ℕ → ℤ → Factor
plain r n = factor r (Metric (pos 0)) n

abbrev pub base_row : ℕ → Row
base_row rank = record { def = []; len = 0; rank = rank; kind = Base }

-- the factor by its bits
abbrev pub derived_row : ℕ → ℕ → List Factor → Row
derived_row rank bits l = record { def = l; len = length l; rank = rank; kind = Derived (of_bits binary64 bits) }

-- ---- the rows' numbers

abbrev pub gram : ℕ
gram = 0

abbrev pub metre : ℕ
metre = 1

abbrev pub second : ℕ
second = 2

abbrev pub bit : ℕ
bit = 3

abbrev pub minute : ℕ
minute = 4

abbrev pub hour : ℕ
hour = 5

abbrev pub byte : ℕ
byte = 6

abbrev pub newton : ℕ
newton = 7

-- eight rows, as a caller lends them; ranks in the order of the names: bit, byte, gram, minute, hour, metre, newton, second
unfoldable pub rows : List Row
rows =
    base_row 2
    ∷ base_row 5
    ∷ base_row 7
    ∷ base_row 0
    ∷ derived_row 3 0x404e_0000_0000_0000 (plain second (pos 1) ∷ [])
    ∷ derived_row 4 0x404e_0000_0000_0000 (plain minute (pos 1) ∷ [])
    ∷ derived_row 1 0x4020_0000_0000_0000 (plain bit (pos 1) ∷ [])
    ∷ derived_row 6 0x3ff0_0000_0000_0000 (factor gram (Metric (pos 3)) (pos 1) ∷ plain metre (pos 1) ∷ plain second (negsuc 1) ∷ [])
    ∷ []

unfoldable pub table : Rows
table = lent_rows_lem rows
