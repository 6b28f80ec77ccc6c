-- Two tables beside 01's: units of a blade shop, with scales that round and keys that are turned, divided and made whole; and sixteen base rows.
use Rattle.std.specs.Prelude.{List, [], ◌∷◌, map, ℕ, pos, negsuc}
use Rattle.units.specs.declared.Prefix.TheVariants.{Metric}
use Rattle.units.specs.declared.Row.{Row}
use Rattle.units.specs.declared.Rows.{Rows}
use Rattle.lent.specs.Lent.{lent_rows_lem}
use Rattle.tables.specs.Rows.{places}
use Rattle.promises.specs.Table.{factor, root, plain, base_row, derived_row, gram, metre, second}

-- ---- the shop's rows: gram, metre and second as in 01's table; then these

abbrev pub percent : ℕ
percent = 3

abbrev pub thread : ℕ
thread = 4

abbrev pub are : ℕ
are = 5

abbrev pub inch : ℕ
inch = 6

abbrev pub foot : ℕ
foot = 7

abbrev pub pound : ℕ
pound = 8

abbrev pub poundforce : ℕ
poundforce = 9

abbrev pub steel : ℕ
steel = 10

abbrev pub toughness : ℕ
toughness = 11

-- ranks in the order of the names: are, foot, gram, inch, metre, percent, pound, poundforce, second, steel, thread, toughness
abbrev pub shop_rows : List Row
shop_rows =
    base_row 2
    ∷ base_row 4
    ∷ base_row 8
    -- percent = 0.01
    ∷ derived_row 5 0x3f84_7ae1_47ae_147b []
    -- thread = 1 metre^-1
    ∷ derived_row 10 0x3ff0_0000_0000_0000 (plain metre (negsuc 0) ∷ [])
    -- are = 100 metre^2
    ∷ derived_row 0 0x4059_0000_0000_0000 (plain metre (pos 2) ∷ [])
    -- inch = 0.0254 metre
    ∷ derived_row 3 0x3f9a_0275_2546_0aa6 (plain metre (pos 1) ∷ [])
    -- foot = 12 inch
    ∷ derived_row 1 0x4028_0000_0000_0000 (plain inch (pos 1) ∷ [])
    -- pound = 453.59237 gram
    ∷ derived_row 6 0x407c_597a_58f7_121b (plain gram (pos 1) ∷ [])
    -- poundforce = 32.17404855643044 pound·foot·second^-2
    ∷ derived_row 7 0x4040_1647_391c_e473 (plain pound (pos 1) ∷ plain foot (pos 1) ∷ plain second (negsuc 1) ∷ [])
    -- steel = 7850 kilogram·metre^-3
    ∷ derived_row 9 0x40be_aa00_0000_0000 (factor gram (Metric (pos 3)) (pos 1) ∷ plain metre (negsuc 2) ∷ [])
    -- toughness = 1 Metric(6) gram·metre^(-1/2)·second^-2
    ∷ derived_row 11 0x3ff0_0000_0000_0000 (factor gram (Metric (pos 6)) (pos 1) ∷ root metre (Metric (pos 0)) (negsuc 0) 2 ∷ plain second (negsuc 1) ∷ [])
    ∷ []

unfoldable pub shop : Rows
shop = lent_rows_lem shop_rows

-- ---- sixteen base rows

abbrev pub pixel : ℕ
pixel = 15

abbrev pub sixteen_rows : List Row
sixteen_rows = map (λ rank. base_row rank) (places 0 16)

unfoldable pub sixteen : Rows
sixteen = lent_rows_lem sixteen_rows
