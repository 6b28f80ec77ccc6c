-- What is given with whole exponents alone (02, order 2): exponents, lists and rows in which every denominator is 1. Places past the end of a list or a definition are not looked at.
use Rattle.std.specs.Prelude.{◌≡◌}
use Rattle.exponents.specs.Words.{All}
use Rattle.exponents.specs.declared.Exponent.{Exponent}
use Rattle.units.specs.declared.Factor.{Factor}
use Rattle.units.specs.declared.Factors.{Factors}
use Rattle.units.specs.declared.Row.{Row}
use Rattle.units.specs.declared.Rows.{Rows}
use Rattle.units.specs.Lists.{list_of}
use Rattle.tables.specs.Rows.{def_of, rows_of}

abbrev pub WholeExponent : Exponent → Type 0
WholeExponent x = x.den ≡ 1

abbrev pub WholeFactor : Factor → Type 0
WholeFactor f = WholeExponent f.exponent

-- every factor of a list
abbrev pub WholeList : Factors → Type 0
WholeList l = All WholeFactor (list_of l)

-- every factor of a row's definition
abbrev pub WholeRow : Row → Type 0
WholeRow r = All WholeFactor (def_of r)

-- every row of a table
abbrev pub WholeRows : Rows → Type 0
WholeRows t = All WholeRow (rows_of t)
