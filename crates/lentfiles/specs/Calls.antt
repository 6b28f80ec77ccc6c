-- What a read leaves in the lent rows (02, order 1: "a refused read writes no row").
use Rattle.std.specs.Prelude.{List, ◌++◌, length, drop}
use Rattle.exponents.specs.Outcome.{Outcome, Ok, Err}
use Rattle.units.specs.declared.Row.{Row}

-- the table's rows before the lent rows' own further ones; after a refusal their own
abbrev pub rows_left : List Row → Outcome (List Row) → List Row
rows_left ys (Ok rs) = rs ++ drop (length rs) ys
rows_left ys (Err r) = ys
