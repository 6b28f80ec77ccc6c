-- Words of the promises on table files (02, order 1).
use Rattle.std.specs.Prelude.{◌≡◌, List, map, ℕ}
use Rattle.exponents.specs.Outcome.{Ok}
use Rattle.units.specs.declared.Row.{Row}
use Rattle.units.specs.declared.Rows.{Rows}
use Rattle.tables.specs.Rows.{Facts, table, rows_of}
use Rattle.groups.specs.Taken.{taken}
use Rattle.groups.specs.Numbers.{number?}
use Rattle.files.specs.Records.{cleaned}

-- a table that is admitted
abbrev pub Admits : Rows → Type 0
Admits t = (ks : List Facts) × (table t ≡ Ok ks)

-- a table's rows as a file gives them back: rank, kind, factor and the definition within its length
abbrev pub read_back_lem : Rows → List Row
read_back_lem t = map cleaned (rows_of t)

-- a file that counts n rows
abbrev pub Counts : List ℕ → ℕ → Type 0
Counts s n = (t : List ℕ) × (number? s ≡ taken n t)
