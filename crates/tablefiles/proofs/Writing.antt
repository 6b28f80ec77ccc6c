-- The file of an admitted table.
use mathlib.Core.Path.{◌≡◌}
use mathlib.Core.List.{List}
use Rattle.exponents.specs.Outcome.{Ok}
use Rattle.units.specs.declared.Rows.{Rows}
use Rattle.tables.specs.Rows.{Facts, table, rows_of}
use Rattle.files.specs.Records.{table_file}
use Rattle.tablefiles.specs.Calls.{write_table}

pub file_is : (t : Rows) (ks : List Facts) → table t ≡ Ok ks → write_table t ≡ Ok (table_file (rows_of t))
unfolding write_table
file_is t ks e = rw e
