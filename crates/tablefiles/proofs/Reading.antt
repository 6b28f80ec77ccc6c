-- The rows of a file that is whole, of an admitted table.
use mathlib.Core.Path.{◌≡◌}
use mathlib.Core.List.{List}
use Prim.Native.Nat.{ℕ}
use Rattle.exponents.specs.Outcome.{Ok, bind}
use Rattle.units.specs.declared.Row.{Row}
use Rattle.lent.specs.Lent.{lent_rows_lem}
use Rattle.tables.specs.Rows.{Facts, table}
use Rattle.groups.specs.Taken.{taken}
use Rattle.files.specs.Records.{table?}
use Rattle.tablefiles.specs.Calls.{read_table}

pub read_file : (places : ℕ) (s : List ℕ) (rs : List Row) (t : List ℕ) → table? places s ≡ taken rs t → (ks : List Facts) → table (lent_rows_lem rs) ≡ Ok ks → read_table places s ≡ Ok rs
unfolding read_table bind
read_file places s rs t e ks a = rw (e, a)
