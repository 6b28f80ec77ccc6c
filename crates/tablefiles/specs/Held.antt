-- How code hands rows over: a record of 128 places beside what is told of them.
use Rattle.std.specs.Prelude.{List, ℕ}
use Rattle.exponents.specs.Outcome.{Outcome, apply}
use Rattle.units.specs.declared.Row.{Row}
use Rattle.units.specs.declared.Rows.{Rows}
use Rattle.lent.specs.Lent.{lent_rows_lem}
use Rattle.tablefiles.specs.Calls.{kept_of}
use Rattle.tablefiles.specs.declared.Salvaged.{Salvaged}

abbrev pub read_of : Outcome (List Row) → Outcome Rows
read_of = apply lent_rows_lem

abbrev pub salvaged_of : List Row × ℕ → Salvaged
salvaged_of p = record { rows = lent_rows_lem p.0; told = kept_of p }
