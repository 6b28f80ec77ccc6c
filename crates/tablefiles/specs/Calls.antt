-- The calls on table files (02, order 1): a table's file, the rows of a file, and what can be kept of a damaged one.
use Rattle.std.specs.Prelude.{List, [], ℕ, ◌-◌, leb, length}
use Rattle.exponents.specs.Words.{pick}
use Rattle.exponents.specs.Outcome.{FORMAT, Outcome, Ok, Err, apply, bind}
use Rattle.units.specs.declared.Row.{Row}
use Rattle.units.specs.declared.Rows.{Rows}
use Rattle.lent.specs.Lent.{lent_rows_lem}
use Rattle.tables.specs.Rows.{rows_of, table}
use Rattle.beginnings.specs.Beginnings.{admitting, before}
use Rattle.groups.specs.Taken.{Taken, nothing, taken}
use Rattle.groups.specs.Numbers.{number?}
use Rattle.files.specs.Records.{table_file, table?, front}
use Rattle.tablefiles.specs.declared.Kept.{Kept}

-- the file of an admitted table, or the table's refusal
unfoldable pub write_table : Rows → Outcome (List ℕ)
write_table t = apply (λ ks. table_file (rows_of t)) (table t)

-- FORMAT for a file that breaks the rules of a file anywhere, or has more rows than places
abbrev pub formed : Taken (List Row) → Outcome (List Row)
formed nothing = Err FORMAT
formed (taken rs s) = Ok rs

-- FORMAT before the table's own refusals; else the rows
unfoldable pub read_table : ℕ → List ℕ → Outcome (List Row)
read_table places s = bind (formed (table? places s)) (λ rs. apply (λ ks. rs) (table (lent_rows_lem rs)))

-- how many rows, or the refusal
abbrev pub told_of : Outcome (List Row) → Outcome ℕ
told_of = apply length

-- ---- salvage

abbrev pub least : ℕ → ℕ → ℕ
least a b = pick (leb a b) a b

-- of n rows from s on, those before the first that isn't whole or isn't admitted, and the bytes from that row on
unfoldable pub kept_from : ℕ → List ℕ → List Row × List ℕ
kept_from n s = front (before (admitting (front n s).0)) s

-- the count of rows is read; a row without a place, lent or among 128, is a fault like another. The byte is where the first row not kept begins, in a file of m bytes; 0 where the count can't be read
abbrev pub salvage_on : ℕ → ℕ → Taken ℕ → List Row × ℕ
salvage_on places m nothing = ([], 0)
salvage_on places m (taken n s) =
    let kept = kept_from (least n (least places 128)) s in
    (kept.0, m - length kept.1)

-- the rows kept, and the byte
unfoldable pub salvage : ℕ → List ℕ → List Row × ℕ
salvage places s = salvage_on places (length s) (number? s)

-- how many, and the byte
abbrev pub kept_of : List Row × ℕ → Kept
kept_of p = record { rows = length p.0; byte = p.1 }
