-- The calls on table files from bytes (the byte form of 02's order 1): a file behind its length; rows behind their number and, where they are salvaged, the byte.
use Rattle.std.specs.Prelude.{List, ◌++◌, ℕ, ltb, length}
use Rattle.exponents.specs.Outcome.{ROOM, Outcome, Ok, unless, apply, bind}
use Rattle.units.specs.declared.Row.{Row}
use Rattle.wire.specs.Bytes.{bytes_of, run_bytes}
use Rattle.wire.specs.Records.{row_bytes}
use Rattle.wire.specs.Arguments.{table_from}
use Rattle.tablefiles.specs.Calls as files

unfoldable pub file_reply : List ℕ → List ℕ
file_reply f = bytes_of 4 (length f) ++ (bytes_of 4 0 ++ f)

-- the table's refusals, then ROOM for a file that is longer than the room lent for it
unfoldable pub write_table : List ℕ → ℕ → Outcome (List ℕ)
write_table t room = bind (files.write_table (table_from t)) (λ f. unless (ltb room (length f)) ROOM (Ok (file_reply f)))

-- rows behind their number and a second one
unfoldable pub rows_reply : ℕ → List Row → List ℕ
rows_reply n rs = bytes_of 4 (length rs) ++ (bytes_of 4 n ++ run_bytes row_bytes rs)

-- with so many places lent; the second number is reserved
unfoldable pub read_table : List ℕ → ℕ → Outcome (List ℕ)
read_table f places = apply (rows_reply 0) (files.read_table places f)

-- nothing is refused; the second number is the byte
unfoldable pub salvage_table : List ℕ → ℕ → Outcome (List ℕ)
salvage_table f places = Ok (rows_reply (files.salvage places f).1 (files.salvage places f).0)
