-- What the rows so far take and what the rest take is what all take.
use mathlib.Core.Path.{◌≡◌}
use Prim.Native.Nat.{◌+◌, ◌*◌, ◌≤◌}
use lib.ListN.{length, drop}
use Rattle.wire.specs.Bytes.{run_bytes}
use Rattle.files.specs.Records.{row_file}
use Rattle.filewrites.proofs.table_len.Given as goal

abbrev pub invariant-loop-r : goal.invariant-loop-r
invariant-loop-r l = (l.n ≤ 5 + 223 * l.r-index) × (l.n + length (run_bytes row_file (drop l.r-index l.r-items)) ≡ l.initial.n + length (run_bytes row_file l.r-items))
