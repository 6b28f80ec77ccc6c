-- The first i rows are stored, 176 bytes each.
use mathlib.Core.Path.{◌≡◌}
use Prim.Native.Nat.{◌*◌}
use lib.ListN.{length, take}
use lib.Seq.{sets}
use Rattle.wire.specs.Bytes.{run_bytes}
use Rattle.wire.specs.Records.{row_bytes}
use Rattle.wiretables.proofs.write_rows.Given as goal

abbrev pub invariant-loop-i : goal.invariant-loop-i
invariant-loop-i l = (l.out ≡ sets l.initial.out l.at (run_bytes row_bytes (take l.i l.rows.at))) × (length l.out ≡ length l.initial.out) × (length (run_bytes row_bytes (take l.i l.rows.at)) ≡ l.i * 176)
