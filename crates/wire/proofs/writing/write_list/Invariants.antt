-- `write_list` meets its contract. The invariant: storing the factors from i on gives what storing all of them gives.
use mathlib.Core.Path.{◌≡◌}
use Prim.Native.Nat.{◌+◌, ◌*◌}
use lib.ListN.{length, drop}
use lib.Seq.{sets}
use Rattle.wire.specs.Bytes.{run_bytes}
use Rattle.wire.specs.Records.{factor_bytes}
use Rattle.wire.proofs.writing.write_list.Given as goal

abbrev pub invariant-loop-i : goal.invariant-loop-i
invariant-loop-i l = (length l.out ≡ length l.initial.out) × (sets l.out (l.at + 4 + l.i * 20) (run_bytes factor_bytes (drop l.i l.l.at)) ≡ sets l.initial.out (l.at + 4) (run_bytes factor_bytes l.l.at))
