-- What the factors so far take and what the rest take is what all take.
use mathlib.Core.Path.{◌≡◌}
use Prim.Native.Nat.{◌+◌, ◌*◌, ◌≤◌}
use lib.ListN.{length, drop}
use Rattle.wire.specs.Bytes.{run_bytes}
use Rattle.files.specs.Records.{factor_file}
use Rattle.filewrites.proofs.places_len.Given as goal

abbrev pub invariant-loop-f : goal.invariant-loop-f
invariant-loop-f l = (l.n ≤ 25 * l.f-index) × (l.n + length (run_bytes factor_file (drop l.f-index l.f-items)) ≡ length (run_bytes factor_file l.f-items))
