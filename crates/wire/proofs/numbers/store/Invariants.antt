-- `store` meets its contract.
use mathlib.Core.Path.{◌≡◌}
use Prim.Native.Nat.{◌-◌, ◌+◌}
use lib.ListN.{length}
use lib.Seq.{sets}
use Rattle.wire.specs.Bytes.{bytes_of}
use Rattle.wire.proofs.numbers.store.Given as goal

abbrev pub invariant-loop-k : goal.invariant-loop-k
invariant-loop-k l =
    (length l.out ≡ length l.initial.out) × (sets l.out (l.at + l.k) (bytes_of (l.w - l.k) l.y) ≡ sets l.initial.out l.at (bytes_of l.w l.x))
