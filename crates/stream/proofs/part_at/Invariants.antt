-- `part_at` meets its contract. The invariant: the argument that is looked for is the one `left` behind place `at`.
use mathlib.Core.Path.{◌≡◌}
use Prim.Native.Nat.{◌≤◌}
use lib.ListN.{length, drop}
use Rattle.stream.specs.Stream.{part}
use Rattle.stream.proofs.part_at.Given as goal

abbrev pub invariant-loop-at : goal.invariant-loop-at
invariant-loop-at l = (l.at ≤ length l.args) × (part l.k l.args ≡ part l.left (drop l.at l.args))

abbrev pub decreases-loop-at : goal.decreases-loop-at
decreases-loop-at l = l.left
