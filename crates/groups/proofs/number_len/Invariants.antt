-- `number_len` meets its contract.
use Rattle.groups.specs.Numbers.{groups, number_bytes}
use Prim.Native.Nat.{◌+◌, ◌-◌, ◌^◌, ◌≤◌, ◌<◌}
use lib.ListN.{length}
use mathlib.Core.Path.{◌≡◌}
use Rattle.groups.proofs.number_len.Given as goal

abbrev pub invariant-loop-y : goal.invariant-loop-y
invariant-loop-y l = (l.k ≤ 4) × (l.y < 128 ^ (5 - l.k)) × (l.k + length (groups (5 - l.k) l.y) ≡ length (number_bytes l.x))

abbrev pub decreases-loop-y : goal.decreases-loop-y
decreases-loop-y l = 4 - l.k
