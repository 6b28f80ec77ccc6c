-- `write_number` meets its contract.
use lib.Seq.{sets}
use Rattle.groups.specs.Numbers.{groups, number_bytes}
use Prim.Native.Nat.{◌+◌, ◌-◌, ◌^◌, ◌≤◌, ◌<◌}
use lib.ListN.{length}
use mathlib.Core.Path.{◌≡◌}
use Rattle.groups.proofs.write_number.Given as goal

abbrev pub invariant-loop-y : goal.invariant-loop-y
invariant-loop-y l = (l.at ≤ l.i) × (l.i - l.at ≤ 4) × (l.y < 128 ^ (5 - (l.i - l.at))) × (length l.out ≡ length l.initial.out) × (l.i + length (groups (5 - (l.i - l.at)) l.y) ≡ l.at + length (number_bytes l.x)) × (sets l.out l.i (groups (5 - (l.i - l.at)) l.y) ≡ sets l.initial.out l.at (number_bytes l.x))

abbrev pub decreases-loop-y : goal.decreases-loop-y
decreases-loop-y l = 4 - (l.i - l.at)
