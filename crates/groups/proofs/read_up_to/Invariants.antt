-- `read_up_to` meets its contract.
use Rattle.groups.specs.Numbers.{groups?}
use Rattle.groups.proofs.Walk.{joined}
use Prim.Native.Nat.{◌-◌, ◌*◌, ◌^◌, ◌<◌}
use lib.ListN.{drop}
use mathlib.Core.Path.{◌≡◌}
use Rattle.groups.proofs.read_up_to.Given as goal

abbrev pub invariant-loop-k : goal.invariant-loop-k
invariant-loop-k l = (l.v < 2 ^ (7 * l.k)) × (joined l.k l.v (groups? (5 - l.k) (drop l.i l.s)) ≡ groups? 5 (drop l.at l.s))
