-- `compare_keys` meets its contract. The invariant: the places before i are the same, so that those from i on decide.
use mathlib.Core.Path.{◌≡◌}
use Rattle.keys.specs.Key.{entries}
use Rattle.keys.specs.Orders.{lists, pairs}
use Rattle.keys.specs.Held.{key_at}
use Rattle.keys.proofs.KeyOrder.{from}
use Rattle.keys.proofs.order.compare_keys.Given as goal

abbrev pub invariant-loop-i : goal.invariant-loop-i
invariant-loop-i l = (lists pairs (entries 0 (key_at l.a l.keys)) (entries 0 (key_at l.b l.keys)) ≡ lists pairs (from l.i (key_at l.a l.keys)) (from l.i (key_at l.b l.keys)))
