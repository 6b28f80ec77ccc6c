-- `has_more` meets its contract. The invariant: zeros stand from p up to i.
use mathlib.Core.Path.{◌≡◌}
use lib.ListN.{drop}
use Rattle.keys.specs.Held.{more, key_at}
use Rattle.keys.proofs.order.has_more.Given as goal

abbrev pub invariant-loop-i : goal.invariant-loop-i
invariant-loop-i l = more (drop l.p (key_at l.a l.keys)) ≡ more (drop l.i (key_at l.a l.keys))
