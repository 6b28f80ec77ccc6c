-- `group_at` meets its contract. The invariant: the places from i to j are one class and stand in g, which has as many as that.
use mathlib.Core.Path.{◌≡◌}
use mathlib.Core.List.{List}
use Prim.Native.Nat.{◌-◌, ◌≤◌, ◌<◌}
use lib.ListN.{length}
use Rattle.units.specs.declared.Factor.{Factor}
use Rattle.tables.specs.Held.{View, Resolved}
use Rattle.targets.proofs.Grouping.{Grown}
use Rattle.targets.proofs.groups.group_at.Given as goal

abbrev pub invariant-loop-j : goal.invariant-loop-j
invariant-loop-j l = (l.j ≤ 16) × (l.g.len ≡ l.j - l.i) × ((v : View) (fs : List Factor) → Resolved v l.c fs → l.i < length fs → Grown v fs l.i l.g l.j)
