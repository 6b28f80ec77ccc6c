-- `count_of` meets its contract. The invariant: the factors before j are counted.
use mathlib.Core.List.{List}
use Prim.Native.Nat.{◌≤◌}
use lib.ListN.{get_or}
use Rattle.units.specs.declared.Factor.{Factor}
use Rattle.tables.specs.Rows.{Facts}
use Rattle.resolution.specs.Held.{Counts}
use Rattle.resolution.proofs.Counting.{Counting}
use Rattle.resolution.proofs.count_of.Given as goal

abbrev pub invariant-loop-j : goal.invariant-loop-j
invariant-loop-j l =
    (l.c.place ≤ l.j)
    × (l.c.class ≤ l.j)
    × ((ks : List Facts) (fs : List Factor) → Counts ks fs l.n l.named l.keys l.ranks → Counting ks fs (get_or l.named l.i 0) l.c l.j)
