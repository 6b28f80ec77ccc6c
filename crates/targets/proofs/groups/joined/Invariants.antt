-- `joined` meets its contract. The invariant: the items of m before i stand behind those of l.
use mathlib.Core.Path.{◌≡◌}
use mathlib.Core.List.{List, ◌++◌}
use Prim.Native.Nat.{◌+◌, ◌≤◌}
use lib.ListN.{length, take}
use Rattle.units.specs.declared.Factor.{Factor}
use Rattle.tables.specs.Held.{View, pack_items, Resolved}
use Rattle.targets.proofs.groups.joined.Given as goal

abbrev pub invariant-loop-i : goal.invariant-loop-i
invariant-loop-i l = (v : View) (fs gs : List Factor) → Resolved v l.initial.o fs → Resolved v l.m gs → length fs + length gs ≤ 16 → l.o ≡ pack_items v (fs ++ take l.i gs)
