-- `lessened` meets its contract. It compares by place; at the end the table's order says the same. The invariant: the factors before i are done, with the first j of c, and what is left of them are the first k items.
use mathlib.Core.Path.{◌≡◌}
use mathlib.Core.List.{List}
use Prim.Native.Nat.{◌≤◌}
use lib.ListN.{length}
use Rattle.units.specs.declared.Factor.{Factor}
use Rattle.tables.specs.Held.{View, pack_items}
use Rattle.common.proofs.Lessening.{Lessens}
use Rattle.common.proofs.lessened.Given as goal

abbrev pub invariant-loop-i : goal.invariant-loop-i
invariant-loop-i l =
    (l.k ≤ l.i)
    × (l.j ≤ l.i)
    × ((v : View) (gs cs : List Factor) → l.m ≡ pack_items v gs → l.c ≡ pack_items v cs → length gs ≤ 16 → length cs ≤ 16 → Lessens v gs cs l.o l.k l.j l.i)
