-- `over_common` meets its contract. It compares by place; at the end the table's order says the same. The invariant: the factors before i are done, and what they share are the first k items.
use mathlib.Core.Path.{◌≡◌}
use mathlib.Core.Bool.{false}
use mathlib.Core.List.{List}
use Prim.Native.Nat.{◌≤◌}
use lib.ListN.{length}
use Rattle.units.specs.declared.Factor.{Factor}
use Rattle.units.specs.Lists.{some, factor_fault}
use Rattle.tables.specs.Held.{View, pack_items}
use Rattle.common.proofs.Sharing.{Gathered}
use Rattle.common.proofs.over_common.Given as goal

abbrev pub invariant-loop-i : goal.invariant-loop-i
invariant-loop-i l =
    (l.k ≤ l.i)
    × ((v : View) (fs gs : List Factor) → l.l ≡ pack_items v fs → l.m ≡ pack_items v gs → length fs ≤ 16 → length gs ≤ 16 → some factor_fault fs ≡ false → some factor_fault gs ≡ false → Gathered v fs gs l.o l.k l.i)
