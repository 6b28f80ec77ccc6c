-- `shared_with` meets its contract. The invariant: the factors before j have another row or prefix.
use mathlib.Core.Path.{◌≡◌}
use mathlib.Core.List.{List}
use Prim.Native.Nat.{◌≤◌}
use lib.ListN.{length, drop}
use Rattle.units.specs.declared.Factor.{Factor}
use Rattle.tables.specs.Held.{View, pack_items, by_place}
use Rattle.common.specs.Common.{shared_with_lem}
use Rattle.common.proofs.shared_with.Given as goal

abbrev pub invariant-loop-j : goal.invariant-loop-j
invariant-loop-j l =
    (v : View) (gs : List Factor) → l.m ≡ pack_items v gs → length gs ≤ 16 → l.x.place ≡ v.place l.x.factor.row → shared_with_lem (by_place v) l.x.factor gs ≡ shared_with_lem (by_place v) l.x.factor (drop l.j gs)
