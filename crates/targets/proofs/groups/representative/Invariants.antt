-- `representative` meets its contract. The invariant: r holds the greatest of the items before i.
use mathlib.Core.Path.{◌≡◌}
use mathlib.Core.List.{List, ◌∷◌}
use Prim.Native.Nat.{◌≤◌, ◌<◌}
use lib.ListN.{length, drop, get_or}
use Rattle.units.specs.declared.Factor.{Factor}
use Rattle.tables.specs.Held.{View, pack_items}
use Rattle.targets.specs.Groups.{greatest}
use Rattle.targets.proofs.groups.representative.Given as goal

abbrev pub invariant-loop-i : goal.invariant-loop-i
invariant-loop-i l =
    (l.r < l.i)
    × (l.i ≤ 16)
    × ((v : View) (f : Factor) (fs : List Factor) → l.l ≡ pack_items v (f ∷ fs) → length fs < 16 → (l.r < length (f ∷ fs)) × (greatest v.base (get_or (f ∷ fs) l.r f) (drop l.i (f ∷ fs)) ≡ greatest v.base f fs))
