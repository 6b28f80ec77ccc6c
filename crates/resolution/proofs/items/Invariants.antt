-- `items` meets its contract. The invariant: the factors of the list before i are resolved.
use mathlib.Core.Path.{◌≡◌}
use mathlib.Core.List.{List}
use lib.ListN.{take}
use Rattle.units.specs.declared.Factor.{Factor}
use Rattle.units.specs.Lists.{list_of}
use Rattle.tables.specs.Rows.{Facts}
use Rattle.tables.specs.Held.{view_of, pack_items}
use Rattle.resolution.specs.Held.{Fills}
use Rattle.resolution.proofs.items.Given as goal

abbrev pub invariant-loop-i : goal.invariant-loop-i
invariant-loop-i l =
    (ks : List Facts) (fs : List Factor) → Fills ks fs l.n l.l l.from l.initial.o l.named l.keys l.columns.scales l.columns.ranks l.columns.based → l.o ≡ pack_items (view_of ks fs) (take l.i (list_of l.l))
