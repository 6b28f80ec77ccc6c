-- `plain` meets its contract. The invariant: the factors before i are handed out with what is known of their rows.
use mathlib.Core.Path.{◌≡◌}
use mathlib.Core.List.{List}
use Prim.Native.Nat.{◌≤◌}
use lib.ListN.{length, take}
use Rattle.exponents.specs.Outcome.{Ok}
use Rattle.units.specs.declared.Factor.{Factor}
use Rattle.units.specs.Lists.{checked}
use Rattle.tables.specs.Rows.{Facts}
use Rattle.tables.specs.Held.{Sized, Basic, pack_items}
use Rattle.registry.specs.Held.{plain_view}
use Rattle.registry.proofs.plain.Given as goal

abbrev pub invariant-loop-i : goal.invariant-loop-i
invariant-loop-i l = (ks : List Facts) (fs : List Factor) → length ks ≤ 128 → Sized ks l.columns.scales → Basic ks l.columns.based → checked (length ks) l.l ≡ Ok fs → l.o ≡ pack_items (plain_view ks fs) (take l.i fs)
