-- `with_list` meets its contract. The invariant: the factors before the next are in.
use mathlib.Core.List.{List, ◌++◌}
use Prim.Native.Nat.{ℕ}
use lib.ListN.{take}
use Rattle.units.specs.declared.Factor.{Factor}
use Rattle.tables.specs.Held.{View, Lends, Resolved}
use Rattle.reduction.specs.Held.{Summed}
use Rattle.reduction.proofs.bases.with_list.Given as goal

abbrev pub invariant-loop-it : goal.invariant-loop-it
invariant-loop-it l =
    (v : View) (n : ℕ) (fs gs : List Factor) → Lends v n l.bases.nums.now l.bases.dens.now → Resolved v l.fn.l gs → Summed v n fs l.initial.o → Summed v n (fs ++ take l.it-index gs) l.o
