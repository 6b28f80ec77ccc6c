-- `by_groups` meets its contract. The invariant: of the groups before `next` the targets are joined and the product is worked out; what is left of the groups gives the whole.
use mathlib.Core.List.{List}
use Prim.Native.Nat.{◌-◌}
use Rattle.units.specs.declared.Factor.{Factor}
use Rattle.tables.specs.Held.{View, Lends, Resolved}
use Rattle.simplification.proofs.Turns.{Along}
use Rattle.simplification.proofs.steps.by_groups.Given as goal

abbrev pub invariant-loop-p : goal.invariant-loop-p
invariant-loop-p l = (v : View) (cs : List Factor) → Lends v l.n l.bases.nums.now l.bases.dens.now → Resolved v l.c cs → Along v l.n cs l.p

abbrev pub decreases-loop-p : goal.decreases-loop-p
decreases-loop-p l = l.m - l.p.next
