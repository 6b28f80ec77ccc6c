-- `summed` meets its contract. The invariant: what the items before i have is in `acc`.
use mathlib.Core.Path.{◌≡◌}
use mathlib.Core.List.{List}
use Prim.Native.Nat.{ℕ}
use lib.ListN.{drop}
use Rattle.exponents.specs.Fractions.{sum?}
use Rattle.units.specs.declared.Factor.{Factor}
use Rattle.tables.specs.Held.{View, Resolved, Lends}
use Rattle.targets.specs.Groups.{share, summed}
use Rattle.targets.proofs.Fitted.{firsts}
use Rattle.targets.proofs.groups.summed.Given as goal

abbrev pub invariant-loop-i : goal.invariant-loop-i
invariant-loop-i l =
    (v : View) (b : ℕ) (fs : List Factor) → Lends v b l.bases.nums.now l.bases.dens.now → Resolved v l.l fs → sum? (share (firsts v) l.d) l.acc (drop l.i fs) ≡ summed (firsts v) l.d fs
