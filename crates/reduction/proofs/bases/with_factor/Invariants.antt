-- `with_factor` meets its contract. The invariant: the base rows before s have the factor.
use mathlib.Core.Path.{◌≡◌}
use mathlib.Core.Bool.{false}
use mathlib.Core.List.{List}
use Prim.Native.Nat.{ℕ}
use lib.ListN.{length}
use Rattle.exponents.specs.Fractions.{faulty}
use Rattle.units.specs.declared.Factor.{Factor}
use Rattle.tables.specs.Held.{View, Lends}
use Rattle.reduction.specs.Held.{Summed}
use Rattle.reduction.proofs.Adding.{Adding}
use Rattle.reduction.proofs.bases.with_factor.Given as goal

abbrev pub invariant-loop-s : goal.invariant-loop-s
invariant-loop-s l =
    (length l.at ≡ 16)
    × ((v : View) (n : ℕ) (fs : List Factor) → Lends v n l.bases.nums.now l.bases.dens.now → faulty l.f.exponent ≡ false → Summed v n fs l.p → Adding v n fs l.f l.p.stop l.at l.s)
