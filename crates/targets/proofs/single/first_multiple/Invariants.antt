-- `first_multiple` meets its contract. The outer invariant: no factor before i fits. The inner one: `all` tells whether the products before s are x's; with all of them worked out, some differ or the quotient isn't whole.
use mathlib.Core.Path.{◌≡◌}
use mathlib.Core.Bool.{false, ◌&&◌}
use mathlib.Core.List.{List}
use lib.Dec.{eqb}
use lib.ListN.{drop}
use Rattle.std.specs.declared.option.Option.TheVariants.{None}
use Rattle.exponents.specs.Fractions.{faulty}
use Rattle.exponents.specs.declared.Exponent.{Exponent}
use Rattle.units.specs.declared.Factor.{Factor}
use Rattle.tables.specs.Held.{View}
use Rattle.reduction.specs.Multiple.{fits}
use Rattle.reduction.proofs.Fitting.{fits_from}
use Rattle.targets.proofs.Searching.{Had, from, whole}
use Rattle.targets.proofs.single.first_multiple.Given as goal

abbrev pub invariant-loop-s : goal.invariant-loop-s
invariant-loop-s l =
    (l.found ≡ l.initial.found) × (l.s ≡ 16 → (l.all && eqb l.w.den 1) ≡ false) × (faulty l.w ≡ false → fits_from l.all (drop l.s l.x) (drop l.s l.y) l.w ≡ fits l.x l.y l.w)

abbrev pub invariant-factors : goal.invariant-factors
invariant-factors l =
    (l.found ≡ None) × ((v : View) (cs : List Factor) (xs : List Exponent) → Had v l.n l.bases.nums.now l.bases.dens.now l.c l.x cs xs → from v l.n cs l.i ≡ whole v l.n cs)
