-- `fits` meets its contract. The invariant: `all` tells whether the products before i were those of a.
use mathlib.Core.Path.{◌≡◌}
use mathlib.Core.Bool.{false}
use lib.ListN.{drop}
use Rattle.exponents.specs.Fractions.{faulty}
use Rattle.reduction.specs.Multiple.{fits}
use Rattle.reduction.proofs.Fitting.{fits_from}
use Rattle.reduction.proofs.multiples.fits.Given as goal

abbrev pub invariant-loop-i : goal.invariant-loop-i
invariant-loop-i l = faulty l.q ≡ false → fits_from l.all (drop l.i l.a) (drop l.i l.b) l.q ≡ fits l.a l.b l.q
