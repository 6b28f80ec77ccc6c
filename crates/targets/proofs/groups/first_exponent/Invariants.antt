-- `first_exponent` meets its contract. The invariant: the places before i are zero.
use mathlib.Core.Path.{◌≡◌}
use Rattle.tables.specs.Held.{told}
use Rattle.targets.specs.Held.{first_told}
use Rattle.targets.proofs.Fitted.{first_from_lem}
use Rattle.targets.proofs.groups.first_exponent.Given as goal

abbrev pub invariant-loop-i : goal.invariant-loop-i
invariant-loop-i l = first_told l.bases.nums.now l.bases.dens.now l.row ≡ first_from_lem (told l.bases.nums.now l.bases.dens.now l.row) l.i
