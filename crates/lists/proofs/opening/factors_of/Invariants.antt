-- `factors_of` meets its contract. The invariant: the factors before i stand in o.
use mathlib.Core.Path.{◌≡◌}
use mathlib.Core.List.{map}
use lib.ListN.{take}
use Rattle.units.specs.Lists.{pack}
use Rattle.lists.proofs.Given.{factor_of}
use Rattle.lists.proofs.opening.factors_of.Given as goal

abbrev pub invariant-loop-i : goal.invariant-loop-i
invariant-loop-i l = l.o ≡ pack (map factor_of (take l.i l.l.at))
