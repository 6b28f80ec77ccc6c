-- `base_factors` meets its contract. The invariant: the base rows before i are reduced.
use mathlib.Core.Path.{◌≡◌}
use lib.ListN.{take}
use Rattle.units.specs.Lists.{pack}
use Rattle.reduction.specs.Reduction.{reduced}
use Rattle.reduction.proofs.reduce.base_factors.Given as goal

abbrev pub invariant-loop-i : goal.invariant-loop-i
invariant-loop-i l = l.o ≡ pack (reduced (take l.i l.slots.at) l.e)
