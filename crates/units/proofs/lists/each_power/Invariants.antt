-- The factors before i are raised and stand in o.
use Rattle.units.specs.Lists.{raised}
use Rattle.units.proofs.Powers.{Upto}
use Rattle.units.proofs.lists.each_power.Given as goal

abbrev pub invariant-loop-i : goal.invariant-loop-i
invariant-loop-i l = Upto (raised l.e) l.l l.o.at l.i
