-- The factors before i are inverted and stand in o.
use Rattle.units.specs.Lists.{inverted}
use Rattle.units.proofs.Laws.{Mapped}
use Rattle.units.proofs.lists.inverse.Given as goal

abbrev pub invariant-loop-i : goal.invariant-loop-i
invariant-loop-i l = Mapped inverted l.l l.o.at l.i
