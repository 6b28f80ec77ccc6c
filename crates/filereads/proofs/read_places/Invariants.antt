-- `read_places` meets its contract.
use Rattle.filereads.proofs.Filled.{Filled}
use Rattle.filereads.proofs.read_places.Given as goal

abbrev pub invariant-loop-i : goal.invariant-loop-i
invariant-loop-i l = Filled l.s l.at l.n l.a l.p l.i
