-- `same_list` meets its contract.
use Rattle.wire.proofs.Alike.{Alike}
use Rattle.wire.proofs.reading.same_list.Given as goal

abbrev pub invariant-loop-k : goal.invariant-loop-k
invariant-loop-k l = Alike l.s l.a l.b l.k
