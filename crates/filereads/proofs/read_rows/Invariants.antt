-- `read_rows` meets its contract.
use Rattle.filereads.proofs.Walked.{Kept}
use Rattle.filereads.proofs.read_rows.Given as goal

abbrev pub invariant-loop-i : goal.invariant-loop-i
invariant-loop-i l = Kept l.s l.at l.n l.a l.p l.i
