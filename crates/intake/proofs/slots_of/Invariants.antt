-- `slots_of` meets its contract. The invariant: the rows before i are looked at.
use Rattle.tables.proofs.Slotting.{Slotting}
use Rattle.wire.specs.Bytes.{run_at}
use Rattle.wire.specs.Records.{row_at}
use Rattle.intake.proofs.slots_of.Given as goal

abbrev pub invariant-loop-i : goal.invariant-loop-i
invariant-loop-i l = Slotting (run_at row_at 176 l.n l.s 0) l.slots l.i
