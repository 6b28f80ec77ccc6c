-- `slots_of` meets its contract. The invariant: the rows before i are looked at.
use Rattle.tables.specs.Rows.{rows_of}
use Rattle.tables.proofs.Slotting.{Slotting}
use Rattle.tables.proofs.admission.slots_of.Given as goal

abbrev pub invariant-loop-i : goal.invariant-loop-i
invariant-loop-i l = Slotting (rows_of l.rows) l.slots l.i
