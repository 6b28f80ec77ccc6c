-- `admit` meets its contract. The invariant: the rows before i are admitted.
use Rattle.tables.specs.Rows.{slots, rows_of}
use Rattle.tables.specs.Held.{Room}
use Rattle.tables.proofs.Admitting.{Admitting}
use Rattle.tables.proofs.admission.admit.Given as goal

abbrev pub invariant-loop-i : goal.invariant-loop-i
invariant-loop-i l =
    Admitting (slots (rows_of l.rows)) (rows_of l.rows) l.bases l.i l.columns.nums l.columns.dens l.columns.scales l.columns.ranks l.columns.based
