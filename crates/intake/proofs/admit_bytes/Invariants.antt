-- `admit_bytes` meets its contract. The invariant: the rows before i are admitted.
use mathlib.Core.List.{List}
use Prim.Native.Nat.{ℕ}
use Rattle.units.specs.declared.Row.{Row}
use Rattle.tables.specs.Rows.{slots}
use Rattle.tables.proofs.Admitting.{Admitting}
use Rattle.wire.specs.Bytes.{run_at}
use Rattle.wire.specs.Records.{row_at}
use Rattle.intake.proofs.admit_bytes.Given as goal

-- `admit_bytes` meets its contract. The invariant: the rows before i are admitted.
-- the first n rows in bytes
abbrev pub rows : List ℕ → ℕ → List Row
rows s n = run_at row_at 176 n s 0

abbrev pub invariant-loop-i : goal.invariant-loop-i
invariant-loop-i l =
    Admitting (slots (rows l.s l.n)) (rows l.s l.n) l.bases l.i l.columns.nums l.columns.dens l.columns.scales l.columns.ranks l.columns.based
