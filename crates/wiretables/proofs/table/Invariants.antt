-- `table` meets its contract.
use mathlib.Core.Path.{◌≡◌}
use Rattle.lent.specs.Lent.{no_row}
use Rattle.wire.specs.Bytes.{run_at, pad_to}
use Rattle.wire.specs.Records.{row_at}
use Rattle.wiretables.proofs.table.Given as goal

abbrev pub invariant-loop-i : goal.invariant-loop-i
invariant-loop-i l = l.at ≡ pad_to no_row 128 (run_at row_at 176 l.i l.s 0)
