-- The rows so far are stored, and storing the rest gives what storing all gives.
use Rattle.files.specs.Records.{row_file}
use Rattle.filewrites.proofs.Written.{Storing}
use Rattle.filewrites.proofs.write_table.Given as goal

abbrev pub invariant-loop-r : goal.invariant-loop-r
invariant-loop-r l = Storing row_file l.r-items l.initial.out l.initial.p l.out l.p l.r-index
