-- The factors so far are stored, and storing the rest gives what storing all gives.
use Rattle.files.specs.Records.{factor_file}
use Rattle.filewrites.proofs.Written.{Storing}
use Rattle.filewrites.proofs.write_places.Given as goal

abbrev pub invariant-loop-f : goal.invariant-loop-f
invariant-loop-f l = Storing factor_file l.f-items l.initial.out l.at l.out l.p l.f-index
