-- Each candidate that `candidates` reads stands in the bytes.
use mathlib.Core.Path.{ap, ◌∙◌}
use native.Mathlib.Omega.{arith}
use Rattle.wire.specs.Bytes.{count_of}
use Rattle.wire.proofs.Runs.{records_inside}
use Rattle.wire.proofs.arguments.candidates.Goals as goal

pub read_candidate-requires : goal.read_candidate-requires
read_candidate-requires c =
    let n = c.count-n.ensures.0 ∙ ap (count_of 32) c.many-len.ensures in
    records_inside 328 32 _ _ (omega arith) (rw n at c.loop-i-test.true)
