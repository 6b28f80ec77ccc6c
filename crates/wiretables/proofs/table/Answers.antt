-- Each row that `table` reads stands in the bytes.
use mathlib.Core.Path.{ap, ◌∙◌}
use native.Mathlib.Omega.{arith}
use Rattle.wire.specs.Bytes.{count_of}
use Rattle.wire.proofs.Runs.{records_inside}
use Rattle.wiretables.proofs.table.Goals as goal

pub read_row-requires : goal.read_row-requires
read_row-requires c =
    let n = c.count-n.ensures.0 ∙ ap (count_of 128) c.many-len.ensures in
    records_inside 176 128 _ _ (omega arith) (rw n at c.loop-i-test.true)
