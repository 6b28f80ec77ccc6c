-- `open_lists` meets its contract.
use Rattle.lists.proofs.Ends.{tells_of}
use Rattle.wire.specs.Arguments.{table_from}
use Rattle.intake.proofs.open_lists.Goals as goal

pub returns : goal.returns
returns c =
    let rows = table_from c.args.s.now in
    record { is = c.open_over.ensures rows c.admit_bytes-t.ensures; tells = tells_of rows _ _ _ _ _ c.admit_bytes-t.ensures.pages }
