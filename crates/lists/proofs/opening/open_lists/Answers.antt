-- `open_lists` meets its contract.
use Rattle.lists.proofs.Ends.{tells_of}
use Rattle.lists.proofs.opening.open_lists.Goals as goal

pub returns : goal.returns
returns c =
    let rows = c.args.rows in
    record { is = c.open_over.ensures rows c.admit-t.ensures; tells = tells_of rows _ _ _ _ _ c.admit-t.ensures.pages }
