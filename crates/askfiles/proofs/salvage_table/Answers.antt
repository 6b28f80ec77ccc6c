-- `salvage_table` meets its contract.
use Rattle.tablefiles.proofs.Sized.{kept_few}
use Rattle.askfiles.proofs.Rowed.{salvage-sent}
use Rattle.askfiles.proofs.salvage_table.Goals as goal

pub rows_behind-requires : goal.rows_behind-requires
rows_behind-requires c = rw c.salvage_table-d.ensures (kept_few _ _).0

pub returns : goal.returns
returns c = salvage-sent _ _ _ c.salvage_table-d.ensures _ _ _ c.rows_behind.ensures
