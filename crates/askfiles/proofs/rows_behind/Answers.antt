-- `rows_behind` meets its contract: ROOM, or the two numbers and the rows.
use Rattle.askfiles.proofs.Rowed.{rows_refused, rows_written}
use Rattle.askfiles.proofs.rows_behind.Goals as goal

pub returns-then-out-len : goal.returns-then-out-len
returns-then-out-len c rs e m full = rows_refused c.args.rows c.args.n c.args.other c.requires rs e m full _ c.if-out-len.true

pub returns : goal.returns
returns c rs e m full =
    rows_written c.args.rows c.args.n c.args.other c.requires rs e m full _ _ _ _ c.store.ensures.0 c.store-2.ensures.0 c.write_rows.ensures.0 c.if-out-len.false
