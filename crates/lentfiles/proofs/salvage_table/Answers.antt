-- What the call by value keeps, put over the lent rows.
use Rattle.std.proofs.Common.{◌∙◌}
use Rattle.lentfiles.proofs.Follows.{salvage_follows}
use Rattle.lentfiles.proofs.salvage_table.Goals as goal

pub returns : goal.returns
returns c =
    let f = salvage_follows c.args.file.now c.args.to.now c.salvage_table-d.result c.salvage_table-d.ensures in
    (f.0, c.put_rows.ensures.1 ∙ f.1)
