-- What the call by value read, put over the lent rows.
use Rattle.std.proofs.Common.{sym, ◌∙◌}
use Rattle.lentfiles.proofs.Follows.{read_follows}
use Rattle.lentfiles.proofs.read_table.Goals as goal

pub returns : goal.returns
returns c =
    let f = read_follows c.args.file.now c.args.to.now c.in_ok-rows.rows (sym c.read_table.ensures ∙ c.in_ok-rows.was) in
    (f.0, c.put_rows.ensures.1 ∙ f.1)
