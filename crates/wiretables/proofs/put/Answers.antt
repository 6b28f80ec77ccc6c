-- `put` meets its contract: owning the row tells the length of its definition.
use borrow.Author.Rules.{rules}
use mathlib.Core.Path.{◌≡◌}
use lib.ListN.{length}
use Rattle.exponents.proofs.Words.{unmapped}
use Rattle.wire.proofs.Stored.{length-row_bytes}
use Rattle.wiretables.proofs.put.Goals as goal

pub returns : goal.returns
returns c =
    let sized : length c.args.r.def ≡ 8 = search (rules, unmapped) in
    (search rules, search rules, length-row_bytes _ (sized))
