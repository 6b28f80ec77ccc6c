-- `full_simplify` meets its contract.
use borrow.Author.Rules.{rules}
use Rattle.lists.proofs.Ready.{beside}
use Rattle.simplification.proofs.full_simplify.Goals as goal

pub returns : goal.returns
returns c =
    let s = c.args in
    c.full_simplify_over.ensures s.rows (beside c.empty-none.ensures c.open_lists-o.ensures)
