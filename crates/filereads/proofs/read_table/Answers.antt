-- `read_table` meets its contract where the count is read: all rows, and nothing behind them.
use borrow.Author.Rules.{rules}
use Rattle.groups.specs.Numbers.{up_to?}
use Rattle.groups.proofs.Steps.{Read, number_found}
use Rattle.filereads.proofs.Walked.{table_broken, table-whole}
use Rattle.filereads.proofs.read_table.Goals as goal

pub returns-then-f-n : goal.returns-then-f-n
returns-then-f-n c =
    let s = c.args in
    let r : Read (up_to? 4294967295) s.s.now 0 c.in_ok-n.n c.in_ok-n.at = number_found s.s.now 0 4294967295 _ _ _ c.read_number.ensures c.in_ok-n.was in
    table_broken s.places s.s.now _ _ r (search rules) c.read_rows-f.result c.read_rows-f.ensures c.if-f-n.true

pub returns : goal.returns
returns c =
    let s = c.args in
    let r : Read (up_to? 4294967295) s.s.now 0 c.in_ok-n.n c.in_ok-n.at = number_found s.s.now 0 4294967295 _ _ _ c.read_number.ensures c.in_ok-n.was in
    table-whole s.places s.s.now _ _ r (search rules) c.read_rows-f.result c.read_rows-f.ensures c.if-f-n.false
