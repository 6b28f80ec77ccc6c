-- `table_len` meets its contract.
use borrow.Author.Rules.{rules}
use mathlib.Core.Path.{◌≡◌, ◌∙◌}
use native.Mathlib.Omega.{arith}
use lib.ListN.{length}
use Rattle.exponents.proofs.Words.{unmapped}
use Rattle.tables.specs.Rows.{rows_of}
use Rattle.files.specs.Records.{row_file}
use Rattle.filewrites.proofs.Written.{length_on, length_done, row_few, rows_long, table_length}
use Rattle.filewrites.proofs.table_len.Goals as goal

pub row_len-n-requires : goal.row_len-n-requires
row_len-n-requires c = row_few c.args.t c.loop-r.r-index _ c.loop-r-test.true c.requires.1

pub loop-r-preserved : goal.loop-r-preserved
loop-r-preserved c =
    let k = c.loop-r in
    (omega arith, length_on row_file (rows_of c.args.t) _ k.r-index k.n _ _ c.loop-r-test.true k.invariant.1 c.row_len-n.ensures.0)

pub returns : goal.returns
returns c =
    let sized : length c.args.t.at ≡ 128 = search (rules, unmapped) in
    let k = c.loop-r in
    let m = table_length c.args.t (rows_long c.args.t sized c.requires.0) in
    length_done row_file (rows_of c.args.t) k.r-index k.n _ c.loop-r-test.false k.invariant.1 ∙ omega (arith, m, c.number_len-n.ensures.0)
