-- `write_table` meets its contract.
use borrow.Author.Rules.{rules}
use mathlib.Core.Path.{◌≡◌}
use native.Mathlib.Omega.{arith}
use lib.ListN.{length}
use Rattle.exponents.proofs.Words.{unmapped}
use Rattle.tables.specs.Rows.{rows_of}
use Rattle.files.specs.Records.{row_file}
use Rattle.filewrites.proofs.Written.{storing_room, storing_on, storing_end, row_few, rows_long, table_length, table_written}
use Rattle.filewrites.proofs.write_table.Goals as goal

pub write_number-p-requires : goal.write_number-p-requires
write_number-p-requires c =
    let sized : length c.args.t.at ≡ 128 = search (rules, unmapped) in
    let m = table_length c.args.t (rows_long c.args.t sized c.requires.0) in
    omega arith

pub write_row-p-requires : goal.write_row-p-requires
write_row-p-requires c =
    let sized : length c.args.t.at ≡ 128 = search (rules, unmapped) in
    let k = c.loop-r in
    let m = table_length c.args.t (rows_long c.args.t sized c.requires.0) in
    (row_few c.args.t k.r-index _ c.loop-r-test.true c.requires.1, storing_room row_file (rows_of c.args.t) _ _ _ _ _ k.r-index c.loop-r-test.true k.invariant (omega arith))

pub loop-r-preserved : goal.loop-r-preserved
loop-r-preserved c =
    let k = c.loop-r in
    let w = c.write_row-p.ensures in
    storing_on row_file (rows_of c.args.t) _ _ _ k.out k.p k.r-index _ _ c.loop-r-test.true k.invariant w.0 w.1 w.2

pub returns : goal.returns
returns c =
    let sized : length c.args.t.at ≡ 128 = search (rules, unmapped) in
    let k = c.loop-r in
    let m = rows_long c.args.t sized c.requires.0 in
    let w = c.write_number-p.ensures in
    let e = storing_end row_file (rows_of c.args.t) _ _ k.out k.p k.r-index c.loop-r-test.false k.invariant in
    let x = table_length c.args.t m in
    (table_written c.args.t _ _ _ _ m w.0 w.2 e.0, omega (arith, e.1), omega (arith, e.2))
