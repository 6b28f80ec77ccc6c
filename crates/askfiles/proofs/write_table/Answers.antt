-- `write_table` meets its contract: the table's file into the part of the room behind the two numbers, then the numbers.
use native.Mathlib.Omega.{arith}
use mathlib.Core.Path.{sym, ◌∙◌}
use Rattle.exponents.proofs.Handed.{handed_on}
use Rattle.tablefiles.proofs.Sized.{file_some}
use Rattle.askfiles.specs.Calls.{write_table}
use Rattle.askfiles.proofs.Filed.{file_refused, long_enough, file_short, file_written}
use Rattle.askfiles.proofs.write_table.Goals as goal

pub returns-in_err-n : goal.returns-in_err-n
unfolding write_table
returns-in_err-n c =
    rw (← c.table-t.ensures) (file_refused c.args.out.now c.min-from.result c.args.room c.min.result c.min-from.ensures c.min.ensures _ (file_some c.table-t.result)
    _ c.write_table.ensures.1 _ (sym c.in_err-n.was ∙ c.write_table.ensures.0) _ (handed_on _ _ c.from_residual.ensures.1))

pub store-requires : goal.store-requires
store-requires c =
    omega (
      arith,
      long_enough c.args.out.now c.min-from.result c.args.room c.min.result c.min-from.ensures c.min.ensures _ (file_some c.table-t.result)
          _ c.write_table.ensures.1 _ (sym c.in_ok-n.was ∙ c.write_table.ensures.0),
    )

pub store-requires-2 : goal.store-requires-2
store-requires-2 c =
    omega (
      arith,
      c.store.ensures.1,
      long_enough c.args.out.now c.min-from.result c.args.room c.min.result c.min-from.ensures c.min.ensures _ (file_some c.table-t.result)
          _ c.write_table.ensures.1 _ (sym c.in_ok-n.was ∙ c.write_table.ensures.0),
    )

pub overflow_add-result : goal.overflow_add-result
overflow_add-result c =
    omega (
      arith,
      file_short c.args.out.now c.min-from.result c.args.room c.min.result c.min-from.ensures c.min.ensures _ (file_some c.table-t.result)
          _ c.write_table.ensures.1 _ (sym c.in_ok-n.was ∙ c.write_table.ensures.0),
    )

pub returns : goal.returns
unfolding write_table
returns c =
    rw (← c.table-t.ensures) (file_written c.args.out.now c.min-from.result c.args.room c.min.result c.min-from.ensures c.min.ensures _ (file_some c.table-t.result)
    _ c.write_table.ensures.1 _ (sym c.in_ok-n.was ∙ c.write_table.ensures.0) _ _ c.store.ensures.0 c.store-2.ensures.0)
