-- `slots_of` meets its contract. The invariant: the rows before i are looked at.
use borrow.Author.Rules.{rules}
use mathlib.Core.Path.{◌≡◌}
use native.Mathlib.Omega.{arith}
use lib.ListN.{length}
use Rattle.tables.specs.Rows.{rows_of}
use Rattle.exponents.proofs.Words.{unmapped}
use Rattle.tables.proofs.Terms.{nil_row}
use Rattle.tables.proofs.Slotting.{slotting_none, slotting_on, slotting_end, long_rows, row_here}
use Rattle.tables.proofs.admission.slots_of.Goals as goal

pub loop-i-init : goal.loop-i-init
loop-i-init c = slotting_none (rows_of c.args.rows) _ c.no_slots-slots.ensures

pub loop-i-preserved : goal.loop-i-preserved
loop-i-preserved c =
    let full : length c.args.rows.at ≡ 128 = search (rules, unmapped) in
    let k = c.loop-i in
    slotting_on (rows_of c.args.rows) k.slots k.i k.invariant _ (row_here c.args.rows (full) c.requires k.i nil_row (omega arith)) c.slotted-slots.result c.slotted-slots.ensures

pub returns : goal.returns
returns c =
    let full : length c.args.rows.at ≡ 128 = search (rules, unmapped) in
    let k = c.loop-i in
    slotting_end (rows_of c.args.rows) k.slots k.i k.invariant (omega (arith, long_rows c.args.rows (full) c.requires))
