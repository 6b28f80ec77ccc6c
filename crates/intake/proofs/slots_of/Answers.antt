-- `slots_of` meets its contract. The invariant: the rows before i are looked at.
use mathlib.Core.Path.{sym, ap, ◌∙◌}
use Prim.Native.Nat.{◌*◌, ◌<◌}
use native.Mathlib.Omega.{arith}
use Rattle.tables.specs.Held.{pack_slots}
use Rattle.tables.proofs.Slotting.{slotting_none, slotting_on, slotting_end}
use Rattle.wire.specs.Bytes.{run_at}
use Rattle.wire.specs.Records.{row_at}
use Rattle.wire.proofs.Runs.{length_run_at}
use Rattle.intake.proofs.TableRows.{row_here, slot_base, slot_derived}
use Rattle.intake.proofs.slots_of.Goals as goal
use Rattle.intake.proofs.slots_of.Goals.{then-kind-eq0, else-kind-eq0}

pub loop-i-init : goal.loop-i-init
loop-i-init c = let a = c.args in slotting_none (run_at row_at 176 a.n a.s.now 0) c.no_slots-slots.result c.no_slots-slots.ensures

pub loop-i-preserved : goal.loop-i-preserved
loop-i-preserved c =
    let k = c.loop-i in
    let a = c.args in
    let low : k.i < a.n = c.loop-i-test.true in
    let kind = c.read_u16-kind in
    slotting_on (run_at row_at 176 a.n a.s.now 0) k.slots k.i k.invariant (row_at a.s.now (k.i * 176)) (row_here a.s.now a.n k.i low) c.if-kind-eq0.slots
    λ ss e.
    elim c.if-kind-eq0.branch [
      | then-kind-eq0 w ↦ w.slots-is ∙ w.slotted-slots.ensures ss e ∙ ap pack_slots (slot_base a.s.now (k.i * 176) (sym kind.ensures ∙ w.if-kind-eq0.true) k.i w.read_u16.result w.read_u16.ensures ss)
      | else-kind-eq0 w ↦ w.slots-is ∙ e ∙ ap pack_slots (sym (slot_derived a.s.now (k.i * 176) (λ z. w.if-kind-eq0.false (kind.ensures ∙ z)) _ ss))
    ]

pub returns : goal.returns
returns c =
    let k = c.loop-i in
    let a = c.args in
    slotting_end (run_at row_at 176 a.n a.s.now 0) k.slots k.i k.invariant (omega (arith, length_run_at row_at 176 a.n a.s.now 0))
