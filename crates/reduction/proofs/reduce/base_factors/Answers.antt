-- `base_factors` meets its contract. The invariant: the base rows before i are reduced.
use borrow.Author.Rules.{rules}
use mathlib.Core.Path.{◌≡◌, sym, ap, ◌∙◌}
use native.Mathlib.Omega.{arith}
use lib.ListN.{length}
use Rattle.units.specs.Lists.{pack}
use Rattle.tables.specs.Held.{no_slot}
use Rattle.exponents.proofs.Words.{unmapped}
use Rattle.reduction.proofs.Reducing.{none_reduced, slot_skip, pushed, reduced_room, reduced_end}
use Rattle.reduction.proofs.reduce.base_factors.Goals as goal
use Rattle.reduction.proofs.reduce.base_factors.Goals.{then-not-same, else-not-same}

pub loop-i-init : goal.loop-i-init
loop-i-init c =
    let a = c.args in
    none_reduced a.slots.at a.e c.empty-o.result c.empty-o.ensures

pub push-o-requires : goal.push-o-requires
push-o-requires c =
    let slots-full : length c.args.slots.at ≡ 16 = search (rules, unmapped) in
    let k = c.loop-i in
    let full = slots-full in
    reduced_room c.args.slots.at c.args.e k.i k.o (omega arith) (omega arith) k.invariant

pub loop-i-preserved : goal.loop-i-preserved
loop-i-preserved c =
    let slots-full : length c.args.slots.at ≡ 16 = search (rules, unmapped) in
    let k = c.loop-i in
    let full = slots-full in
    elim c.if-not-same.branch [
      | then-not-same w ↦ w.o-is
          ∙ pushed c.args.slots.at c.args.e k.i _ _ (omega arith) (omega arith) k.o k.invariant w.base_factor-f.result w.base_factor-f.ensures w.push-o.result w.push-o.ensures
          (sym c.same.ensures ∙ w.if-not-same.true)
      | else-not-same w ↦ w.o-is ∙ k.invariant ∙ ap pack (sym (slot_skip c.args.slots.at c.args.e k.i no_slot _ (omega arith) (omega arith) (sym c.same.ensures ∙ w.if-not-same.false)))
    ]

pub returns : goal.returns
returns c h =
    let k = c.loop-i in
    let same = c.capped-i-end.ensures.1 h in
    reduced_end c.args.slots c.args.e k.i k.o (omega arith) k.invariant
