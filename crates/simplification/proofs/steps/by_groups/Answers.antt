-- `by_groups` meets its contract. The invariant: of the groups before `next` the targets are joined and the product is worked out; what is left of the groups gives the whole.
use mathlib.Core.Path.{refl, sym, ap, ◌∙◌}
use Prim.Native.Nat.{◌<◌}
use native.Mathlib.Omega.{arith}
use lib.ListN.{length}
use Rattle.exponents.specs.Outcome.{Ok}
use Rattle.exponents.proofs.Handed.{handed_on}
use Rattle.canonical.specs.Canonical.{canon}
use Rattle.canonical.specs.Held.{form_of}
use Rattle.canonical.proofs.Agree.{canon_placed}
use Rattle.canonical.proofs.Judged.{canon_formed, unformed}
use Rattle.canonical.proofs.Seen.{len_items}
use Rattle.simplification.specs.Held.{handed}
use Rattle.simplification.proofs.Turns.{along_none, grows, along_on, along_off, along_unformed, along_end}
use Rattle.simplification.proofs.steps.by_groups.Goals as goal

pub loop-p-init : goal.loop-p-init
loop-p-init c v cs lends l = along_none v _ cs l.placed _ _ c.no_items.ensures refl

pub with_group-requires : goal.with_group-requires
with_group-requires c = omega (arith, c.capped-m.ensures.0)

pub returns-in_err-p : goal.returns-in_err-p
returns-in_err-p c v cs lends l =
    let s = c.args in
    let a = c.loop-p.invariant v cs lends l in
    let long = len_items v cs s.c l.is in
    let same = c.capped-m.ensures.1 (omega (arith, l.short)) in
    let h : c.loop-p.p.next < length cs = omega (arith, c.loop-p-test.true) in
    let r = along_off v s.n cs l c.loop-p.p a h s.x _ (c.in_err-p.ensures.value v a.targets cs lends (grows v s.n cs l c.loop-p.p a h)) in
    handed_on _ _ c.from_residual.ensures.1 ∙ sym (ap handed r)

pub loop-p-smaller : goal.loop-p-smaller
loop-p-smaller c = omega (arith, c.in_ok-p.ensures.rises.0)

pub loop-p-preserved : goal.loop-p-preserved
loop-p-preserved c v cs lends l =
    let s = c.args in
    let a = c.loop-p.invariant v cs lends l in
    let long = len_items v cs s.c l.is in
    let same = c.capped-m.ensures.1 (omega (arith, l.short)) in
    let h : c.loop-p.p.next < length cs = omega (arith, c.loop-p-test.true) in
    along_on v s.n cs l c.loop-p.p a h _ (c.in_ok-p.ensures.value v a.targets cs lends (grows v s.n cs l c.loop-p.p a h))

pub returns-in_err-w : goal.returns-in_err-w
returns-in_err-w c v cs lends l =
    let s = c.args in
    let a = c.loop-p.invariant v cs lends l in
    let long = len_items v cs s.c l.is in
    let same = c.capped-m.ensures.1 (omega (arith, l.short)) in
    let e = c.in_err-w.ensures v a.targets a.unit.is a.unit.short ∙ ap (form_of v) (canon_placed a.unit) in
    let r = along_unformed v s.n cs c.loop-p.p a s.x (omega (arith, c.loop-p-test.false)) _ (unformed v (canon v.order a.targets) _ e) in
    handed_on _ _ c.from_residual-in_err-w.ensures.1 ∙ sym (ap handed r)

pub returns : goal.returns
returns c v cs lends l =
    let s = c.args in
    let a = c.loop-p.invariant v cs lends l in
    let long = len_items v cs s.c l.is in
    let same = c.capped-m.ensures.1 (omega (arith, l.short)) in
    let e = c.in_ok-w.ensures v a.targets a.unit.is a.unit.short ∙ ap (form_of v) (canon_placed a.unit) in
    let f = canon_formed v _ a.targets c.in_ok-w.w a.unit e in
    let w = along_end v s.n cs c.loop-p.p a s.x (omega (arith, c.loop-p-test.false)) f.answer f.is in
    ap Ok (c.with_mark.ensures f.answer (c.factors_of-l.ensures v f.answer f.list)) ∙ sym (ap handed w)
