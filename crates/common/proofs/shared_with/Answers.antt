-- `shared_with` meets its contract. The invariant: the factors before j have another row or prefix.
use mathlib.Core.Path.{sym, ap, ◌∙◌}
use native.Mathlib.Omega.{arith}
use Rattle.std.specs.Ordering.{is_eq}
use Rattle.canonical.proofs.Comparing.{sense_eq}
use Rattle.reduction.proofs.Resolved.{nil_item, items_len}
use Rattle.common.proofs.Sharing.{shared_end, shared_here, shared_past}
use Rattle.common.proofs.shared_with.Goals as goal

pub returns-then-is_eq : goal.returns-then-is_eq
returns-then-is_eq c v gs e h at =
    let k = c.loop-j in
    let m = c.args.m.now in
    let n = items_len v m gs e in
    let same = c.capped-j-end.ensures.1 (omega arith) in
    c.meet.ensures ∙ shared_here v m gs e _ _ at k.j (k.invariant v gs e h at) (omega arith) nil_item (sym (sense_eq _) ∙ ap is_eq (sym c.compared.ensures) ∙ sym c.is_eq.ensures ∙ c.if-is_eq.true)

pub loop-j-preserved : goal.loop-j-preserved
loop-j-preserved c v gs e h at =
    let k = c.loop-j in
    let m = c.args.m.now in
    let n = items_len v m gs e in
    let same = c.capped-j-end.ensures.1 (omega arith) in
    shared_past v m gs e _ _ at k.j (k.invariant v gs e h at) (omega arith) nil_item (sym (sense_eq _) ∙ ap is_eq (sym c.compared.ensures) ∙ sym c.is_eq.ensures ∙ c.if-is_eq.false)

pub returns : goal.returns
returns c v gs e h at =
    let k = c.loop-j in
    let m = c.args.m.now in
    let n = items_len v m gs e in
    let same = c.capped-j-end.ensures.1 (omega arith) in
    shared_end v m gs e _ _ at k.j (k.invariant v gs e h at) (omega arith)
