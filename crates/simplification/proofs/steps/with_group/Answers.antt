-- `with_group` meets its contract.
use mathlib.Core.Path.{ap, sym, ◌∙◌}
use mathlib.Core.List.{◌++◌}
use Prim.Native.Nat.{◌+◌}
use native.Mathlib.Omega.{arith}
use lib.Ieee.{binary64, mul}
use Rattle.exponents.proofs.Handed.{handed_on}
use Rattle.tables.specs.Held.{rules_by}
use Rattle.canonical.proofs.Judged.{formed, unformed}
use Rattle.canonical.proofs.Seen.{len_items}
use Rattle.targets.specs.Groups.{target}
use Rattle.targets.proofs.Grouping.{group_resolved}
use Rattle.targets.proofs.Within.{target_resolved}
use Rattle.simplification.specs.Steps.{grown}
use Rattle.simplification.specs.Held.{next_group}
use Rattle.simplification.proofs.Turns.{aim_short, target_stops, conversion_stops, group_done, halted, moved}
use Rattle.simplification.proofs.steps.with_group.Goals as goal

pub returns-in_err-m-clause-value : goal.returns-in_err-m-clause-value
returns-in_err-m-clause-value c v us cs lends g =
    let s = c.args in
    let gs = next_group v s.p cs in
    let r = group_resolved g.whole s.p.next c.group_at-g.result (c.group_at-g.ensures.1 v cs g.whole g.more) in
    handed_on _ _ c.from_residual.ensures.1
    ∙ halted v (grown (rules_by v s.n) s.p.factor us gs) _ _ (target_stops (rules_by v s.n) s.p.factor us gs _ (unformed v (target (rules_by v s.n) gs) _ (c.in_err-m.ensures v gs lends r)))

pub returns-in_err-z-clause-value : goal.returns-in_err-z-clause-value
returns-in_err-z-clause-value c v us cs lends g =
    let s = c.args in
    let gs = next_group v s.p cs in
    let r = group_resolved g.whole s.p.next c.group_at-g.result (c.group_at-g.ensures.1 v cs g.whole g.more) in
    let t = formed v (target (rules_by v s.n) gs) _ (target_resolved r (rules_by v s.n)) (c.in_ok-m.ensures v gs lends r) in
    handed_on _ _ c.from_residual-in_err-z.ensures.1
    ∙ halted v (grown (rules_by v s.n) s.p.factor us gs) _ _ (conversion_stops (rules_by v s.n) s.p.factor us gs t.answer t.is _ (sym (c.in_err-z.ensures v gs t.answer lends r t.list)))

pub returns-clause-rises : goal.returns-clause-rises
returns-clause-rises c = (omega (arith, c.group_at-g.ensures.0.0), omega (arith, c.requires, c.group_at-g.ensures.0.1))

pub returns-clause-value : goal.returns-clause-value
returns-clause-value c v us cs lends g =
    let s = c.args in
    let gs = next_group v s.p cs in
    let r = group_resolved g.whole s.p.next c.group_at-g.result (c.group_at-g.ensures.1 v cs g.whole g.more) in
    let t = formed v (target (rules_by v s.n) gs) _ (target_resolved r (rules_by v s.n)) (c.in_ok-m.ensures v gs lends r) in
    moved v (grown (rules_by v s.n) s.p.factor us gs) _ _ (mul binary64 s.p.factor c.in_ok-z.z) (us ++ t.answer) _
    (c.joined.ensures v us t.answer g.done t.list (omega (arith, c.requires, g.fewer, aim_short (rules_by v s.n) s.p.factor us gs r t.answer t.is)))
    (ap (λ k. s.p.next + k) (len_items v gs _ r.is))
    (group_done (rules_by v s.n) s.p.factor us gs t.answer t.is _ (sym (c.in_ok-z.ensures v gs t.answer lends r t.list)))
