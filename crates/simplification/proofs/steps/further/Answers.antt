-- `further` meets its contract.
use mathlib.Core.Path.{sym, ap, ◌∙◌}
use Prim.Native.Nat.{◌<◌}
use native.Mathlib.Omega.{arith}
use lib.ListN.{length}
use Rattle.exponents.proofs.Handed.{handed_on}
use Rattle.exponents.proofs.Numbers.{apply_answers, apply_refuses}
use Rattle.tables.specs.Lists.{base}
use Rattle.tables.specs.Held.{pack_exps, view_bases, rules_by}
use Rattle.canonical.specs.Canonical.{canon}
use Rattle.canonical.proofs.Judged.{formed, canon_formed, unformed}
use Rattle.canonical.proofs.Seen.{len_items}
use Rattle.targets.specs.Single as single
use Rattle.targets.proofs.Within.{search_resolved}
use Rattle.simplification.specs.Held.{handed}
use Rattle.simplification.proofs.Stepping.{search_range, form_stops, too_few, search_stops, search_found}
use Rattle.simplification.proofs.steps.further.Goals as goal

pub returns-in_err-c : goal.returns-in_err-c
returns-in_err-c c v fs lends l =
    let s = c.args in
    handed_on _ _ c.from_residual.ensures.1
    ∙ sym (ap handed (form_stops (rules_by v s.n) s.x fs _ (unformed v (canon v.order fs) _ (c.in_err-c.ensures v fs l))))

pub returns-then-c-lt2 : goal.returns-then-c-lt2
returns-then-c-lt2 c v fs lends l =
    let s = c.args in
    let f = canon_formed v _ fs _ l (c.in_ok-c.ensures v fs l) in
    c.by_groups.ensures v f.answer lends f.list
    ∙ sym (ap handed (too_few (rules_by v s.n) s.x fs f.answer f.is (omega (arith, len_items v f.answer _ f.list.is, c.if-c-lt2.true))))

pub returns-in_err-e : goal.returns-in_err-e
returns-in_err-e c v fs lends l =
    let s = c.args in
    let f = canon_formed v _ fs _ l (c.in_ok-c.ensures v fs l) in
    let many : length f.answer < 2 → ⊥ = λ h. omega (arith, len_items v f.answer _ f.list.is, c.if-c-lt2.false) in
    let b = apply_refuses pack_exps (base (view_bases v s.n) f.answer) _ (sym (c.in_err-e.ensures v f.answer lends f.list)) in
    handed_on _ _ c.from_residual-in_err-e.ensures.1
    ∙ sym (ap handed (search_stops (rules_by v s.n) s.x fs f.answer f.is many _ (search_range (rules_by v s.n) f.answer many _ b)))

pub returns-in_err-t : goal.returns-in_err-t
returns-in_err-t c v fs lends l =
    let s = c.args in
    let f = canon_formed v _ fs _ l (c.in_ok-c.ensures v fs l) in
    let many : length f.answer < 2 → ⊥ = λ h. omega (arith, len_items v f.answer _ f.list.is, c.if-c-lt2.false) in
    let b = apply_answers pack_exps (base (view_bases v s.n) f.answer) _ (sym (c.in_ok-e.ensures v f.answer lends f.list)) in
    handed_on _ _ c.from_residual-in_err-t.ensures.1
    ∙ sym (ap handed (search_stops (rules_by v s.n) s.x fs f.answer f.is many _ (unformed v (single.search (view_bases v s.n) f.answer f.answer) _ (c.in_err-t.ensures v f.answer b.answer lends f.list (sym b.made) b.is))))

pub returns : goal.returns
returns c v fs lends l =
    let s = c.args in
    let f = canon_formed v _ fs _ l (c.in_ok-c.ensures v fs l) in
    let many : length f.answer < 2 → ⊥ = λ h. omega (arith, len_items v f.answer _ f.list.is, c.if-c-lt2.false) in
    let b = apply_answers pack_exps (base (view_bases v s.n) f.answer) _ (sym (c.in_ok-e.ensures v f.answer lends f.list)) in
    let t = formed v (single.search (view_bases v s.n) f.answer f.answer) _ (search_resolved f.list (view_bases v s.n)) (c.in_ok-t.ensures v f.answer b.answer lends f.list (sym b.made) b.is) in
    c.toward.ensures v fs t.answer f.answer lends l t.list f.list
    ∙ sym (ap handed (search_found (rules_by v s.n) s.x fs f.answer f.is many t.answer t.is))
