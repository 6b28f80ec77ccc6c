-- `unlike` meets its contract.
use mathlib.Core.Path.{sym, ap, ◌∙◌}
use mathlib.Core.List.{◌++◌}
use Rattle.exponents.proofs.Handed.{handed_on}
use Rattle.exponents.proofs.Numbers.{apply_answers, apply_refuses}
use Rattle.floats.specs.Power.{tally}
use Rattle.tables.specs.Rules.{counted}
use Rattle.tables.specs.Lists.{base}
use Rattle.tables.specs.Held.{pack_exps, rules_by}
use Rattle.canonical.proofs.Judged.{formed, unformed}
use Rattle.common.specs.Held.{lessen}
use Rattle.common.proofs.Resolved.{lessen_resolved}
use Rattle.conversion.specs.Held.{tallied_by}
use Rattle.conversion.proofs.Converting.{seen_same, own_refused, own_range, target_stops, target_range, units_differ, units_same}
use Rattle.conversion.proofs.convert.unlike.Goals as goal

pub returns-in_err-p : goal.returns-in_err-p
returns-in_err-p c v fs gs cs lends rl rm rc x =
    let R = counted (rules_by v c.args.n) in
    ap (λ o. tallied_by o x) (handed_on _ _ c.from_residual.ensures.1)
    ∙ own_range R (fs ++ cs) (lessen v.order gs cs) (tally x 0) _ (apply_refuses pack_exps (base R.bases (fs ++ cs)) _ (sym (c.in_err-p.ensures v fs cs lends rl rc)))

pub returns-in_err-u : goal.returns-in_err-u
returns-in_err-u c v fs gs cs lends rl rm rc x =
    let R = counted (rules_by v c.args.n) in
    let a = apply_answers pack_exps (base R.bases (fs ++ cs)) _ (sym (c.in_ok-p.ensures v fs cs lends rl rc)) in
    ap (λ o. tallied_by o x) (handed_on _ _ c.from_residual-in_err-u.ensures.1)
    ∙ target_stops R (fs ++ cs) (lessen v.order gs cs) (tally x 0) a.answer a.is _ (unformed v (lessen v.order gs cs) _ (c.in_err-u.ensures v gs cs rm rc))

pub returns-in_err-q : goal.returns-in_err-q
returns-in_err-q c v fs gs cs lends rl rm rc x =
    let R = counted (rules_by v c.args.n) in
    let a = apply_answers pack_exps (base R.bases (fs ++ cs)) _ (sym (c.in_ok-p.ensures v fs cs lends rl rc)) in
    let t = formed v (lessen v.order gs cs) _ (lessen_resolved v gs cs rm rc) (c.in_ok-u.ensures v gs cs rm rc) in
    ap (λ o. tallied_by o x) (handed_on _ _ c.from_residual-in_err-q.ensures.1)
    ∙ target_range R (fs ++ cs) (lessen v.order gs cs) (tally x 0) a.answer a.is t.answer t.is _ (apply_refuses pack_exps (base R.bases t.answer) _ (sym (c.in_err-q.ensures v t.answer lends t.list)))

pub returns-then-not-same_exponents : goal.returns-then-not-same_exponents
returns-then-not-same_exponents c v fs gs cs lends rl rm rc x =
    let n = c.args.n in
    let R = counted (rules_by v n) in
    let a = apply_answers pack_exps (base R.bases (fs ++ cs)) _ (sym (c.in_ok-p.ensures v fs cs lends rl rc)) in
    let t = formed v (lessen v.order gs cs) _ (lessen_resolved v gs cs rm rc) (c.in_ok-u.ensures v gs cs rm rc) in
    let b = apply_answers pack_exps (base R.bases t.answer) _ (sym (c.in_ok-q.ensures v t.answer lends t.list)) in
    let d = sym (seen_same v n (fs ++ cs) t.answer a.answer b.answer _ _ a.is b.is a.made b.made) ∙ sym c.same_exponents.ensures in
    units_differ R (fs ++ cs) (lessen v.order gs cs) (tally x 0) a.answer a.is t.answer t.is b.answer b.is (d ∙ c.if-not-same_exponents.true)

pub returns-in_err-s : goal.returns-in_err-s
returns-in_err-s c v fs gs cs lends rl rm rc x =
    let n = c.args.n in
    let R = counted (rules_by v n) in
    let a = apply_answers pack_exps (base R.bases (fs ++ cs)) _ (sym (c.in_ok-p.ensures v fs cs lends rl rc)) in
    let t = formed v (lessen v.order gs cs) _ (lessen_resolved v gs cs rm rc) (c.in_ok-u.ensures v gs cs rm rc) in
    let b = apply_answers pack_exps (base R.bases t.answer) _ (sym (c.in_ok-q.ensures v t.answer lends t.list)) in
    let d = sym (seen_same v n (fs ++ cs) t.answer a.answer b.answer _ _ a.is b.is a.made b.made) ∙ sym c.same_exponents.ensures in
    ap (λ o. tallied_by o x) (handed_on _ _ c.from_residual-in_err-s.ensures.1)
    ∙ own_refused R (fs ++ cs) t.answer (tally x 0) _ (sym (c.in_err-s.ensures.1 v fs cs rl rc))
    ∙ units_same R (fs ++ cs) (lessen v.order gs cs) (tally x 0) a.answer a.is t.answer t.is b.answer b.is (d ∙ c.if-not-same_exponents.false)

pub rescaled-requires : goal.rescaled-requires
rescaled-requires c = c.in_ok-s.ensures.0

pub returns : goal.returns
returns c v fs gs cs lends rl rm rc x =
    let n = c.args.n in
    let R = counted (rules_by v n) in
    let a = apply_answers pack_exps (base R.bases (fs ++ cs)) _ (sym (c.in_ok-p.ensures v fs cs lends rl rc)) in
    let t = formed v (lessen v.order gs cs) _ (lessen_resolved v gs cs rm rc) (c.in_ok-u.ensures v gs cs rm rc) in
    let b = apply_answers pack_exps (base R.bases t.answer) _ (sym (c.in_ok-q.ensures v t.answer lends t.list)) in
    let d = sym (seen_same v n (fs ++ cs) t.answer a.answer b.answer _ _ a.is b.is a.made b.made) ∙ sym c.same_exponents.ensures in
    c.rescaled.ensures v n (fs ++ cs) t.answer (sym (c.in_ok-s.ensures.1 v fs cs rl rc)) t.list x
    ∙ units_same R (fs ++ cs) (lessen v.order gs cs) (tally x 0) a.answer a.is t.answer t.is b.answer b.is (d ∙ c.if-not-same_exponents.false)
