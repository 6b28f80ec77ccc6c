-- `lessening` meets its contract.
use mathlib.Core.Path.{sym, ◌∙◌, ap}
use Rattle.exponents.proofs.Handed.{handed_on}
use Rattle.exponents.proofs.Holds.{bind_given, bind_refused}
use Rattle.exponents.proofs.Numbers.{apply_answers, apply_refuses}
use Rattle.floats.specs.Power.{tally}
use Rattle.tables.specs.Rules.{counted}
use Rattle.tables.specs.Lists.{base}
use Rattle.tables.specs.Held.{pack_exps, rules_by}
use Rattle.canonical.proofs.Judged.{formed, unformed}
use Rattle.common.specs.Held.{lessen}
use Rattle.common.proofs.Resolved.{lessen_resolved}
use Rattle.conversion.specs.Conversion.{against}
use Rattle.conversion.specs.Held.{tallied_by}
use Rattle.conversion.proofs.Converting.{own_range, target_stops}
use Rattle.conversion.proofs.convert.lessening.Goals as goal

pub returns-in_err-own : goal.returns-in_err-own
returns-in_err-own c v fs gs cs lends rl rm rc x =
    ap (λ o. tallied_by o x) (handed_on _ _ c.from_residual.ensures.1)
    ∙ sym (bind_refused _ (unformed v (lessen v.order fs cs) _ (c.in_err-own.ensures v fs cs rl rc)))

pub returns-in-Ok : goal.returns-in-Ok
returns-in-Ok c v fs gs cs lends rl rm rc x =
    let R = counted (rules_by v c.args.n) in
    let o = formed v (lessen v.order fs cs) _ (lessen_resolved v fs cs rl rc) (c.in_ok-own.ensures v fs cs rl rc) in
    let t = formed v (lessen v.order gs cs) _ (lessen_resolved v gs cs rm rc) (c.in-Ok.ensures v gs cs rm rc) in
    c.apart.ensures v o.answer t.answer lends o.list t.list x
    ∙ ap (λ target. against R o.answer target (tally x 0)) (sym t.is)
    ∙ sym (bind_given _ o.is)

pub returns-in_err-base_of-in-Err : goal.returns-in_err-base_of-in-Err
returns-in_err-base_of-in-Err c v fs gs cs lends rl rm rc x =
    let R = counted (rules_by v c.args.n) in
    let o = formed v (lessen v.order fs cs) _ (lessen_resolved v fs cs rl rc) (c.in_ok-own.ensures v fs cs rl rc) in
    ap (λ o. tallied_by o x) (handed_on _ _ c.from_residual-in_err-base_of-in-Err.ensures.1)
    ∙ own_range R o.answer (lessen v.order gs cs) (tally x 0) _ (apply_refuses pack_exps (base R.bases o.answer) _ (sym (c.in_err-base_of-in-Err.ensures v o.answer lends o.list)))
    ∙ sym (bind_given _ o.is)

pub returns-in_ok-base_of-in-Err : goal.returns-in_ok-base_of-in-Err
returns-in_ok-base_of-in-Err c v fs gs cs lends rl rm rc x =
    let R = counted (rules_by v c.args.n) in
    let o = formed v (lessen v.order fs cs) _ (lessen_resolved v fs cs rl rc) (c.in_ok-own.ensures v fs cs rl rc) in
    let a = apply_answers pack_exps (base R.bases o.answer) _ (sym (c.in_ok-base_of-in-Err.ensures v o.answer lends o.list)) in
    target_stops R o.answer (lessen v.order gs cs) (tally x 0) a.answer a.is _ (unformed v (lessen v.order gs cs) _ (c.in-Err.ensures v gs cs rm rc))
    ∙ sym (bind_given _ o.is)
