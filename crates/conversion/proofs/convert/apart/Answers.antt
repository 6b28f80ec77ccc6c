-- `apart` meets its contract.
use mathlib.Core.Path.{refl, sym, ap, ◌∙◌}
use native.Mathlib.Omega.{arith}
use Rattle.exponents.specs.Outcome.{Ok}
use Rattle.exponents.proofs.Handed.{handed_on}
use Rattle.exponents.proofs.Numbers.{apply_answers, apply_refuses}
use Rattle.floats.specs.Power.{tally}
use Rattle.tables.specs.Rules.{counted}
use Rattle.tables.specs.Lists.{base}
use Rattle.tables.specs.Held.{pack_exps, rules_by}
use Rattle.conversion.specs.Held.{tallied_by}
use Rattle.conversion.proofs.Converting.{seen_same, own_refused, own_range, target_range, units_differ, units_same}
use Rattle.conversion.proofs.convert.apart.Goals as goal

pub returns-in_err-p : goal.returns-in_err-p
returns-in_err-p c v fs gs lends rl rm x =
    let R = counted (rules_by v c.args.n) in
    ap (λ o. tallied_by o x) (handed_on _ _ c.from_residual.ensures.1)
    ∙ own_range R fs (Ok gs) (tally x 0) _ (apply_refuses pack_exps (base R.bases fs) _ (sym (c.in_err-p.ensures v fs lends rl)))

pub returns-in_err-q : goal.returns-in_err-q
returns-in_err-q c v fs gs lends rl rm x =
    let R = counted (rules_by v c.args.n) in
    let a = apply_answers pack_exps (base R.bases fs) _ (sym (c.in_ok-p.ensures v fs lends rl)) in
    ap (λ o. tallied_by o x) (handed_on _ _ c.from_residual-in_err-q.ensures.1)
    ∙ target_range R fs (Ok gs) (tally x 0) a.answer a.is gs refl _ (apply_refuses pack_exps (base R.bases gs) _ (sym (c.in_err-q.ensures v gs lends rm)))

pub returns-then-not-same_exponents : goal.returns-then-not-same_exponents
returns-then-not-same_exponents c v fs gs lends rl rm x =
    let n = c.args.n in
    let R = counted (rules_by v n) in
    let a = apply_answers pack_exps (base R.bases fs) _ (sym (c.in_ok-p.ensures v fs lends rl)) in
    let b = apply_answers pack_exps (base R.bases gs) _ (sym (c.in_ok-q.ensures v gs lends rm)) in
    let d = sym (seen_same v n fs gs a.answer b.answer _ _ a.is b.is a.made b.made) ∙ sym c.same_exponents.ensures in
    units_differ R fs (Ok gs) (tally x 0) a.answer a.is gs refl b.answer b.is (d ∙ c.if-not-same_exponents.true)

pub returns-in_err-s : goal.returns-in_err-s
returns-in_err-s c v fs gs lends rl rm x =
    let n = c.args.n in
    let R = counted (rules_by v n) in
    let a = apply_answers pack_exps (base R.bases fs) _ (sym (c.in_ok-p.ensures v fs lends rl)) in
    let b = apply_answers pack_exps (base R.bases gs) _ (sym (c.in_ok-q.ensures v gs lends rm)) in
    let d = sym (seen_same v n fs gs a.answer b.answer _ _ a.is b.is a.made b.made) ∙ sym c.same_exponents.ensures in
    ap (λ o. tallied_by o x) (handed_on _ _ c.from_residual-in_err-s.ensures.1)
    ∙ own_refused R fs gs (tally x 0) _ (sym (c.in_err-s.ensures.1 v fs rl))
    ∙ units_same R fs (Ok gs) (tally x 0) a.answer a.is gs refl b.answer b.is (d ∙ c.if-not-same_exponents.false)

pub rescaled-requires : goal.rescaled-requires
rescaled-requires c = omega (arith, c.in_ok-s.ensures.0)

pub returns : goal.returns
returns c v fs gs lends rl rm x =
    let n = c.args.n in
    let R = counted (rules_by v n) in
    let a = apply_answers pack_exps (base R.bases fs) _ (sym (c.in_ok-p.ensures v fs lends rl)) in
    let b = apply_answers pack_exps (base R.bases gs) _ (sym (c.in_ok-q.ensures v gs lends rm)) in
    let d = sym (seen_same v n fs gs a.answer b.answer _ _ a.is b.is a.made b.made) ∙ sym c.same_exponents.ensures in
    c.rescaled.ensures v n fs gs (sym (c.in_ok-s.ensures.1 v fs rl)) rm x
    ∙ units_same R fs (Ok gs) (tally x 0) a.answer a.is gs refl b.answer b.is (d ∙ c.if-not-same_exponents.false)
