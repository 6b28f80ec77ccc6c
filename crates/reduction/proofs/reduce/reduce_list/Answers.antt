-- `reduce_list` meets its contract.
use mathlib.Core.Path.{sym, ap, ◌∙◌}
use native.Mathlib.Omega.{arith}
use lib.ListN.{length}
use Rattle.exponents.proofs.Handed.{handed_on}
use Rattle.exponents.proofs.Numbers.{apply_answers, apply_refuses}
use Rattle.units.specs.Lists.{pack}
use Rattle.tables.specs.Lists.{base}
use Rattle.tables.specs.Held.{pack_exps, rules_by}
use Rattle.tables.proofs.Placing.{len_slots}
use Rattle.reduction.proofs.Handed.{base_long}
use Rattle.reduction.proofs.Reducing.{slots_exps, slots_lend, reduced-packed, reduction_range, reduction_fraction, reduction_given}
use Rattle.reduction.proofs.reduce.reduce_list.Goals as goal

pub returns-in_err-e : goal.returns-in_err-e
returns-in_err-e c v fs ss lends r f =
    let a = c.args in
    let R = rules_by v (length ss) in
    handed_on _ _ c.from_residual.ensures.1 ∙ (reduction_range R ss fs _ (apply_refuses pack_exps (base R.bases fs) _ (sym (slots_exps v a.slots ss f fs _ (c.in_err-e.ensures v fs (slots_lend v a.slots ss f lends) r)))))

pub returns-in_err-s : goal.returns-in_err-s
returns-in_err-s c v fs ss lends r f =
    let a = c.args in
    let R = rules_by v (length ss) in
    let z = apply_answers pack_exps (base R.bases fs) _ (sym (slots_exps v a.slots ss f fs _ (c.in_ok-e.ensures v fs (slots_lend v a.slots ss f lends) r))) in
    handed_on _ _ c.from_residual-in_err-s.ensures.1 ∙ (reduction_fraction R ss fs z.answer z.is _ (sym (c.in_err-s.ensures v fs r)))

pub returns : goal.returns
returns c v fs ss lends r f =
    let a = c.args in
    let n = len_slots a.slots ss f in
    let R = rules_by v (length ss) in
    let z = apply_answers pack_exps (base R.bases fs) _ (sym (slots_exps v a.slots ss f fs _ (c.in_ok-e.ensures v fs (slots_lend v a.slots ss f lends) r))) in
    reduction_given R ss fs z.answer z.is c.base_factors-u.result _
    (c.base_factors-u.ensures (omega (arith, lends.few)) ∙ ap pack (reduced-packed a.slots ss c.in_ok-e.e z.answer f (sym z.made) (base_long v (length ss) fs z.answer z.is)))
    (sym (c.in_ok-s.ensures v fs r))
