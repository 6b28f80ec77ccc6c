-- `is_multiple_of` meets its contract.
use mathlib.Core.Path.{sym, ap₂, ◌∙◌}
use Rattle.exponents.proofs.Handed.{handed_on}
use Rattle.exponents.proofs.Numbers.{apply_answers, apply_refuses}
use Rattle.tables.specs.Lists.{base}
use Rattle.tables.specs.Held.{pack_exps, view_bases}
use Rattle.reduction.specs.Multiple.{multiple_of}
use Rattle.reduction.proofs.Handed.{base_long}
use Rattle.reduction.proofs.Widened.{first_range, second_range, both_given}
use Rattle.reduction.proofs.multiples.is_multiple_of.Goals as goal

pub returns-in_err-x : goal.returns-in_err-x
returns-in_err-x c v fs gs lends r s =
    let bs = view_bases v c.args.n in
    handed_on _ _ c.from_residual.ensures.1 ∙ (first_range bs fs gs _ (apply_refuses pack_exps (base bs fs) _ (sym (c.in_err-x.ensures v fs lends r))))

pub returns-in_err-y : goal.returns-in_err-y
returns-in_err-y c v fs gs lends r s =
    let bs = view_bases v c.args.n in
    let a = apply_answers pack_exps (base bs fs) _ (sym (c.in_ok-x.ensures v fs lends r)) in
    handed_on _ _ c.from_residual-in_err-y.ensures.1 ∙ (second_range bs fs gs a.answer a.is _ (apply_refuses pack_exps (base bs gs) _ (sym (c.in_err-y.ensures v gs lends s))))

pub returns : goal.returns
returns c v fs gs lends r s =
    let n = c.args.n in
    let bs = view_bases v n in
    let a = apply_answers pack_exps (base bs fs) _ (sym (c.in_ok-x.ensures v fs lends r)) in
    let b = apply_answers pack_exps (base bs gs) _ (sym (c.in_ok-y.ensures v gs lends s)) in
    c.multiple_of.ensures
    ∙ sym (ap₂ multiple_of a.made b.made)
    ∙ both_given bs fs gs a.answer a.is b.answer b.is (base_long v n fs a.answer a.is ∙ sym (base_long v n gs b.answer b.is))
