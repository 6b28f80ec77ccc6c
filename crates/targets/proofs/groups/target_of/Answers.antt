-- `target_of` meets its contract.
use mathlib.Core.Path.{sym, ap, ◌∙◌}
use native.Mathlib.Omega.{arith}
use lib.ListN.{length}
use Rattle.exponents.proofs.Handed.{handed_on}
use Rattle.exponents.proofs.Numbers.{apply_answers, apply_refuses}
use Rattle.tables.specs.Lists.{base}
use Rattle.tables.specs.Held.{pack_exps, view_bases, pack_items}
use Rattle.targets.proofs.Fitted.{told_first, target_range, target_scalar, chosen, fitted_on, fitted_off}
use Rattle.targets.proofs.groups.target_of.Goals as goal

pub returns-in_err-x : goal.returns-in_err-x
returns-in_err-x c v fs lends r =
    handed_on _ _ c.from_residual.ensures.1 ∙ target_range v c.args.n fs _ (apply_refuses pack_exps (base (view_bases v c.args.n) fs) _ (sym (c.in_err-x.ensures v fs lends r)))

pub returns-then-all_zero : goal.returns-then-all_zero
returns-then-all_zero c v fs lends r =
    let n = c.args.n in
    let b = apply_answers pack_exps (base (view_bases v n) fs) _ (sym (c.in_ok-x.ensures v fs lends r)) in
    target_scalar v n fs b.answer _ b.is (sym b.made) (sym c.all_zero.ensures ∙ c.if-all_zero.true) _ c.no_items.ensures

pub returns-in_err-t : goal.returns-in_err-t
returns-in_err-t c v fs lends r =
    let a = c.args in
    let b = apply_answers pack_exps (base (view_bases v a.n) fs) _ (sym (c.in_ok-x.ensures v fs lends r)) in
    let m =
    chosen v a.n a.l fs r.is b.answer _ b.is (sym b.made) (sym c.all_zero.ensures ∙ c.if-all_zero.false) c.representative-p.result
    (λ g gs w. c.representative-p.ensures.1 v g gs (r.is ∙ ap (pack_items v) w) (omega (arith, r.short, ap length w))) in
    handed_on _ _ c.from_residual-in_err-t.ensures.1 ∙ fitted_off v a.n fs _ m c.first_exponent-d.result (c.first_exponent-d.ensures ∙ told_first lends _) _ (c.in_err-t.ensures v a.n fs lends r)

pub returns : goal.returns
returns c v fs lends r =
    let a = c.args in
    let b = apply_answers pack_exps (base (view_bases v a.n) fs) _ (sym (c.in_ok-x.ensures v fs lends r)) in
    let m =
    chosen v a.n a.l fs r.is b.answer _ b.is (sym b.made) (sym c.all_zero.ensures ∙ c.if-all_zero.false) c.representative-p.result
    (λ g gs w. c.representative-p.ensures.1 v g gs (r.is ∙ ap (pack_items v) w) (omega (arith, r.short, ap length w))) in
    fitted_on v a.n fs _ m c.first_exponent-d.result (c.first_exponent-d.ensures ∙ told_first lends _) _ (c.in_ok-t.ensures v a.n fs lends r) c.at_exponent-y.result c.at_exponent-y.ensures _ c.alone.ensures
