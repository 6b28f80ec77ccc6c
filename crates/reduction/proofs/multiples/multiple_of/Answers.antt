-- `multiple_of` meets its contract.
use mathlib.Core.Path.{sym, ap, ap₂, ◌∙◌}
use native.Mathlib.Omega.{arith}
use Rattle.exponents.proofs.Handed.{handed_on}
use Rattle.exponents.specs.Fractions.{nought, same, div?}
use Rattle.reduction.proofs.Fitting.{at_first, all-zero, not_all-zero, quotient_sound, multiple-one, multiple_scalar, multiple-zero, multiple_range, multiple-fits}
use Rattle.reduction.proofs.multiples.multiple_of.Goals as goal

pub returns-then-same_exponents : goal.returns-then-same_exponents
returns-then-same_exponents c =
    let a = c.args in
    multiple-one a.a a.b (sym c.same_exponents.ensures ∙ c.if-same_exponents.true)

pub returns-then-i-ge16 : goal.returns-then-i-ge16
returns-then-i-ge16 c =
    let a = c.args in
    multiple_scalar a.a a.b (sym c.same_exponents.ensures ∙ c.if-same_exponents.false) (all-zero a.a (omega (arith, c.first_base-i.ensures)))

pub returns-then-same : goal.returns-then-same
returns-then-same c =
    let a = c.args in
    multiple-zero a.a a.b (sym c.same_exponents.ensures ∙ c.if-same_exponents.false)
    (ap (λ y. same y nought) (sym (at_first a.b a.a c.first_base-i.result _ c.first_base-i.ensures (omega arith))) ∙ sym c.same.ensures ∙ c.if-same.true)

pub returns-in_err-q : goal.returns-in_err-q
returns-in_err-q c =
    let a = c.args in
    let x = at_first a.a a.a c.first_base-i.result _ c.first_base-i.ensures (omega arith) in
    let y = at_first a.b a.a c.first_base-i.result _ c.first_base-i.ensures (omega arith) in
    handed_on _ _ c.from_residual.ensures.1
    ∙ (multiple_range a.a a.b (sym c.same_exponents.ensures ∙ c.if-same_exponents.false) (not_all-zero a.a (omega (arith, c.first_base-i.ensures)))
    (ap (λ y. same y nought) (sym y) ∙ sym c.same.ensures ∙ c.if-same.false) _ (sym (c.in_err-q.ensures ∙ ap₂ div? x y)))

pub returns : goal.returns
returns c =
    let a = c.args in
    let x = at_first a.a a.a c.first_base-i.result _ c.first_base-i.ensures (omega arith) in
    let y = at_first a.b a.a c.first_base-i.result _ c.first_base-i.ensures (omega arith) in
    let q = sym (c.in_ok-q.ensures ∙ ap₂ div? x y) in
    c.fits.ensures (quotient_sound _ _ _ q)
    ∙ multiple-fits a.a a.b (sym c.same_exponents.ensures ∙ c.if-same_exponents.false) (not_all-zero a.a (omega (arith, c.first_base-i.ensures)))
    (ap (λ y. same y nought) (sym y) ∙ sym c.same.ensures ∙ c.if-same.false) _ q
