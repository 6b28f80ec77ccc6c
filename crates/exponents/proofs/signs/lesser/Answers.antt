use mathlib.Core.Path.{refl, sym, ◌∙◌, ap, ap₂}
use lib.IntN.{pos, neg_ℤ}
use lib.Signed.{lt_z}
use Rattle.exponents.proofs.WithSign.{less_nn, less_np, less_pn}
use Rattle.exponents.specs.Held.{with_sign}
use Rattle.exponents.proofs.signs.lesser.Goals as goal

pub returns-then-t : goal.returns-then-t
returns-then-t c =
    let a = c.args in
    less_nn a.p a.q ∙ sym (ap₂ (λ s t. lt_z (with_sign s a.p) (with_sign t a.q)) c.if-s.true c.if-t.true)

pub returns-then-p-eq0 : goal.returns-then-p-eq0
returns-then-p-eq0 c =
    let a = c.args in
    ap (λ p. lt_z (neg_ℤ (pos p)) (pos a.q)) (sym c.if-p-eq0.true) ∙ sym (ap₂ (λ s t. lt_z (with_sign s a.p) (with_sign t a.q)) c.if-s.true c.if-t.false)

pub returns-then-s : goal.returns-then-s
returns-then-s c =
    let a = c.args in
    less_np a.p a.q c.if-p-eq0.false ∙ sym (ap₂ (λ s t. lt_z (with_sign s a.p) (with_sign t a.q)) c.if-s.true c.if-t.false)

pub returns-then-t-2 : goal.returns-then-t-2
returns-then-t-2 c =
    let a = c.args in
    less_pn a.p a.q ∙ sym (ap₂ (λ s t. lt_z (with_sign s a.p) (with_sign t a.q)) c.if-s.false c.if-t-2.true)

pub returns : goal.returns
returns c =
    let a = c.args in
    refl ∙ sym (ap₂ (λ s t. lt_z (with_sign s a.p) (with_sign t a.q)) c.if-s.false c.if-t-2.false)
