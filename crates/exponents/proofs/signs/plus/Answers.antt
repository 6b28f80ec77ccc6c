use mathlib.Core.Path.{sym, ◌∙◌, ap₂}
use lib.IntN.{pos, neg_ℤ, ◌+ℤ◌, +ℤ_comm}
use Rattle.exponents.proofs.WithSign.{sum_pp, sum_nn, minus_ge, minus_lt}
use Rattle.exponents.specs.Held.{with_sign}
use Rattle.exponents.proofs.signs.plus.Goals as goal

pub returns-then-t : goal.returns-then-t
returns-then-t c = let a = c.args in
    sum_nn a.p a.q ∙ sym (ap₂ (λ s t. with_sign s a.p +ℤ with_sign t a.q) c.if-s.true c.if-t.true)

pub returns-then-q-p : goal.returns-then-q-p
returns-then-q-p c = let a = c.args in
    (minus_lt a.q a.p c.if-q-p.true ∙ +ℤ_comm (pos a.q) (neg_ℤ (pos a.p))) ∙ sym (ap₂ (λ s t. with_sign s a.p +ℤ with_sign t a.q) c.if-s.true c.if-t.false)

pub returns-else-q-p : goal.returns-else-q-p
returns-else-q-p c = let a = c.args in
    (minus_ge a.q a.p c.if-q-p.false ∙ +ℤ_comm (pos a.q) (neg_ℤ (pos a.p))) ∙ sym (ap₂ (λ s t. with_sign s a.p +ℤ with_sign t a.q) c.if-s.true c.if-t.false)

pub returns-then-p-q : goal.returns-then-p-q
returns-then-p-q c = let a = c.args in
    minus_lt a.p a.q c.if-p-q.true ∙ sym (ap₂ (λ s t. with_sign s a.p +ℤ with_sign t a.q) c.if-s.false c.if-t-2.true)

pub returns-else-p-q : goal.returns-else-p-q
returns-else-p-q c = let a = c.args in
    minus_ge a.p a.q c.if-p-q.false ∙ sym (ap₂ (λ s t. with_sign s a.p +ℤ with_sign t a.q) c.if-s.false c.if-t-2.true)

pub returns-else-t-2 : goal.returns-else-t-2
returns-else-t-2 c = let a = c.args in
    sum_pp a.p a.q ∙ sym (ap₂ (λ s t. with_sign s a.p +ℤ with_sign t a.q) c.if-s.false c.if-t-2.false)
