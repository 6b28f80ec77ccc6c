-- `turn` meets its contract.
use borrow.Author.Rules.{rules}
use mathlib.Core.Path.{◌≡◌, sym, ap, ◌∙◌}
use mathlib.Core.Bool.{true, false}
use native.Mathlib.Omega.{arith}
use lib.ListN.{length}
use Rattle.exponents.specs.Outcome.{Ok}
use Rattle.exponents.proofs.Handed.{handed_on}
use Rattle.units.specs.declared.Quantity.{Quantity}
use Rattle.units.proofs.Laws.{full}
use Rattle.conversion.specs.Conversion.{convert}
use Rattle.registry.specs.Registry.{fitting}
use Rattle.registry.specs.Held.{rules_of, choice_of}
use Rattle.registry.proofs.GivenLists.{listed, list_long}
use Rattle.registry.proofs.Choosing.{amount_long, test_refused, no_fit, not_reached, one_wins, fewer, no_fewer}
use Rattle.registry.proofs.turn.Goals as goal

pub returns-in_err-fit : goal.returns-in_err-fit
returns-in_err-fit c tb l b m x hb g =
    let a = c.args in
    let t = sym (c.in_err-fit.ensures tb a.len m x g ∙ ap (λ n. fitting (rules_of tb) n x.exps a.s m.factors) (amount_long l.amount a.rest l.is)) in
    handed_on _ _ c.from_residual.ensures.1 ∙ ap choice_of (sym (test_refused (rules_of tb) x.exps a.s l.amount b m.factors _ t))

pub returns-then-not-fit : goal.returns-then-not-fit
returns-then-not-fit c tb l b m x hb g =
    let a = c.args in
    let t = sym (c.in_ok-fit.ensures tb a.len m x g ∙ ap (λ n. fitting (rules_of tb) n x.exps a.s m.factors) (amount_long l.amount a.rest l.is)) ∙ ap Ok c.if-not-fit.true in
    ap (λ (q : Quantity). Ok record { best = q; won = false }) hb
    ∙ ap choice_of (sym (no_fit (rules_of tb) x.exps a.s l.amount b m.factors t))

pub returns-in_err-z : goal.returns-in_err-z
returns-in_err-z c tb l b m x hb g =
    let a = c.args in
    let R = rules_of tb in
    let t = sym (c.in_ok-fit.ensures tb a.len m x g ∙ ap (λ n. fitting R n x.exps a.s m.factors) (amount_long l.amount a.rest l.is)) ∙ ap Ok c.if-not-fit.false in
    let v = sym (c.in_err-z.ensures tb (record { factors = l.amount.1; is = l.passes }) m g ∙ ap (λ (q : Quantity). convert R l.amount.1 m.factors q.value) l.is) in
    handed_on _ _ c.from_residual-in_err-z.ensures.1 ∙ ap choice_of (sym (not_reached R x.exps a.s l.amount b m.factors t _ v))

pub returns-then-m-eq1 : goal.returns-then-m-eq1
returns-then-m-eq1 c tb l b m x hb g =
    let a = c.args in
    let R = rules_of tb in
    let t = sym (c.in_ok-fit.ensures tb a.len m x g ∙ ap (λ n. fitting R n x.exps a.s m.factors) (amount_long l.amount a.rest l.is)) ∙ ap Ok c.if-not-fit.false in
    let v = sym (c.in_ok-z.ensures tb (record { factors = l.amount.1; is = l.passes }) m g ∙ ap (λ (q : Quantity). convert R l.amount.1 m.factors q.value) l.is) in
    let m-full : length a.m.at ≡ 16 = search (rules, full) in
    let n = list_long (listed m.is) m-full in
    ap (λ (q : Quantity). Ok record { best = q; won = true }) (c.of_list-q.ensures (length tb.known) m.factors m.is)
    ∙ ap choice_of (sym (one_wins R x.exps a.s l.amount b m.factors t c.in_ok-z.z v (n ∙ c.if-m-eq1.true)))

pub returns-then-m-b : goal.returns-then-m-b
returns-then-m-b c tb l b m x hb g =
    let a = c.args in
    let R = rules_of tb in
    let t = sym (c.in_ok-fit.ensures tb a.len m x g ∙ ap (λ n. fitting R n x.exps a.s m.factors) (amount_long l.amount a.rest l.is)) ∙ ap Ok c.if-not-fit.false in
    let v = sym (c.in_ok-z.ensures tb (record { factors = l.amount.1; is = l.passes }) m g ∙ ap (λ (q : Quantity). convert R l.amount.1 m.factors q.value) l.is) in
    let m-full : length a.m.at ≡ 16 = search (rules, full) in
    let n = list_long (listed m.is) m-full in
    ap (λ (q : Quantity). Ok record { best = q; won = false }) (c.of_list-q.ensures (length tb.known) m.factors m.is)
    ∙ ap choice_of (sym (fewer R x.exps a.s l.amount b m.factors t c.in_ok-z.z v (λ i. c.if-m-eq1.false (sym n ∙ i)) (omega (arith, amount_long b a.best hb))))

pub returns : goal.returns
returns c tb l b m x hb g =
    let a = c.args in
    let R = rules_of tb in
    let t = sym (c.in_ok-fit.ensures tb a.len m x g ∙ ap (λ n. fitting R n x.exps a.s m.factors) (amount_long l.amount a.rest l.is)) ∙ ap Ok c.if-not-fit.false in
    let v = sym (c.in_ok-z.ensures tb (record { factors = l.amount.1; is = l.passes }) m g ∙ ap (λ (q : Quantity). convert R l.amount.1 m.factors q.value) l.is) in
    let m-full : length a.m.at ≡ 16 = search (rules, full) in
    let n = list_long (listed m.is) m-full in
    ap (λ (q : Quantity). Ok record { best = q; won = false }) hb
    ∙ ap choice_of (sym (no_fewer R x.exps a.s l.amount b m.factors t c.in_ok-z.z v (λ i. c.if-m-eq1.false (sym n ∙ i)) (omega (arith, amount_long b a.best hb))))
