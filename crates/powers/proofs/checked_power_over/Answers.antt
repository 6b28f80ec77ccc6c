-- `checked_power_over` meets its contract.
use Rattle.std.proofs.Common.{List, [], sym, ap, ◌∙◌, arith}
use Rattle.exponents.specs.Outcome.{Outcome, bind}
use Rattle.exponents.proofs.Holds.{bind_given, bind_refused}
use Rattle.units.specs.declared.Factor.{Factor}
use Rattle.units.specs.declared.Factors.{Factors}
use Rattle.units.specs.declared.Quantity.{Quantity}
use Rattle.units.specs.declared.Rows.{Rows}
use Rattle.units.specs.Lists.{list_of}
use Rattle.units.proofs.Laws.{len_pack, list_pack}
use Rattle.tables.specs.Rows.{Facts}
use Rattle.tables.specs.Rules.{rules_in}
use Rattle.tables.proofs.Resolved.{none_resolved}
use Rattle.conversion.specs.Conversion.{convert}
use Rattle.exponents.proofs.Handed.{handed_on}
use Rattle.lists.proofs.Ready.{ready, stopped, goes, seen, lends}
use Rattle.powers.specs.Powers.{raised_to}
use Rattle.powers.specs.Calls.{checked_power}
use Rattle.powers.proofs.checked_power_over.Goals as goal

abbrev work : Rows → Quantity → Quantity → List Facts → List Factor → List Factor → Outcome Quantity
work t q p ks fs gs = bind (convert (rules_in t ks) gs [] p.value) (λ x. raised_to q.value fs x)

pub returns-in_err-o : goal.returns-in_err-o
unfolding checked_power
returns-in_err-o c rows opens =
    let s = c.args in
    handed_on _ _ c.from_residual.ensures.1 ∙ sym (stopped rows s.q.unit s.p.unit (work rows s.q s.p) _ (sym c.in_err-o.was ∙ opens.is))

pub returns-in_err-x : goal.returns-in_err-x
unfolding checked_power
returns-in_err-x c rows opens =
    let s = c.args in
    let r = ready rows s.q.unit s.p.unit c.in_ok-o.o (sym c.in_ok-o.was ∙ opens.is) in
    let e = c.in_err-x.ensures (seen r) r.gs [] (lends r _ _ opens.tells) r.second (none_resolved (seen r) r.second.placed _ c.no_items-scalar.ensures) ∙ ap (λ R. convert R r.gs [] s.p.value) r.rules in
    handed_on _ _ c.from_residual-in_err-x.ensures.1 ∙ sym (goes r (work rows s.q s.p) ∙ bind_refused (λ x. raised_to s.q.value r.fs x) (sym e))

-- an opened list has no more than 16 factors
pub returns-then-l-gt16 : goal.returns-then-l-gt16
returns-then-l-gt16 c rows opens =
    let s = c.args in
    let r = ready rows s.q.unit s.p.unit c.in_ok-o.o (sym c.in_ok-o.was ∙ opens.is) in
    let l = c.factors_of-l.ensures (seen r) r.fs r.first in
    absurd (omega (arith, c.if-l-gt16.true, ap (λ (l : Factors). l.len) l, len_pack r.fs, r.first.short))

pub returns : goal.returns
unfolding checked_power
returns c rows opens =
    let s = c.args in
    let r = ready rows s.q.unit s.p.unit c.in_ok-o.o (sym c.in_ok-o.was ∙ opens.is) in
    let e = c.in_ok-x.ensures (seen r) r.gs [] (lends r _ _ opens.tells) r.second (none_resolved (seen r) r.second.placed _ c.no_items-scalar.ensures) ∙ ap (λ R. convert R r.gs [] s.p.value) r.rules in
    let l = c.factors_of-l.ensures (seen r) r.fs r.first in
    c.raised_to.ensures
    ∙ ap (λ fs. raised_to s.q.value fs c.in_ok-x.x) (ap list_of l ∙ list_pack r.fs)
    ∙ sym (goes r (work rows s.q s.p) ∙ bind_given (λ x. raised_to s.q.value r.fs x) (sym e))
