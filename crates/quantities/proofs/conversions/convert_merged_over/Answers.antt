-- `convert_merged_over` meets its contract.
use mathlib.Core.Path.{sym, ◌∙◌}
use mathlib.Core.List.{List}
use lib.Ieee.{Float}
use Rattle.exponents.specs.Outcome.{Outcome, apply}
use Rattle.exponents.proofs.Handed.{handed_on}
use Rattle.units.specs.declared.Factor.{Factor}
use Rattle.units.specs.declared.Quantity.{Quantity}
use Rattle.units.specs.declared.Rows.{Rows}
use Rattle.tables.specs.Rows.{Facts}
use Rattle.tables.specs.Rules.{rules_in}
use Rattle.lists.proofs.Ready.{ready, stopped, goes, seen}
use Rattle.conversion.specs.Conversion.{cancelling}
use Rattle.values.specs.Quantities.{fresh}
use Rattle.quantities.specs.Calls.{convert_merged}
use Rattle.quantities.proofs.Ready.{forth}
use Rattle.quantities.proofs.conversions.convert_merged_over.Goals as goal

abbrev work : Rows → Float → List Facts → List Factor → List Factor → Outcome Quantity
work t y ks fs gs = apply (λ v. fresh v gs) (cancelling (rules_in t ks) fs gs y)

pub returns-in_err-o : goal.returns-in_err-o
unfolding convert_merged
returns-in_err-o c rows target o =
    let s = c.args in
    handed_on _ _ c.from_residual.ensures.1 ∙ sym (stopped rows s.q.unit target (work rows s.q.value) _ (sym c.in_err-o.was ∙ o.is))

pub returns : goal.returns
unfolding convert_merged
returns c rows target o =
    let s = c.args in
    let r = ready rows s.q.unit target c.in_ok-o.o (sym c.in_ok-o.was ∙ o.is) in
    let e = forth r s.bases.nums.now s.bases.dens.now o.tells s.q.value c.cancelling-c.result (λ R. cancelling R) c.cancelling-c.ensures in
    c.in_target.ensures (seen r) r.gs (cancelling (rules_in rows r.ks) r.fs r.gs s.q.value) r.second e ∙ sym (goes r (work rows s.q.value))
