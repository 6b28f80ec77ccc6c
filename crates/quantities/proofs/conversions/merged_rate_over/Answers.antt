-- `merged_rate_over` meets its contract.
use mathlib.Core.Path.{sym, ap, ◌∙◌}
use mathlib.Core.List.{List}
use lib.Ieee.{Float}
use Rattle.exponents.specs.Outcome.{Outcome, apply, bind}
use Rattle.exponents.proofs.Following.{apply_same, apply_apply}
use Rattle.exponents.proofs.Handed.{handed_on}
use Rattle.units.specs.declared.Factor.{Factor}
use Rattle.units.specs.declared.Quantity.{Quantity}
use Rattle.units.specs.declared.Rows.{Rows}
use Rattle.tables.specs.Rows.{Facts}
use Rattle.tables.specs.Rules.{rules_in}
use Rattle.lists.proofs.Ready.{ready, stopped, goes}
use Rattle.conversion.specs.Conversion.{cancelling}
use Rattle.conversion.specs.Held.{counted_by, rated_by}
use Rattle.values.specs.Quantities.{fresh}
use Rattle.quantities.specs.Calls.{convert_merged, merged_value}
use Rattle.quantities.proofs.Ready.{forth}
use Rattle.quantities.proofs.conversions.merged_rate_over.Goals as goal

abbrev work : Rows → Float → List Facts → List Factor → List Factor → Outcome Quantity
work t y ks fs gs = apply (λ v. fresh v gs) (cancelling (rules_in t ks) fs gs y)

pub returns-in_err-o : goal.returns-in_err-o
unfolding convert_merged merged_value rated_by counted_by bind
returns-in_err-o c rows q target o =
    ap (λ r. rated_by r q.value) (handed_on _ _ c.from_residual.ensures.1)
    ∙ sym (ap (apply (λ (p : Quantity). p.value)) (stopped rows q.unit target (work rows q.value) _ (sym c.in_err-o.was ∙ o.is)))

pub returns : goal.returns
unfolding convert_merged merged_value
returns c rows q target o =
    let s = c.args in
    let r = ready rows q.unit target c.in_ok-o.o (sym c.in_ok-o.was ∙ o.is) in
    let k = cancelling (rules_in rows r.ks) r.fs r.gs q.value in
    forth r s.bases.nums.now s.bases.dens.now o.tells q.value (rated_by c.cancelling_rate.result q.value) (λ R. cancelling R) (λ v fs gs l rl rm. c.cancelling_rate.ensures v fs gs l rl rm q.value)
    ∙ sym (ap (apply (λ (p : Quantity). p.value)) (goes r (work rows q.value)) ∙ apply_apply (λ v. fresh v r.gs) (λ (p : Quantity). p.value) k ∙ apply_same k)
