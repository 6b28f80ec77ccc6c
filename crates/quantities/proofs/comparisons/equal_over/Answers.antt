-- `equal_over` meets its contract.
use mathlib.Core.Path.{sym, ap, ◌∙◌}
use mathlib.Core.Bool.{Bool}
use mathlib.Core.List.{List}
use Rattle.exponents.specs.Outcome.{Outcome}
use Rattle.exponents.proofs.Handed.{handed_on}
use Rattle.units.specs.declared.Factor.{Factor}
use Rattle.units.specs.declared.Quantity.{Quantity}
use Rattle.units.specs.declared.Rows.{Rows}
use Rattle.tables.specs.Rows.{Facts}
use Rattle.tables.specs.Rules.{rules_in}
use Rattle.lists.proofs.Ready.{ready, stopped, goes}
use Rattle.conversion.specs.Conversion.{convert}
use Rattle.quantities.specs.Comparisons.{equal_to}
use Rattle.quantities.specs.Calls.{equal}
use Rattle.quantities.proofs.Ready.{back}
use Rattle.quantities.proofs.comparisons.equal_over.Goals as goal

abbrev work : Rows → Quantity → Quantity → List Facts → List Factor → List Factor → Outcome Bool
work t q p ks fs gs = equal_to q.value (convert (rules_in t ks) gs fs p.value)

pub returns-in_err-o : goal.returns-in_err-o
unfolding equal
returns-in_err-o c rows o =
    let s = c.args in
    handed_on _ _ c.from_residual.ensures.1 ∙ sym (stopped rows s.q.unit s.p.unit (work rows s.q s.p) _ (sym c.in_err-o.was ∙ o.is))

pub returns : goal.returns
unfolding equal
returns c rows o =
    let s = c.args in
    let r = ready rows s.q.unit s.p.unit c.in_ok-o.o (sym c.in_ok-o.was ∙ o.is) in
    c.is_equal.ensures
    ∙ ap (equal_to s.q.value) (back r s.bases.nums.now s.bases.dens.now o.tells s.p.value c.convert-c.result c.convert-c.ensures)
    ∙ sym (goes r (work rows s.q s.p))
