-- `same_list_over` meets its contract.
use mathlib.Core.Path.{sym, ◌∙◌}
use mathlib.Core.Bool.{Bool}
use mathlib.Core.List.{List}
use Rattle.exponents.specs.Outcome.{Outcome}
use Rattle.units.specs.declared.Factor.{Factor}
use Rattle.tables.specs.Rows.{Facts}
use Rattle.tables.specs.Order.{order_in}
use Rattle.canonical.specs.Equality.{equal}
use Rattle.lists.specs.Calls.{same_lists}
use Rattle.exponents.proofs.Handed.{handed_on}
use Rattle.lists.proofs.Ready.{ready, stopped, seen, goes}
use Rattle.lists.proofs.forms.same_list_over.Goals as goal

abbrev work : List Facts → List Factor → List Factor → Outcome Bool
work ks fs gs = equal (order_in ks) fs gs

pub returns-in_err-o : goal.returns-in_err-o
unfolding same_lists
returns-in_err-o c rows a b e = handed_on _ _ c.from_residual.ensures.1 ∙ sym (stopped rows a b work _ (sym c.in_err-o.was ∙ e))

pub returns : goal.returns
unfolding same_lists
returns c rows a b e =
    let r = ready rows a b c.in_ok-o.o (sym c.in_ok-o.was ∙ e) in
    c.equal.ensures (seen r) r.fs r.gs r.first r.second ∙ sym (goes r work)
