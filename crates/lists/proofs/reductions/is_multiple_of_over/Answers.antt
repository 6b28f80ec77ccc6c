-- `is_multiple_of_over` meets its contract.
use mathlib.Core.Path.{sym, ap, ◌∙◌}
use mathlib.Core.List.{List}
use lib.Ieee.{Float}
use Rattle.exponents.specs.Outcome.{Outcome}
use Rattle.units.specs.declared.Factor.{Factor}
use Rattle.units.specs.declared.Rows.{Rows}
use Rattle.tables.specs.Rows.{Facts}
use Rattle.tables.specs.Rules.{Rules, rules_in}
use Rattle.reduction.specs.Multiple.{Maybe, is_multiple}
use Rattle.lists.specs.Calls.{multiple}
use Rattle.exponents.proofs.Handed.{handed_on}
use Rattle.lists.proofs.Ready.{ready, stopped, seen, goes, lends}
use Rattle.lists.proofs.reductions.is_multiple_of_over.Goals as goal

abbrev work : Rows → List Facts → List Factor → List Factor → Outcome Maybe
work t ks fs gs = is_multiple (rules_in t ks).bases fs gs

pub returns-in_err-o : goal.returns-in_err-o
unfolding multiple
returns-in_err-o c rows a b o = handed_on _ _ c.from_residual.ensures.1 ∙ sym (stopped rows a b (work rows) _ (sym c.in_err-o.was ∙ o.is))

pub returns : goal.returns
unfolding multiple
returns c rows a b o =
    let r = ready rows a b c.in_ok-o.o (sym c.in_ok-o.was ∙ o.is) in
    c.is_multiple_of.ensures (seen r) r.fs r.gs (lends r _ _ o.tells) r.first r.second
    ∙ ap (λ (R : Rules Float). is_multiple R.bases r.fs r.gs) r.rules
    ∙ sym (goes r (work rows))
