-- `canonical_over` meets its contract.
use mathlib.Core.Path.{◌≡◌, sym, ap, ◌∙◌}
use mathlib.Core.List.{List, []}
use Rattle.exponents.specs.Outcome.{Outcome, Ok}
use Rattle.exponents.proofs.Numbers.{apply_refuses}
use Rattle.units.specs.declared.Factor.{Factor}
use Rattle.units.specs.Lists.{pack, made_of}
use Rattle.tables.specs.Rows.{Facts}
use Rattle.tables.specs.Order.{order_in}
use Rattle.canonical.specs.Canonical.{canon}
use Rattle.canonical.proofs.Judged.{canon_formed}
use Rattle.lists.specs.Calls as spec
use Rattle.lists.proofs.Checks.{with_none}
use Rattle.exponents.proofs.Handed.{handed_on}
use Rattle.lists.proofs.Ready.{ready, stopped, seen, goes}
use Rattle.lists.proofs.forms.canonical_over.Goals as goal

abbrev work : List Facts → List Factor → Outcome (List Factor)
work ks fs = canon (order_in ks) fs

pub returns-in_err-o : goal.returns-in_err-o
unfolding spec.canonical
returns-in_err-o c rows l e =
    handed_on _ _ c.from_residual.ensures.1
    ∙ ap made_of (sym (with_none rows l work ∙ stopped rows l (pack []) (λ ks fs gs. work ks fs) _ (sym c.in_err-o.was ∙ e)))

pub returns-in_err-c : goal.returns-in_err-c
unfolding spec.canonical
returns-in_err-c c rows l e =
    let r = ready rows l (pack []) c.in_ok-o.o (sym c.in_ok-o.was ∙ e) in
    handed_on _ _ c.from_residual-in_err-c.ensures.1
    ∙ ap made_of (sym (with_none rows l work ∙ goes r (λ ks fs gs. work ks fs) ∙ apply_refuses _ (work r.ks r.fs) _ (sym (c.in_err-c.ensures (seen r) r.fs r.first))))

pub returns : goal.returns
unfolding spec.canonical
returns c rows l e =
    let r = ready rows l (pack []) c.in_ok-o.o (sym c.in_ok-o.was ∙ e) in
    let z = canon_formed (seen r) c.in_ok-o.o.a r.fs c.in_ok-c.c r.first (c.in_ok-c.ensures (seen r) r.fs r.first) in
    let is : spec.canonical rows l ≡ Ok z.answer = with_none rows l work ∙ goes r (λ ks fs gs. work ks fs) ∙ z.is in
    ap Ok (c.factors_of.ensures (seen r) z.answer z.list) ∙ ap made_of (sym is)
