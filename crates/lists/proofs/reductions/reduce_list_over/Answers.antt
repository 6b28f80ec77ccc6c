-- `reduce_list_over` meets its contract.
use mathlib.Core.Path.{refl, sym, ap, ◌∙◌}
use mathlib.Core.List.{List, [], ◌++◌}
use lib.Ieee.{Float}
use Rattle.exponents.specs.Outcome.{Outcome}
use Rattle.units.specs.declared.Factor.{Factor}
use Rattle.units.specs.declared.Rows.{Rows}
use Rattle.units.specs.Lists.{pack}
use Rattle.tables.specs.Rows.{Facts, base_rows}
use Rattle.tables.specs.Rules.{rules_in}
use Rattle.resolution.proofs.Viewed.{rules_told}
use Rattle.reduction.specs.Reduction.{reduction, reduced_of}
use Rattle.lists.specs.Calls as spec
use Rattle.lists.proofs.Checks.{with_none}
use Rattle.exponents.proofs.Handed.{handed_on}
use Rattle.lists.proofs.Ready.{ready, stopped, seen, goes}
use Rattle.lists.proofs.reductions.reduce_list_over.Goals as goal

abbrev work : Rows → List Facts → List Factor → Outcome (List Factor × Float)
work t ks fs = reduction (rules_in t ks) (base_rows t) fs

pub returns-in_err-o : goal.returns-in_err-o
unfolding spec.reduction
returns-in_err-o c rows l o =
    handed_on _ _ c.from_residual.ensures.1
    ∙ ap reduced_of (sym (with_none rows l (work rows) ∙ stopped rows l (pack []) (λ ks fs gs. work rows ks fs) _ (sym c.in_err-o.was ∙ o.is)))

pub returns : goal.returns
unfolding spec.reduction
returns c rows l o =
    let r = ready rows l (pack []) c.in_ok-o.o (sym c.in_ok-o.was ∙ o.is) in
    let all = r.fs ++ r.gs in
    c.reduce_list.ensures (seen r) r.fs (base_rows rows) (o.tells r.ks r.known all) r.first r.slots
    ∙ ap (λ R. reduced_of (reduction R (base_rows rows) r.fs)) (rules_told rows r.ks all _ refl)
    ∙ ap reduced_of (sym (with_none rows l (work rows) ∙ goes r (λ ks fs gs. work rows ks fs)))
