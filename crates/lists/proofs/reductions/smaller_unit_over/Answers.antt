-- `smaller_unit_over` meets its contract.
use mathlib.Core.Path.{sym, ap, ◌∙◌}
use mathlib.Core.List.{List}
use mathlib.Core.Bool.{Bool}
use Rattle.exponents.specs.Words.{pick}
use Rattle.exponents.specs.Outcome.{Outcome, Ok, apply}
use Rattle.units.specs.declared.Factor.{Factor}
use Rattle.units.specs.declared.Rows.{Rows}
use Rattle.units.specs.Lists.{made_of}
use Rattle.tables.specs.Rows.{Facts}
use Rattle.tables.specs.Rules.{rules_in}
use Rattle.reduction.specs.Reduction.{smaller_unit}
use Rattle.reduction.specs.Held.{smaller_of}
use Rattle.lists.specs.Calls as spec
use Rattle.exponents.proofs.Handed.{handed_on}
use Rattle.lists.proofs.Ends.{first_chosen, second_chosen, neither_chosen}
use Rattle.lists.proofs.Ready.{ready, stopped, seen, goes, lends}
use Rattle.lists.proofs.reductions.smaller_unit_over.Goals as goal

abbrev smaller : Rows → List Facts → List Factor → List Factor → Outcome Bool
smaller t ks fs gs = smaller_unit (rules_in t ks) fs gs

abbrev work : Rows → List Facts → List Factor → List Factor → Outcome (List Factor)
work t ks fs gs = apply (λ first. pick first fs gs) (smaller t ks fs gs)

pub returns-in_err-o : goal.returns-in_err-o
unfolding spec.smaller_unit
returns-in_err-o c rows a b o = handed_on _ _ c.from_residual.ensures.1 ∙ ap made_of (sym (stopped rows a b (work rows) _ (sym c.in_err-o.was ∙ o.is)))

pub returns-in_err-smaller_unit : goal.returns-in_err-smaller_unit
unfolding spec.smaller_unit
returns-in_err-smaller_unit c rows a b o =
    let r = ready rows a b c.in_ok-o.o (sym c.in_ok-o.was ∙ o.is) in
    let told = c.in_err-smaller_unit.ensures (seen r) r.fs r.gs (lends r _ _ o.tells) r.first r.second ∙ ap (λ R. smaller_of (smaller_unit R r.fs r.gs)) r.rules in
    handed_on _ _ c.from_residual-in_err-smaller_unit.ensures.1
    ∙ ap made_of (sym (goes r (work rows) ∙ neither_chosen (smaller rows r.ks r.fs r.gs) r.fs r.gs _ told))

pub returns-in-First : goal.returns-in-First
unfolding spec.smaller_unit
returns-in-First c rows a b o =
    let r = ready rows a b c.in_ok-o.o (sym c.in_ok-o.was ∙ o.is) in
    let told = ap Ok (sym c.in-First.is) ∙ c.in_ok-smaller_unit.ensures (seen r) r.fs r.gs (lends r _ _ o.tells) r.first r.second ∙ ap (λ R. smaller_of (smaller_unit R r.fs r.gs)) r.rules in
    ap Ok (c.factors_of.ensures (seen r) r.fs r.first)
    ∙ ap made_of (sym (goes r (work rows) ∙ first_chosen (smaller rows r.ks r.fs r.gs) r.fs r.gs told))

pub returns-in-Second : goal.returns-in-Second
unfolding spec.smaller_unit
returns-in-Second c rows a b o =
    let r = ready rows a b c.in_ok-o.o (sym c.in_ok-o.was ∙ o.is) in
    let told = ap Ok (sym c.in-Second.is) ∙ c.in_ok-smaller_unit.ensures (seen r) r.fs r.gs (lends r _ _ o.tells) r.first r.second ∙ ap (λ R. smaller_of (smaller_unit R r.fs r.gs)) r.rules in
    ap Ok (c.factors_of-in-Second.ensures (seen r) r.gs r.second)
    ∙ ap made_of (sym (goes r (work rows) ∙ second_chosen (smaller rows r.ks r.fs r.gs) r.fs r.gs told))
