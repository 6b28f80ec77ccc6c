-- `convert_to_counted_over` meets its contract.
use mathlib.Core.Path.{sym, ap, ◌∙◌}
use Rattle.exponents.specs.Outcome.{apply}
use Rattle.exponents.proofs.Handed.{handed_on}
use Rattle.floats.specs.Power.{tally}
use Rattle.tables.specs.Rules.{counted}
use Rattle.lists.proofs.Ready.{ready, stopped, goes, seen}
use Rattle.conversion.specs.Conversion.{convert}
use Rattle.values.specs.Quantities.{fresh}
use Rattle.quantities.proofs.Ready.{forward}
use Rattle.counted.specs.Calls.{counted_of, convert_to_counted}
use Rattle.counted.proofs.Handed.{work}
use Rattle.counted.proofs.convert_to_counted_over.Goals as goal

pub returns-in_err-o : goal.returns-in_err-o
unfolding convert_to_counted
returns-in_err-o c rows target o =
    let s = c.args in
    handed_on _ _ c.from_residual.ensures.1 ∙ ap counted_of (sym (stopped rows s.q.unit target (work (λ R. convert R) rows s.q.value) _ (sym c.in_err-o.was ∙ o.is)))

pub returns : goal.returns
unfolding convert_to_counted
returns c rows target o =
    let s = c.args in
    let r = ready rows s.q.unit target c.in_ok-o.o (sym c.in_ok-o.was ∙ o.is) in
    let e = forward r s.bases.nums.now s.bases.dens.now o.tells c.convert_counted-c.result (λ R fs gs. convert (counted R) fs gs (tally s.q.value 0)) c.convert_counted-c.ensures in
    c.in_target.ensures (seen r) r.gs r.second
    ∙ ap (λ o. counted_of (apply (λ x. (fresh x.value r.gs, x.count)) o)) e
    ∙ ap counted_of (sym (goes r (work (λ R. convert R) rows s.q.value)))
