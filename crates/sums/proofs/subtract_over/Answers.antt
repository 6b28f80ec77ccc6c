-- `subtract_over` meets its contract.
use mathlib.Core.Path.{sym, ap, ◌∙◌}
use mathlib.Core.Bool.{true}
use lib.Ieee.{neg}
use Rattle.exponents.specs.Outcome.{Ok}
use Rattle.exponents.proofs.Handed.{handed_on}
use Rattle.lists.proofs.Ready.{ready, seen}
use Rattle.values.specs.Quantities.{fresh}
use Rattle.sums.specs.Calls.{subtract}
use Rattle.sums.proofs.Adding.{sum_stopped, first-zero, second-zero, no_zero}
use Rattle.sums.proofs.subtract_over.Goals as goal

pub returns-in_err-o : goal.returns-in_err-o
unfolding subtract
returns-in_err-o c rows opens =
    let s = c.args in
    handed_on _ _ c.from_residual.ensures.1 ∙ sum_stopped rows true (fresh (neg s.p.value)) s.q s.p _ (sym c.in_err-o.was ∙ opens.is)

pub returns-then-is_zero : goal.returns-then-is_zero
unfolding subtract
returns-then-is_zero c rows opens =
    let s = c.args in
    let x = c.in_ok-o.o in
    let r = ready rows s.q.unit s.p.unit x (sym c.in_ok-o.was ∙ opens.is) in
    ap Ok (c.with_mark.ensures r.gs (c.factors_of-l.ensures (seen r) r.gs r.second))
    ∙ first-zero rows true (fresh (neg s.p.value)) s.q s.p x r (sym c.is_zero.ensures ∙ c.if-is_zero.true)

pub returns-then-is_zero-2 : goal.returns-then-is_zero-2
unfolding subtract
returns-then-is_zero-2 c rows opens =
    let s = c.args in
    let x = c.in_ok-o.o in
    let r = ready rows s.q.unit s.p.unit x (sym c.in_ok-o.was ∙ opens.is) in
    ap Ok (c.with_mark-then-is_zero-2.ensures r.fs (c.factors_of-l-then-is_zero-2.ensures (seen r) r.fs r.first))
    ∙ second-zero rows true (fresh (neg s.p.value)) s.q s.p x r (sym c.is_zero.ensures ∙ c.if-is_zero.false) (sym c.is_zero-2.ensures ∙ c.if-is_zero-2.true)

pub returns : goal.returns
unfolding subtract
returns c rows opens =
    let s = c.args in
    let x = c.in_ok-o.o in
    let r = ready rows s.q.unit s.p.unit x (sym c.in_ok-o.was ∙ opens.is) in
    no_zero rows true (fresh (neg s.p.value)) s.q s.p x r (sym c.is_zero.ensures ∙ c.if-is_zero.false) s.bases.nums.now s.bases.dens.now opens.tells c.nonzero_sum.result (sym c.is_zero-2.ensures ∙ c.if-is_zero-2.false) c.nonzero_sum.ensures
