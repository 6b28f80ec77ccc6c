-- `compare_over` meets its contract.
use mathlib.Core.Path.{sym, ap, ap₂, ◌∙◌}
use mathlib.Core.Bool.{Bool, ◌||◌}
use mathlib.Core.List.{List}
use Prim.Native.Nat.{Ordering}
use lib.Ieee.{is_nan}
use Rattle.exponents.specs.Outcome.{Outcome, NAN, unless, bind}
use Rattle.exponents.proofs.Handed.{handed_on}
use Rattle.exponents.proofs.Holds.{bind_given, bind_refused}
use Rattle.units.specs.declared.Factor.{Factor}
use Rattle.units.specs.declared.Quantity.{Quantity}
use Rattle.units.specs.declared.Rows.{Rows}
use Rattle.tables.specs.Rows.{Facts}
use Rattle.tables.specs.Rules.{rules_in}
use Rattle.lists.proofs.Ready.{ready, stopped, goes}
use Rattle.conversion.specs.Conversion.{convert}
use Rattle.quantities.specs.Comparisons.{ordered, compared_of}
use Rattle.quantities.specs.Calls.{compare}
use Rattle.quantities.proofs.Ready.{back}
use Rattle.quantities.proofs.Converting.{fault_stops, fault_passes}
use Rattle.quantities.proofs.comparisons.compare_over.Goals as goal

abbrev compared : Rows → Quantity → Quantity → List Facts → List Factor → List Factor → Outcome Ordering
compared t q p ks fs gs = bind (convert (rules_in t ks) gs fs p.value) (λ y. ordered q.value y)

abbrev unordered : Quantity → Quantity → Bool
unordered q p = is_nan q.value || is_nan p.value

abbrev work : Rows → Quantity → Quantity → List Facts → List Factor → List Factor → Outcome Ordering
work t q p ks fs gs = unless (unordered q p) NAN (compared t q p ks fs gs)

pub returns-in_err-o : goal.returns-in_err-o
unfolding compare
returns-in_err-o c rows o =
    let s = c.args in
    handed_on _ _ c.from_residual.ensures.1 ∙ ap compared_of (sym (stopped rows s.q.unit s.p.unit (work rows s.q s.p) _ (sym c.in_err-o.was ∙ o.is)))

pub returns-then-is_nan : goal.returns-then-is_nan
unfolding compare
returns-then-is_nan c rows o =
    let s = c.args in
    let r = ready rows s.q.unit s.p.unit c.in_ok-o.o (sym c.in_ok-o.was ∙ o.is) in
    let nan = ap₂ ◌||◌ (sym c.is_nan.ensures) (sym c.is_nan-2.ensures) ∙ c.if-is_nan.true in
    ap compared_of (sym (goes r (work rows s.q s.p) ∙ fault_stops (unordered s.q s.p) NAN (compared rows s.q s.p r.ks r.fs r.gs) nan))

pub returns-in_err-y : goal.returns-in_err-y
unfolding compare
returns-in_err-y c rows o =
    let s = c.args in
    let r = ready rows s.q.unit s.p.unit c.in_ok-o.o (sym c.in_ok-o.was ∙ o.is) in
    let plain = ap₂ ◌||◌ (sym c.is_nan.ensures) (sym c.is_nan-2.ensures) ∙ c.if-is_nan.false in
    let e = back r s.bases.nums.now s.bases.dens.now o.tells s.p.value _ c.in_err-y.ensures in
    handed_on _ _ c.from_residual-in_err-y.ensures.1
    ∙ ap compared_of (sym (goes r (work rows s.q s.p) ∙ fault_passes (unordered s.q s.p) NAN (compared rows s.q s.p r.ks r.fs r.gs) plain ∙ bind_refused _ (sym e)))

pub returns : goal.returns
unfolding compare
returns c rows o =
    let s = c.args in
    let r = ready rows s.q.unit s.p.unit c.in_ok-o.o (sym c.in_ok-o.was ∙ o.is) in
    let plain = ap₂ ◌||◌ (sym c.is_nan.ensures) (sym c.is_nan-2.ensures) ∙ c.if-is_nan.false in
    let e = back r s.bases.nums.now s.bases.dens.now o.tells s.p.value _ c.in_ok-y.ensures in
    c.ordered.ensures
    ∙ ap compared_of (sym (goes r (work rows s.q s.p) ∙ fault_passes (unordered s.q s.p) NAN (compared rows s.q s.p r.ks r.fs r.gs) plain ∙ bind_given _ (sym e)))
