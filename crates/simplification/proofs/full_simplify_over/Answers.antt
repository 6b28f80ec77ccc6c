-- `full_simplify_over` meets its contract.
use mathlib.Core.Path.{◌≡◌, refl, sym, ap, ◌∙◌}
use mathlib.Core.Bool.{Bool, true, false}
use mathlib.Core.List.{[]}
use Rattle.exponents.specs.Outcome.{Ok, apply}
use Rattle.exponents.proofs.Handed.{handed_on}
use Rattle.units.specs.declared.Quantity.{Quantity}
use Rattle.units.specs.declared.Rows.{Rows}
use Rattle.units.specs.Lists.{pack}
use Rattle.lists.proofs.Checks.{Call, with_none}
use Rattle.lists.proofs.Ready.{ready, stopped, goes, seen, lends}
use Rattle.simplification.specs.Steps.{quantity_of, simplify}
use Rattle.simplification.specs.Calls.{full_simplify}
use Rattle.simplification.proofs.Marked.{work, by_mark}
use Rattle.simplification.proofs.full_simplify_over.Goals as goal

-- the call, beside the empty list
beside_none : (t : Rows) (q : Quantity) (m : Bool) → q.mark ≡ m → full_simplify t q ≡ Call t q.unit (pack []) (λ ks fs gs. work t q m ks fs)
beside_none t q m e = by_mark t q m e ∙ with_none t q.unit (work t q m)

pub returns-in_err-o : goal.returns-in_err-o
returns-in_err-o c rows opens =
    let q = c.args.q in
    handed_on _ _ c.from_residual.ensures.1
    ∙ sym (beside_none rows q q.mark refl ∙ stopped rows q.unit (pack []) (λ ks fs gs. work rows q q.mark ks fs) _ (sym c.in_err-o.was ∙ opens.is))

pub returns-then-q : goal.returns-then-q
returns-then-q c rows opens =
    let s = c.args in
    let r = ready rows s.q.unit (pack []) c.in_ok-o.o (sym c.in_ok-o.was ∙ opens.is) in
    c.simplified.ensures (seen r) r.fs (lends r s.bases.nums.now s.bases.dens.now opens.tells) r.first
    ∙ ap (λ R. apply quantity_of (simplify R s.q.value r.fs)) r.rules
    ∙ sym (beside_none rows s.q true c.if-q.true ∙ goes r (λ ks fs gs. work rows s.q true ks fs))

pub returns : goal.returns
returns c rows opens =
    let s = c.args in
    let r = ready rows s.q.unit (pack []) c.in_ok-o.o (sym c.in_ok-o.was ∙ opens.is) in
    ap Ok (c.with_mark.ensures r.fs (c.factors_of-l.ensures (seen r) r.fs r.first))
    ∙ sym (beside_none rows s.q false c.if-q.false ∙ goes r (λ ks fs gs. work rows s.q false ks fs))
