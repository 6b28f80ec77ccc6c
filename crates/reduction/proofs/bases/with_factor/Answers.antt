-- `with_factor` meets its contract. The invariant: the base rows before s have the factor.
use borrow.Author.Rules.{rules}
use mathlib.Core.Path.{◌≡◌, sym, ap, subst, ◌∙◌}
use mathlib.Core.Bool.{false}
use mathlib.Core.List.{[], ◌∷◌, ◌++◌}
use Rattle.std.specs.Prelude.{Some}
use Prim.Native.Nat.{ℕ}
use native.Mathlib.Omega.{arith}
use lib.ListN.{length, length-set}
use Rattle.exponents.specs.Fractions.{faulty}
use Rattle.units.specs.declared.Factor.{Factor}
use Rattle.tables.specs.Held.{View, item_of}
use Rattle.tables.specs.declared.Item.{Item}
use Rattle.exponents.proofs.Words.{unmapped}
use Rattle.reduction.specs.Held.{Summed}
use Rattle.reduction.proofs.Adding.{adding_none, adding_end, factor_on, factor_off}
use Rattle.reduction.proofs.bases.with_factor.Goals as goal

pub loop-s-init : goal.loop-s-init
loop-s-init c =
    let sums-full : length c.args.p.at ≡ 16 = search (rules, unmapped) in
    let own : Factor = c.args.it.factor in
    (sums-full, λ v n fs lends rule so. adding_none v n fs (own) c.args.p so)

pub returns-in-Err : goal.returns-in-Err
returns-in-Err c v n fs f lends is rule so =
    let own : Factor = c.args.it.factor in
    let same-factor : (v : View) → (f : Factor) → (is : c.args.it ≡ item_of v f) → own ≡ f = λ v f is. ap (λ (it : Item). it.factor) is in
    let same-rule : (v : View) → (f : Factor) → (is : c.args.it ≡ item_of v f) → (rule : faulty f.exponent ≡ false) → faulty (own).exponent ≡ false = λ v f is rule. ap (λ (f : Factor). faulty f.exponent) (same-factor v f is) ∙ rule in
    let k = c.loop-s in
    let same = c.capped-m.ensures.1 (omega (arith, so.within, lends.few)) in
    let ruled = same-rule v f is rule in
    subst (λ (f : Factor). Summed v n (fs ++ (f ∷ [])) (record { at = k.at; stop = k.s; refusal = Some c.in-Err.r })) (same-factor v f is)
    (factor_off v n fs (own) c.args.bases.nums.now c.args.bases.dens.now lends ruled c.args.p so k.at k.s (k.invariant.1 v n fs lends ruled so) (omega arith) k.invariant.0 c.exponent_of-d.result c.exponent_of-d.ensures _ c.with_term.result c.with_term.ensures _ c.in-Err.is)

pub loop-s-preserved : goal.loop-s-preserved
loop-s-preserved c =
    let own : Factor = c.args.it.factor in
    let k = c.loop-s in (
      length-set k.at k.s _ ∙ k.invariant.0,
      λ v n fs lends rule so.
          let same = c.capped-m.ensures.1 (omega (arith, so.within, lends.few)) in
          factor_on v n fs (own) c.args.bases.nums.now c.args.bases.dens.now lends rule c.args.p so k.at k.s (k.invariant.1 v n fs lends rule so) (omega arith) k.invariant.0 c.exponent_of-d.result c.exponent_of-d.ensures _ c.with_term.result c.with_term.ensures _ c.in-Ok.is,
    )

pub returns : goal.returns
returns c v n fs f lends is rule so =
    let own : Factor = c.args.it.factor in
    let same-factor : (v : View) → (f : Factor) → (is : c.args.it ≡ item_of v f) → own ≡ f = λ v f is. ap (λ (it : Item). it.factor) is in
    let same-rule : (v : View) → (f : Factor) → (is : c.args.it ≡ item_of v f) → (rule : faulty f.exponent ≡ false) → faulty (own).exponent ≡ false = λ v f is rule. ap (λ (f : Factor). faulty f.exponent) (same-factor v f is) ∙ rule in
    let k = c.loop-s in
    let same = c.capped-m.ensures.1 (omega (arith, so.within, lends.few)) in
    subst (λ (stop : ℕ). Summed v n (fs ++ (f ∷ [])) (record { at = k.at; stop = stop; refusal = c.args.p.refusal })) (sym same)
    (subst (λ (f : Factor). Summed v n (fs ++ (f ∷ [])) (record { at = k.at; stop = c.args.p.stop; refusal = c.args.p.refusal })) (same-factor v f is)
    (adding_end v n fs (own) c.args.p k.at k.s so (k.invariant.1 v n fs lends (same-rule v f is rule) so) (omega arith)))
