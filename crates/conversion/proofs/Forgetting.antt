-- The counted conversion is the uncounted one with a count beside it (02, order 5): forgetting the count gives the uncounted answer, value or refusal, by any rules and however the own list is made ready.
use mathlib.Core.Path.{◌≡◌, refl, sym, ap, ◌∙◌}
use mathlib.Core.Bool.{Bool, true, false, ◌||◌}
use mathlib.Core.List.{List}
use lib.Ieee.{Float}
use Rattle.exponents.specs.Outcome.{Outcome, apply, bind}
use Rattle.exponents.proofs.Following.{bind_same, apply_apply, apply_bind}
use Rattle.floats.specs.Power.{tally}
use Rattle.floats.specs.declared.Tally.{Tally}
use Rattle.units.specs.declared.Factor.{Factor}
use Rattle.tables.specs.Lists.{base}
use Rattle.tables.specs.Scale.{counted_size}
use Rattle.tables.specs.Rules.{Rules, scale_by, counted}
use Rattle.tables.proofs.Forgetting.{plain, forget_bind, forget_scale}
use Rattle.canonical.specs.Canonical.{canon, same_list, same_all}
use Rattle.common.specs.Common.{common, over}
use Rattle.conversion.specs.Conversion.{judged, choose, rescaled, against, unlike, convert_by}

forget_judged : (t : Bool) (o : Outcome Tally) → apply plain (judged t o) ≡ judged t (apply plain o)
unfolding judged
forget_judged true o = refl
forget_judged false o = refl

forget_choose : (t : Bool) (x : Tally) (o : Outcome Tally) → apply plain (choose t x o) ≡ choose t x.value (apply plain o)
unfolding choose
forget_choose true x o = refl
forget_choose false x o = refl

-- a step that no number enters
passed : {A : Type 0} (o : Outcome A) (f : A → Outcome Tally) (g : A → Outcome Float) → ((a : A) → apply plain (f a) ≡ g a) → apply plain (bind o f) ≡ bind o g
passed o f g h = apply_bind o f plain ∙ bind_same o _ _ h

module _ (R : Rules Float) where
  pub forget_scale_by : (l : List Factor) → apply plain (scale_by (counted R) l) ≡ scale_by R l
  forget_scale_by l = forget_scale R.numbers (counted_size R.size) (tally R.numbers.one 0) l

  forget_rescaled : (own target : List Factor) (x : Tally) → apply plain (rescaled (counted R) own target x) ≡ rescaled R own target x.value
  unfolding rescaled
  forget_rescaled own target x =
      forget_bind (scale_by (counted R) own) _ (λ s. apply (λ t. R.numbers.divide (R.numbers.times x.value s) t) (scale_by R target))
      (λ s. apply_apply (λ t. (counted R).numbers.divide ((counted R).numbers.times x s) t) plain (scale_by (counted R) target)
      ∙ sym (apply_apply plain (λ t. R.numbers.divide (R.numbers.times x.value s.value) t) (scale_by (counted R) target))
      ∙ ap (apply (λ t. R.numbers.divide (R.numbers.times x.value s.value) t)) (forget_scale_by target))
      ∙ ap (λ o. bind o (λ s. apply (λ t. R.numbers.divide (R.numbers.times x.value s) t) (scale_by R target))) (forget_scale_by own)

  forget_against : (own : List Factor) (target : Outcome (List Factor)) (x : Tally) → apply plain (against (counted R) own target x) ≡ against R own target x.value
  unfolding against
  forget_against own target x =
      passed (base R.bases own) _ _ (λ es. passed target _ _ (λ t. passed (base R.bases t) _ _ (λ ds.
      forget_judged (same_all es ds) (rescaled (counted R) own t x) ∙ ap (judged (same_all es ds)) (forget_rescaled own t x))))

  -- THEOREM: value and refusal are the uncounted ones
  pub forget_convert : (ready : List Factor → Outcome (List Factor)) (l m : List Factor) (x : Tally) → apply plain (convert_by (counted R) ready l m x) ≡ convert_by R ready l m x.value
  unfolding convert_by unlike
  forget_convert ready l m x =
      passed (canon R.order l) _ _ (λ cl. passed (canon R.order m) _ _ (λ cm.
      forget_choose (R.numbers.is_zero x.value || same_list R.order cl cm) x _
      ∙ ap (choose (R.numbers.is_zero x.value || same_list R.order cl cm) x.value)
      (passed (ready (over l (common R.order cl cm))) _ _ (λ own. forget_against own (canon R.order (over m (common R.order cl cm))) x))))
