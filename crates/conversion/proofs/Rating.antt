-- What is kept of a conversion for any value: what its refusal, its two scales, and equal lists make of one, with its count and without.
use mathlib.Core.Path.{◌≡◌, refl, sym, ◌∙◌, ap}
use mathlib.Core.Bool.{Bool, true, false, ◌||◌, true≢false}
use lib.Ieee.{Float}
use Rattle.exponents.specs.Words.{pick}
use Rattle.exponents.specs.Outcome.{Refusal, Outcome, Ok, Err, apply, bind}
use Rattle.floats.specs.Power.{tally}
use Rattle.floats.specs.Values.{is_zero}
use Rattle.floats.specs.declared.Tally.{Tally}
use Rattle.tables.proofs.Forgetting.{plain}
use Rattle.conversion.specs.declared.convert.Scales.{Scales}
use Rattle.conversion.specs.declared.convert.Rate.{Rate}
use Rattle.conversion.specs.declared.convert.Rate.TheVariants.{Same, By}
use Rattle.conversion.specs.Held.{tallied_by, any_by, rated_by, counted_by}

pub count_refused : (r : Refusal) (x : Float) → counted_by (Err r) x ≡ Err r
unfolding counted_by bind
count_refused r x = refl

pub count_same : (x : Float) → counted_by (Ok Same) x ≡ Ok (tally x 0)
unfolding counted_by any_by bind
count_same x = refl

pub count_scaled : (o : Outcome Scales) (x : Float) {c : Outcome Tally} → (is_zero x ≡ true → Ok (tally x 0) ≡ c) → (is_zero x ≡ false → tallied_by o x ≡ c) → counted_by (Ok (By o)) x ≡ c
unfolding counted_by any_by bind
count_scaled o x {c} zero nonzero = go (is_zero x) refl
  where
    go : (t : Bool) → is_zero x ≡ t → pick t (Ok (tally x 0)) (tallied_by o x) ≡ c
    go true h = zero h
    go false h = nonzero h

-- what is counted of any value is right where the count is left
pub rate_plain : (r : Outcome Rate) (x : Float) (o : Outcome Tally) (p : Outcome Float) → apply plain o ≡ p → counted_by r x ≡ o → rated_by r x ≡ p
unfolding rated_by
rate_plain r x o p e h = ap (apply plain) h ∙ e

or_true : (t : Bool) → (t || true) ≡ true
or_true true = refl
or_true false = refl

-- ---- the test of zeros and equal lists: z asks for zeros alone, s is equality as code found it
module _ (z : Bool) {a s t : Bool} (same : s ≡ t) where
  pub either_kept : (z ≡ true → a ≡ true) → (z || s) ≡ true → (a || t) ≡ true
  either_kept f h = ap (λ t. a || t) (sym same) ∙ go z s f h
    where
      go : (z s : Bool) → (z ≡ true → a ≡ true) → (z || s) ≡ true → (a || s) ≡ true
      go true s f h = ap (λ a. a || s) (f refl)
      go false s f h = ap (λ s. a || s) h ∙ or_true a

  pub neither_kept : a ≡ false → (z || s) ≡ false → (a || t) ≡ false
  neither_kept e h = ap (λ t. a || t) (sym same) ∙ ap (λ a. a || s) e ∙ go z s h
    where
      go : (z s : Bool) → (z || s) ≡ false → s ≡ false
      go true s h = absurd (true≢false h)
      go false s h = h
