-- Conversion as the code works it out: where each step ends it, and what it answers.
use mathlib.Core.Path.{◌≡◌, sym, ◌∙◌, ap, ap₂}
use mathlib.Core.Bool.{true, false, ◌||◌}
use mathlib.Core.List.{List, [], ◌∷◌, ◌++◌, append-nil}
use Prim.Native.Nat.{ℕ}
use native.Mathlib.Omega.{arith}
use lib.Ieee.{Float}
use lib.ListN.{length}
use Rattle.exponents.specs.Outcome.{Refusal, Outcome, Ok, Err, UNITS, bind, apply}
use Rattle.exponents.specs.declared.Exponent.{Exponent}
use Rattle.exponents.proofs.Holds.{bind_given, bind_refused}
use Rattle.floats.specs.Values.{is_zero}
use Rattle.units.specs.declared.Factor.{Factor}
use Rattle.floats.specs.Power.{tally}
use Rattle.floats.specs.declared.Tally.{Tally}
use Rattle.tables.specs.Lists.{base}
use Rattle.tables.specs.Rules.{Rules, scale_by}
use Rattle.tables.specs.Held.{pack_exps, View, view_bases}
use Rattle.canonical.specs.Canonical.{canon, same_list, same_all}
use Rattle.reduction.proofs.Handed.{base_long}
use Rattle.reduction.proofs.Compared.{packed-same}
use Rattle.common.specs.Common.{common, over}
use Rattle.common.specs.Held.{lessen}
use Rattle.conversion.specs.Conversion.{judged, choose, rescaled, against, unlike, convert_by}
use Rattle.conversion.specs.Held.{tallied_by, counted_by}
use Rattle.conversion.specs.declared.convert.Scales.{Scales}
use Rattle.conversion.specs.declared.convert.Rate.TheVariants.{By}
use Rattle.conversion.proofs.Rating.{count_scaled}
use Rattle.common.proofs.Lessening.{lessen_none}

-- base exponents compared as code holds them
pub seen_same : (v : View) (n : ℕ) (l m : List Factor) (es ds x y : List Exponent) → base (view_bases v n) l ≡ Ok es → base (view_bases v n) m ≡ Ok ds → pack_exps es ≡ x → pack_exps ds ≡ y → same_all x y ≡ same_all es ds
seen_same v n l m es ds x y e d p q = sym (ap₂ same_all p q) ∙ packed-same es ds (base_long v n l es e ∙ sym (base_long v n m ds d))

module _ (R : Rules Tally) where
  -- ---- the value times the one scale, divided by the other
  module _ (own target : List Factor) (x : Tally) where
    pub own_refused : (r : Refusal) → scale_by R own ≡ Err r → Err r ≡ rescaled R own target x
    unfolding rescaled
    own_refused r e = sym (bind_refused _ e)

    module _ (s : Tally) (e : scale_by R own ≡ Ok s) where
      abbrev quotient : Tally → Tally
      quotient t = R.numbers.divide (R.numbers.times x s) t

      opened : rescaled R own target x ≡ apply quotient (scale_by R target)
      unfolding rescaled
      opened = bind_given _ e

      pub target_refused : (r : Refusal) → scale_by R target ≡ Err r → Err r ≡ rescaled R own target x
      target_refused r q = sym (opened ∙ ap (apply quotient) q)

      pub rescaled_given : (t : Tally) → scale_by R target ≡ Ok t → Ok (quotient t) ≡ rescaled R own target x
      rescaled_given t q = sym (opened ∙ ap (apply quotient) q)

  -- ---- both lists' base exponents, then their scales
  module _ (own : List Factor) (target : Outcome (List Factor)) (x : Tally) where
    abbrev answer : Outcome Tally
    answer = against R own target x

    pub own_range : (r : Refusal) → base R.bases own ≡ Err r → Err r ≡ answer
    unfolding against
    own_range r e = sym (bind_refused _ e)

    module _ (es : List Exponent) (e : base R.bases own ≡ Ok es) where
      abbrev reduced : Outcome Tally
      reduced = bind target (λ t. bind (base R.bases t) (λ y. judged (same_all es y) (rescaled R own t x)))

      reduces : reduced ≡ answer
      unfolding against
      reduces = sym (bind_given _ e)

      pub target_stops : (r : Refusal) → target ≡ Err r → Err r ≡ answer
      target_stops r q = sym (bind_refused _ q) ∙ reduces

      module _ (t : List Factor) (q : target ≡ Ok t) where
        aims : bind (base R.bases t) (λ y. judged (same_all es y) (rescaled R own t x)) ≡ answer
        aims = sym (bind_given _ q) ∙ reduces

        pub target_range : (r : Refusal) → base R.bases t ≡ Err r → Err r ≡ answer
        target_range r d = sym (bind_refused _ d) ∙ aims

        module _ (ds : List Exponent) (d : base R.bases t ≡ Ok ds) where
          judges : judged (same_all es ds) (rescaled R own t x) ≡ answer
          judges = sym (bind_given _ d) ∙ aims

          pub units_differ : same_all es ds ≡ false → Err UNITS ≡ answer
          unfolding judged
          units_differ h = sym (ap (λ t'. judged t' (rescaled R own t x)) h) ∙ judges

          pub units_same : same_all es ds ≡ true → rescaled R own t x ≡ answer
          unfolding judged
          units_same h = sym (ap (λ t'. judged t' (rescaled R own t x)) h) ∙ judges

  -- ---- both canonical forms; `ready` is how the own list over the common factors is made ready
  module _ (ready : List Factor → Outcome (List Factor)) (l m : List Factor) (x : Tally) where
    abbrev converted : Outcome Tally
    converted = convert_by R ready l m x

    pub form_stops : (r : Refusal) → canon R.order l ≡ Err r → Err r ≡ converted
    unfolding convert_by
    form_stops r e = sym (bind_refused _ e)

    module _ (cl : List Factor) (p : canon R.order l ≡ Ok cl) where
      abbrev with_form : Outcome Tally
      with_form = bind (canon R.order m) (λ cm. choose (R.numbers.is_zero x || same_list R.order cl cm) x (unlike R ready (common R.order cl cm) l m x))

      forms : with_form ≡ converted
      unfolding convert_by
      forms = sym (bind_given _ p)

      pub target_form_stops : (r : Refusal) → canon R.order m ≡ Err r → Err r ≡ converted
      target_form_stops r e = sym (bind_refused _ e) ∙ forms

      module _ (cm : List Factor) (q : canon R.order m ≡ Ok cm) where
        abbrev unlikes : Outcome Tally
        unlikes = unlike R ready (common R.order cl cm) l m x

        chooses : choose (R.numbers.is_zero x || same_list R.order cl cm) x unlikes ≡ converted
        chooses = sym (bind_given _ q) ∙ forms

        pub keeps_value : (R.numbers.is_zero x || same_list R.order cl cm) ≡ true → Ok x ≡ converted
        unfolding choose
        keeps_value h = sym (ap (λ t. choose t x unlikes) h) ∙ chooses

        -- lists that differ: a zero stays, and any other value goes by two scales
        pub by_scales : (y : Float) → x ≡ tally y 0 → (R.numbers.is_zero x ≡ is_zero y) → (o : Outcome Scales) → (is_zero y ≡ false → tallied_by o y ≡ converted) → counted_by (Ok (By o)) y ≡ converted
        by_scales y f z o goes = count_scaled o y (λ h. ap Ok (sym f) ∙ keeps_value (ap (λ t. t || same_list R.order cl cm) (z ∙ h))) goes

        -- own and target over the common factors, as code has them
        module _ (own target : Outcome (List Factor)) (e : ready (over l (common R.order cl cm)) ≡ own) (f : canon R.order (over m (common R.order cl cm)) ≡ target) (h : (R.numbers.is_zero x || same_list R.order cl cm) ≡ false) where
          pub goes_on : bind own (λ o. against R o target x) ≡ converted
          unfolding choose unlike
          goes_on = ap₂ (λ o t. bind o (λ o. against R o t x)) (sym e) (sym f) ∙ sym (ap (λ t. choose t x unlikes) h) ∙ chooses

          pub own_given : (o : List Factor) → own ≡ Ok o → against R o target x ≡ converted
          own_given o g = sym (bind_given _ g) ∙ goes_on

  -- ---- nothing in common: nothing is taken off
  module _ (l m : List Factor) (x : Tally) where
    pub none_common : (cs : List Factor) → length cs ≡ 0 → against R l (Ok m) x ≡ against R (l ++ cs) (lessen R.order m cs) x
    none_common [] e = ap₂ (λ own target. against R own target x) (sym (append-nil l)) (sym (lessen_none R.order m))
    none_common (c ∷ cs) e = absurd (omega arith)

    pub none_lessened : (cs : List Factor) → length cs ≡ 0 → against R l (Ok m) x ≡ bind (lessen R.order l cs) (λ own. against R own (lessen R.order m cs) x)
    none_lessened [] e = sym (bind_given _ (lessen_none R.order l) ∙ ap (λ target. against R l target x) (lessen_none R.order m))
    none_lessened (c ∷ cs) e = absurd (omega arith)
