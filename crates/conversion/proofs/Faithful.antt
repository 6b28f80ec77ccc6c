-- The theorem on conversion, once for every way to make the own list ready: it is right in every case, one of the cases always holds, and so what is right in every case answers as conversion does. Then what each refusal tells.
use mathlib.Core.Path.{◌≡◌, refl, sym, ◌∙◌, ap, ap₂, subst}
use mathlib.Core.Bool.{Bool, true, false, ◌||◌, or-true, true≢false}
use mathlib.Core.Logic.{◌↔◌}
use mathlib.Core.List.{List}
use Rattle.exponents.specs.Outcome.{Refusal, UNITS, FRACTION, Outcome, Ok, Err, bind}
use Rattle.exponents.specs.declared.Exponent.{Exponent}
use Rattle.exponents.proofs.Holds.{Only, fine, only, only_out, take_out, either, bind_given, bind_refused}
use Rattle.exponents.proofs.Halves.{OutOfRange}
use Rattle.exponents.proofs.Value.{Value}
use Rattle.units.specs.declared.Factor.{Factor}
use Rattle.tables.specs.Rules.{Rules}
use Rattle.tables.proofs.Total.{Total}
use Rattle.canonical.specs.Canonical.{same_all, canon, same_list}
use Rattle.canonical.proofs.Algebra.{exact_canon}
use Rattle.canonical.proofs.Bases.{Agree}
use Rattle.canonical.proofs.Decides.{Decides, found, missed}
use Rattle.canonical.proofs.Equal.{same_list_lem}
use Rattle.common.specs.Common.{common, over}
use Rattle.conversion.specs.Conversion.{choose, rescaled, against, unlike, convert_by}
use Rattle.conversion.specs.Fractional.{fractional}
use Rattle.conversion.proofs.Refusals.{given_not_refused, range_not_units, range_not_fraction, units_not_fraction, canon_only, Fraction, fraction_only, rescaled_is}
use Rattle.conversion.proofs.Cases.{Unlike, Reduced, Stopped, at_own, at_target, at_ready, at_reduced, Case, zero, equal, stopped, units, value, answer, Faithful}
use Rattle.conversion.proofs.Ready.{Ready}
use Rattle.conversion.proofs.Reduction.{Over, reduction_decides, either_way, against_stops, against_units, against_value, stops_only}

module _ {A : Type 0} where
  choose_on : (t : Bool) (v : A) (o : Outcome A) → t ≡ true → choose t v o ≡ Ok v
  unfolding choose
  choose_on true v o e = refl
  choose_on false v o e = absurd (true≢false (sym e))

  choose_off : (t : Bool) (v : A) (o : Outcome A) → t ≡ false → choose t v o ≡ o
  unfolding choose
  choose_off true v o e = absurd (true≢false e)
  choose_off false v o e = refl

-- ---- a test holds or doesn't
whether : {C : Type 0} (t : Bool) → (t ≡ true → C) → (t ≡ false → C) → C
whether true f g = f refl
whether false f g = g refl

decided : {P C : Type 0} (t : Bool) → Decides P t → (P → C) → ((P → ⊥) → C) → C
decided t d f g = whether t (λ e. f (d.yea e)) (λ e. g (d.nay e))

module _ {A : Type 0} (R : Rules A) (W : Value) (O : Total R.order) (ready : List Factor → Outcome (List Factor)) (K : Ready W ready) where
  over-both : (l m c own : List Factor) → ready (over l c) ≡ Ok own → Over W l m c own (canon R.order (over m c))
  over-both l m c own e = record { own_same = λ b. take_out (K.keeps (over l c) b) e; target-same = exact_canon W R.order O (over m c) }

  both_answer : (l m cl cm : List Factor) (v : A) → canon R.order l ≡ Ok cl → canon R.order m ≡ Ok cm →
      convert_by R ready l m v ≡ choose (R.numbers.is_zero v || same_list R.order cl cm) v (unlike R ready (common R.order cl cm) l m v)
  unfolding convert_by
  both_answer l m cl cm v el em = bind_given _ el ∙ bind_given _ em

  lists_differ : (l m cl cm : List Factor) (v : A) → Unlike R W l m v cl cm → convert_by R ready l m v ≡ bind (ready (over l (common R.order cl cm))) (λ own. against R own (canon R.order (over m (common R.order cl cm))) v)
  unfolding unlike
  lists_differ l m cl cm v u =
      both_answer l m cl cm v u.own u.target ∙ choose_off _ v _ (ap₂ ◌||◌ u.nonzero (missed _ (same_list_lem R.order O cl cm) u.differ))

  own_ready : (l m cl cm own : List Factor) (v : A) → Unlike R W l m v cl cm → ready (over l (common R.order cl cm)) ≡ Ok own → convert_by R ready l m v ≡ against R own (canon R.order (over m (common R.order cl cm))) v
  own_ready l m cl cm own v u e = lists_differ l m cl cm v u ∙ bind_given _ e

  stops : (l m : List Factor) (v : A) {r : Refusal} → Stopped R W ready l m v r → convert_by R ready l m v ≡ Err r
  unfolding convert_by
  stops l m v (at_own e) = bind_refused _ e
  stops l m v (at_target el e) = bind_given _ el ∙ bind_refused _ e
  stops l m v (at_ready u e) = lists_differ l m _ _ v u ∙ bind_refused _ e
  stops l m v (at_reduced u e s) = own_ready l m _ _ _ v u e ∙ against_stops R _ _ v s

  -- THEOREM: the conversion is right in every case
  pub faithful : Faithful R W ready (convert_by R ready)
  unfolding rescaled
  faithful l m v (zero {cl} {cm} el em z) = both_answer l m cl cm v el em ∙ choose_on _ v _ (ap (λ t. t || same_list R.order cl cm) z)
  faithful l m v (equal {c} el em) = both_answer l m c c v el em ∙ choose_on _ v _ (ap (λ t. R.numbers.is_zero v || t) (found _ (same_list_lem R.order O c c) refl) ∙ or-true (R.numbers.is_zero v))
  faithful l m v (stopped s) = stops l m v s
  faithful l m v (units {cl} {cm} {own} s n) = own_ready l m cl cm own v s.lists s.readied ∙ against_units R _ _ v s.steps W l m _ (over-both l m (common R.order cl cm) own s.readied) n
  faithful l m v (value {cl} {cm} {own} s a) = own_ready l m cl cm own v s.lists s.readied ∙ against_value R _ _ v s.steps W l m _ (over-both l m (common R.order cl cm) own s.readied) a

  module _ (l m : List Factor) (v : A) where
    differing : (cl cm : List Factor) → Unlike R W l m v cl cm → Case R W ready l m v
    differing cl cm u =
        either (ready (over l (common R.order cl cm)))
        (λ own e. either_way R.bases own (canon R.order (over m (common R.order cl cm)))
        (λ x t y s. decided (same_all x y) (reduction_decides W R.bases l m _ _ _ (over-both l m (common R.order cl cm) own e) s) (value (record { lists = u; readied = e; steps = s })) (units (record { lists = u; readied = e; steps = s })))
        (λ r s. stopped (at_reduced u e s)))
        (λ r e. stopped (at_ready u e))

    compared : (cl cm : List Factor) → canon R.order l ≡ Ok cl → canon R.order m ≡ Ok cm → R.numbers.is_zero v ≡ false → Case R W ready l m v
    compared cl cm el em z =
        decided (same_list R.order cl cm) (same_list_lem R.order O cl cm)
        (λ e. equal (el ∙ ap Ok e) em)
        (λ n. differing cl cm (record { own = el; target = em; nonzero = z; differ = n }))

    -- THEOREM: one of the cases holds
    pub case : Case R W ready l m v
    case =
        either (canon R.order l)
        (λ cl el. either (canon R.order m) (λ cm em. whether (R.numbers.is_zero v) (zero el em) (compared cl cm el em)) (λ r e. stopped (at_target el e)))
        (λ r e. stopped (at_own e))

  -- so what is right in every case answers as conversion does
  pub only_one : (f : List Factor → List Factor → A → Outcome A) → Faithful R W ready f → (l m : List Factor) (v : A) → f l m v ≡ convert_by R ready l m v
  only_one f h l m v = h l m v (case l m v) ∙ sym (faithful l m v (case l m v))

  -- ---- the other way round: what a refusal tells

  -- the steps refuse only what leaves the range
  pub stopped_only : (S : Refusal → Type 0) → ((r : Refusal) → OutOfRange r → S r) → (l m : List Factor) (v : A) {r : Refusal} → Stopped R W ready l m v r → S r
  stopped_only S range l m v (at_own e) = only_out (canon_only S range R.order l) e
  stopped_only S range l m v (at_target el e) = only_out (canon_only S range R.order m) e
  stopped_only S range l m v {r} (at_ready u e) = range r (only_out (K.ranged _) e)
  stopped_only S range l m v (at_reduced u e s) = stops_only R.bases _ _ S range (canon_only S range R.order _) s

  -- a conversion refuses what leaves the range, by FRACTION, or, where base exponents differ, by UNITS
  module _ (S : Refusal → Type 0) (range : (r : Refusal) → OutOfRange r → S r) (frac : S FRACTION) (l m : List Factor) (v : A) (differ : (Agree W R.bases l m → ⊥) → S UNITS) where
    answer_only : (k : Case R W ready l m v) → Only S (answer R W ready k)
    unfolding rescaled
    answer_only (zero el em z) = fine
    answer_only (equal el em) = fine
    answer_only (stopped s) = only (stopped_only S range l m v s)
    answer_only (units s n) = only (differ n)
    answer_only (value {t = t} s a) = fraction_only S frac (rescaled_is R _ t v)

    pub convert_only : Only S (convert_by R ready l m v)
    convert_only = subst (λ o. Only S o) (sym (faithful l m v (case l m v))) (answer_only (case l m v))

  module _ (l m : List Factor) (v : A) where
    -- two scales refuse only by FRACTION
    by_fraction : (own t : List Factor) {r : Refusal} → rescaled R own t v ≡ Err r → r ≡ FRACTION
    by_fraction own t e = only_out (fraction_only (λ r. r ≡ FRACTION) refl (rescaled_is R own t v)) e

    -- r is a refusal of what leaves the range
    module _ (r : Refusal) (range : OutOfRange r) where
      stopped_from : (k : Case R W ready l m v) → answer R W ready k ≡ Err r → Stopped R W ready l m v r
      unfolding rescaled
      stopped_from (zero el em z) e = absurd (given_not_refused e)
      stopped_from (equal el em) e = absurd (given_not_refused e)
      stopped_from (stopped {r = o} s) e = subst (λ o. Stopped R W ready l m v o) (let z : o ≡ r = cc in z) s
      stopped_from (units s n) e = absurd (range_not_units r range (only_out {S = λ r. r ≡ UNITS} (only refl) e))
      stopped_from (value {t = t} s a) e = absurd (range_not_fraction r range (by_fraction _ t e))

      -- exactly where one of the steps refuses, with the refusal of the first; by `stopped_only` a step has no others
      pub range_exactly : (convert_by R ready l m v ≡ Err r) ↔ Stopped R W ready l m v r
      range_exactly = (λ e. stopped_from (case l m v) (sym (faithful l m v (case l m v)) ∙ e), stops l m v)

    -- all steps answer
    module _ {cl cm own t : List Factor} {x y : List Exponent} (s : Reduced R W ready l m v cl cm own x t y) where
      -- UNITS exactly where the base exponents of l and m differ
      pub units_exactly : (convert_by R ready l m v ≡ Err UNITS) ↔ (Agree W R.bases l m → ⊥)
      unfolding rescaled
      units_exactly = (λ e a. units_not_fraction (by_fraction _ t (sym (faithful l m v (value s a)) ∙ e)), λ n. faithful l m v (units s n))

      -- else FRACTION exactly where a size other than 1 meets an exponent that isn't whole, in the own list over the common factors, made ready, or in the target over them
      pub fraction_exactly : Agree W R.bases l m → Fraction (fractional R own || fractional R t) (convert_by R ready l m v)
      unfolding rescaled
      fraction_exactly a =
          subst (λ o. Fraction (fractional R own || fractional R t) o) (sym (faithful l m v (value s a)))
          (rescaled_is R own t v)
