-- One account of reduction (01, "Conversion, sums, comparison"): whatever is taken out of both lists, merged or not, the base exponents of the reduced lists decide whether those of the given ones agree.
use mathlib.Core.Path.{◌≡◌, refl, sym, ◌∙◌}
use mathlib.Core.Bool.{Bool, true, false, true≢false}
use mathlib.Core.Logic.{◌↔◌}
use mathlib.Core.List.{List}
use Prim.Native.Nat.{ℕ}
use Rattle.exponents.specs.Outcome.{Refusal, UNITS, Outcome, Err}
use Rattle.exponents.specs.declared.Exponent.{Exponent}
use Rattle.exponents.proofs.Holds.{Holds, Only, only_out, take_out, either, bind_given, bind_refused}
use Rattle.exponents.proofs.Halves.{OutOfRange}
use Rattle.exponents.proofs.Value.{Value}
use Rattle.exponents.proofs.Totals.{cancel}
use Rattle.units.specs.declared.Factor.{Factor}
use Rattle.tables.specs.Lists.{base}
use Rattle.tables.specs.Rules.{Rules}
use Rattle.canonical.specs.Canonical.{same_all}
use Rattle.canonical.proofs.Algebra.{exact, exact_over}
use Rattle.canonical.proofs.Bases.{Agree, base_decides, agree_map}
use Rattle.canonical.proofs.Decides.{Decides, decides_imp, found, missed}
use Rattle.common.specs.Common.{over}
use Rattle.conversion.specs.Conversion.{judged, rescaled, against}
use Rattle.conversion.proofs.Refusals.{base_only}
use Rattle.conversion.proofs.Cases.{Passed, Stops, at_own_base, at_over, at_target-base}

-- ---- base exponents
module _ (W : Value) where
  -- l over c and m over c have the same base exponents exactly when l and m have
  pub over-same : (l m c : List Factor) (b : ℕ → Exponent) → (exact W (over l c) b ≡ exact W (over m c) b) ↔ (exact W l b ≡ exact W m b)
  over-same l m c b =
      (λ e. cancel W _ _ _ (sym (exact_over W l c b) ∙ e ∙ exact_over W m c b), λ e. rw (exact_over W l c b, exact_over W m c b, e))

  -- own and target have the base exponents of l over c and of m over c: they are these as they stand, or merged
  pub record Over (l m c own : List Factor) (target : Outcome (List Factor)) : Type 0 where
    pub own_same : (b : ℕ → Exponent) → exact W own b ≡ exact W (over l c) b
    pub target-same : (b : ℕ → Exponent) → Holds (λ t. exact W t b ≡ exact W (over m c) b) target

  -- the base exponents that 01 works out of the reduced lists are the same exactly where those of l and m agree
  pub reduction_decides : (bs : List (ℕ → Exponent)) (l m c own : List Factor) (target : Outcome (List Factor)) → Over l m c own target →
      {x : List Exponent} {t : List Factor} {y : List Exponent} → Passed bs own target x t y → Decides (Agree W bs l m) (same_all x y)
  reduction_decides bs l m c own target k {x} {t} {y} s =
      let same : (b : ℕ → Exponent) → exact W t b ≡ exact W (over m c) b = λ b. take_out (k.target-same b) s.target_is in
      decides_imp (base_decides W bs own t x y s.own_base s.target-base)
      (agree_map W bs own t l m λ b e. (over-same l m c b).0 (sym (k.own_same b) ∙ e ∙ same b))
      (agree_map W bs l m own t λ b e. k.own_same b ∙ (over-same l m c b).1 e ∙ sym (same b))

-- ---- the ranged steps
module _ (bs : List (ℕ → Exponent)) (own : List Factor) (target : Outcome (List Factor)) where
  -- all answer, or one is the first to refuse
  pub either_way : {C : Type 0} → ((x : List Exponent) (t : List Factor) (y : List Exponent) → Passed bs own target x t y → C) → ((r : Refusal) → Stops bs own target r → C) → C
  either_way f g =
      either (base bs own)
      (λ x ex. either target
      (λ t et. either (base bs t) (λ y ey. f x t y (record { own_base = ex; target_is = et; target-base = ey })) (λ r e. g r (at_target-base ex et e)))
      (λ r e. g r (at_over ex e)))
      (λ r e. g r (at_own_base e))

  -- they refuse only what leaves the range, if the target does
  pub stops_only : (S : Refusal → Type 0) → ((r : Refusal) → OutOfRange r → S r) → Only S target → {r : Refusal} → Stops bs own target r → S r
  stops_only S range h (at_own_base e) = only_out (base_only S range bs own) e
  stops_only S range h (at_over ex e) = only_out h e
  stops_only S range h (at_target-base {t = t} ex et e) = only_out (base_only S range bs t) e

-- ---- the value against the target
module _ {A : Type 0} where
  judged_on : (t : Bool) (o : Outcome A) → t ≡ true → judged t o ≡ o
  unfolding judged
  judged_on true o e = refl
  judged_on false o e = absurd (true≢false (sym e))

  judged_off : (t : Bool) (o : Outcome A) → t ≡ false → judged t o ≡ Err UNITS
  unfolding judged
  judged_off true o e = absurd (true≢false e)
  judged_off false o e = refl

module _ {A : Type 0} (R : Rules A) (own : List Factor) (target : Outcome (List Factor)) (v : A) where
  -- the first step that refuses is answered
  pub against_stops : {r : Refusal} → Stops R.bases own target r → against R own target v ≡ Err r
  unfolding against
  against_stops (at_own_base e) = bind_refused _ e
  against_stops (at_over ex e) = bind_given _ ex ∙ bind_refused _ e
  against_stops (at_target-base ex et e) = bind_given _ ex ∙ bind_given _ et ∙ bind_refused _ e

  module _ {x : List Exponent} {t : List Factor} {y : List Exponent} (s : Passed R.bases own target x t y) where
    judges : against R own target v ≡ judged (same_all x y) (rescaled R own t v)
    unfolding against
    judges = bind_given _ s.own_base ∙ bind_given _ s.target_is ∙ bind_given _ s.target-base

    module _ (W : Value) (l m c : List Factor) (k : Over W l m c own target) where
      -- all steps answer, and the base exponents of l and m differ: UNITS
      pub against_units : (Agree W R.bases l m → ⊥) → against R own target v ≡ Err UNITS
      against_units n = judges ∙ judged_off _ _ (missed _ (reduction_decides W R.bases l m c own target k s) n)

      -- or agree: the value by the two scales
      pub against_value : Agree W R.bases l m → against R own target v ≡ rescaled R own t v
      against_value a = judges ∙ judged_on _ _ (found _ (reduction_decides W R.bases l m c own target k s) a)
