-- What a conversion answers, whatever is given (01, "Conversion, sums, comparison"; 02, order 3): five cases, of which one always holds, and the answer of each. They are stated once, over how the own list is made ready.
-- Base exponents are here the exact ones of the two lists as they were given. `Faithful` has the proofs.
use mathlib.Core.Path.{◌≡◌}
use mathlib.Core.Bool.{true, false}
use mathlib.Core.List.{List}
use Prim.Native.Nat.{ℕ}
use Rattle.exponents.specs.Outcome.{Refusal, UNITS, Outcome, Ok, Err, apply, bind}
use Rattle.exponents.specs.declared.Exponent.{Exponent}
use Rattle.exponents.proofs.Value.{Value}
use Rattle.units.specs.declared.Factor.{Factor}
use Rattle.tables.specs.Lists.{base}
use Rattle.tables.specs.Rules.{Rules, scale_by}
use Rattle.canonical.specs.Canonical.{canon}
use Rattle.canonical.proofs.Bases.{Agree}
use Rattle.common.specs.Common.{common, over}

-- ---- the last three of the five ranged steps, at an own list and a target that are reduced
module _ (bs : List (ℕ → Exponent)) where
  -- all three answer: x are the base exponents of the own list, t is the target, y are its base exponents
  pub record Passed (own : List Factor) (target : Outcome (List Factor)) (x : List Exponent) (t : List Factor) (y : List Exponent) : Type 0 where
    pub own_base : base bs own ≡ Ok x
    pub target_is : target ≡ Ok t
    pub target-base : base bs t ≡ Ok y

  -- r is the refusal of the first of the three that refuses
  pub data Stops (own : List Factor) (target : Outcome (List Factor)) (r : Refusal) : Type 0 where
    at_own_base : base bs own ≡ Err r → Stops own target r
    at_over : {x : List Exponent} → base bs own ≡ Ok x → target ≡ Err r → Stops own target r
    at_target-base : {x : List Exponent} {t : List Factor} → base bs own ≡ Ok x → target ≡ Ok t → base bs t ≡ Err r → Stops own target r

-- ---- the cases, by the rules R
module _ {A : Type 0} (R : Rules A) (W : Value) where
  -- both lists have a canonical form, these differ, and the value is nonzero
  pub record Unlike (l m : List Factor) (v : A) (cl cm : List Factor) : Type 0 where
    pub own : canon R.order l ≡ Ok cl
    pub target : canon R.order m ≡ Ok cm
    pub nonzero : R.numbers.is_zero v ≡ false
    pub differ : cl ≡ cm → ⊥

  -- `ready` is how the own list over the common factors is made ready
  module _ (ready : List Factor → Outcome (List Factor)) where
    -- and the steps after that answer: the own list over the common factors is made ready, the target over them is canonical
    pub record Reduced (l m : List Factor) (v : A) (cl cm own : List Factor) (x : List Exponent) (t : List Factor) (y : List Exponent) : Type 0 where
      pub lists : Unlike l m v cl cm
      pub readied : ready (over l (common R.order cl cm)) ≡ Ok own
      pub steps : Passed R.bases own (canon R.order (over m (common R.order cl cm))) x t y

    -- r is the refusal of the first of the steps that refuses: five, and the making ready, which never refuses where the own list stays as it stands
    pub data Stopped (l m : List Factor) (v : A) (r : Refusal) : Type 0 where
      at_own : canon R.order l ≡ Err r → Stopped l m v r
      at_target : {cl : List Factor} → canon R.order l ≡ Ok cl → canon R.order m ≡ Err r → Stopped l m v r
      at_ready : {cl cm : List Factor} → Unlike l m v cl cm → ready (over l (common R.order cl cm)) ≡ Err r → Stopped l m v r
      at_reduced : {cl cm own : List Factor} → Unlike l m v cl cm → ready (over l (common R.order cl cm)) ≡ Ok own → Stops R.bases own (canon R.order (over m (common R.order cl cm))) r → Stopped l m v r

    pub data Case (l m : List Factor) (v : A) : Type 0 where
      -- a zero, or equal lists
      zero : {cl cm : List Factor} → canon R.order l ≡ Ok cl → canon R.order m ≡ Ok cm → R.numbers.is_zero v ≡ true → Case l m v
      equal : {c : List Factor} → canon R.order l ≡ Ok c → canon R.order m ≡ Ok c → Case l m v
      -- else a ranged step refuses
      stopped : {r : Refusal} → Stopped l m v r → Case l m v
      -- else the base exponents of l and m differ, or agree
      units : {cl cm own t : List Factor} {x y : List Exponent} → Reduced l m v cl cm own x t y → (Agree W R.bases l m → ⊥) → Case l m v
      value : {cl cm own t : List Factor} {x y : List Exponent} → Reduced l m v cl cm own x t y → Agree W R.bases l m → Case l m v

    -- the value times own scale, divided by target scale; a scale's refusal is the conversion's, the own one first
    abbrev pub answer : {l m : List Factor} {v : A} → Case l m v → Outcome A
    answer {v} (zero el em z) = Ok v
    answer {v} (equal el em) = Ok v
    answer (stopped {r} s) = Err r
    answer (units s n) = Err UNITS
    answer {v} (value {own} {t} s a) = bind (scale_by R own) (λ s. apply (λ u. R.numbers.divide (R.numbers.times v s) u) (scale_by R t))

    -- a conversion that is right in every case
    abbrev pub Faithful : (List Factor → List Factor → A → Outcome A) → Type 0
    Faithful f = (l m : List Factor) (v : A) (k : Case l m v) → f l m v ≡ answer k
