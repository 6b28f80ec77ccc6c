-- What an answer shows, and the outcomes as code hands them over.
use mathlib.Core.Path.{◌≡◌, refl, sym, ◌∙◌, ap}
use mathlib.Core.Bool.{Bool, true, false}
use mathlib.Core.List.{List, [], ◌∷◌}
use Prim.Native.Nat.{ℕ, zero, suc, ◌+◌, ◌≤◌, ◌<◌}
use native.Mathlib.Numerals.{add-one}
use native.Mathlib.Omega.{arith}
use borrow.Author.Tests.{leb-false}
use lib.Dec.{leb}
use lib.ListN.{length, get_or, length-map}
use lib.Ieee.{Float, nan}
use Rattle.exponents.specs.Outcome.{Refusal, ARGUMENT, Outcome, Ok, Err, unless, bind, apply}
use Rattle.exponents.specs.Words.{pick}
use Rattle.exponents.proofs.Holds.{one_answer}
use Rattle.exponents.proofs.Numbers.{clash, apply_answers}
use Rattle.exponents.proofs.Steps.{unless_on, unless_off, bind_on, bind_off}
use Rattle.knotruns.specs.Values.{plus_zero, argument_fault, unordered}
use Rattle.knotruns.specs.Runs.{Run, runs, crowded, joins, ratio, quotient_at}
use Rattle.knotruns.specs.Knots.{converted, uncrowded, merged, vector, quotient}
use Rattle.knotruns.specs.Held.{all, standing}
use Rattle.knotruns.proofs.Conversions.{Sound, sound, given_all, all_same}
use Rattle.knotruns.proofs.Spans.{span_is}
use Rattle.knotruns.proofs.Ordered.{Tolerance, tolerance, Ordered, ordered}

module _ {A : Type 0} where
  pub past-unless : (b : Bool) (r : Refusal) (o : Outcome A) (a : A) → unless b r o ≡ Ok a → (b ≡ false) × (o ≡ Ok a)
  past-unless true r o a h =
      absurd (clash (sym h ∙ unless_on r o))
  past-unless false r o a h = (refl, sym (unless_off r o) ∙ h)

pub past-bind : {A B : Type 0} (o : Outcome A) (f : A → Outcome B) (b : B) → bind o f ≡ Ok b → (a : A) × (o ≡ Ok a) × (f a ≡ Ok b)
past-bind (Ok a) f b h = (a, refl, sym (bind_on a f) ∙ h)
past-bind (Err r) f b h = absurd (clash (sym h ∙ bind_off r f))

-- what a vector that answers shows
pub record Answered (cs : List (Outcome Float)) (d : ℕ) (t : Float) (rs : List Run) : Type 0 where
  pub values : List Float
  pub from : cs ≡ all values
  pub many : length cs ≡ length values
  pub arguments : Sound (length cs) d t
  pub bears : Tolerance t
  pub in_order : Ordered values
  pub few : crowded (suc d) (runs t values) ≡ false
  pub are : rs ≡ runs t values

pub answered : (cs : List (Outcome Float)) (d : ℕ) (t : Float) (rs : List Run) → vector cs d t ≡ Ok rs → Answered cs d t rs
unfolding vector merged uncrowded
answered cs d t rs h =
    let p = past-unless (argument_fault (length cs) d t) _ _ rs h in
    let q = past-bind (converted cs) (merged d t) rs p.1 in
    let o = past-unless (unordered q.0) _ _ rs q.2 in
    let m = past-unless (crowded (suc d) (runs t q.0)) _ _ rs o.1 in
    let c = given_all cs q.0 q.1 in
    let s = sound (length cs) d t p.0 in
    record {
      values = q.0;
      from = c;
      many = ap length c ∙ length-map q.0 Ok;
      arguments = s;
      bears = tolerance t s.bears;
      in_order = ordered q.0 o.0;
      few = m.0;
      are = sym (one_answer m.1);
    }

-- the knot at place i converts to x; past the last none does
abbrev pub Converts : List (Outcome Float) → ℕ → Float → Type 0
Converts cs i x = get_or cs i (Err ARGUMENT) ≡ Ok x

at_place : (xs : List Float) (i : ℕ) (x : Float) → Converts (all xs) i x → (i < length xs) × (x ≡ get_or xs i nan)
at_place [] i x h = let z : ◌≡◌ {A = ℕ} 0 1 = cc in absurd (omega arith)
at_place (y ∷ l) zero x h = (omega arith, cc)
at_place (y ∷ l) (suc i) x h = let p = at_place l i x h in (omega arith, p.1)

pub given-at : (xs : List Float) (i : ℕ) → i < length xs → Converts (all xs) i (get_or xs i nan)
given-at [] i h = absurd (omega arith)
given-at (y ∷ l) zero h = refl
given-at (y ∷ l) (suc i) h = given-at l i (omega arith)

pub converts-at : (cs : List (Outcome Float)) (xs : List Float) (i : ℕ) (x : Float) → cs ≡ all xs → Converts cs i x → (i < length xs) × (x ≡ get_or xs i nan)
converts-at cs xs i x c h = at_place xs i x (rw c at h)

-- the vector of given values that answers
pub record Vectored (xs : List Float) (d : ℕ) (t : Float) (n : ℕ) : Type 0 where
  pub is : vector (all xs) d t ≡ Ok (runs t xs)
  pub number : n ≡ length (runs t xs)
  pub some : 0 < length xs
  pub most : length xs ≤ 512

pub vectored : (xs : List Float) (d : ℕ) (t : Float) (n : ℕ) → Ok n ≡ apply length (vector (all xs) d t) → Vectored xs d t n
vectored xs d t n h =
    let p = apply_answers length (vector (all xs) d t) n (sym h) in
    let a = answered (all xs) d t p.answer p.is in
    let r : p.answer ≡ runs t xs = a.are ∙ ap (runs t) (sym (all_same xs a.values a.from)) in
    let l = length-map {B = Outcome Float} xs Ok in
    record { is = p.is ∙ ap Ok r; number = sym p.made ∙ ap length r; some = omega (arith, a.arguments.some, l); most = omega (arith, a.arguments.most, l) }

-- ---- a quotient

-- of given values, by a walk to the left knot's run; n is the right knot's place
module _ (xs : List Float) (d : ℕ) (t : Float) (i : ℕ) (x : Float) where
  abbrev pub span : ℕ → Float
  span n = pick (joins t (standing t xs i) (get_or xs n nan)) plus_zero (ratio (standing t xs i) (get_or xs n nan) x)

  by_place : (b : Bool) → leb (length xs) (suc i) ≡ b → unless b ARGUMENT (Ok (quotient_at (runs t xs) i x)) ≡ unless b ARGUMENT (Ok (span (suc i)))
  by_place true e = rw (unless_on, unless_on)
  by_place false e = rw (span_is t xs i x (leb-false (length xs) (suc i) e))

  by_vector : (o : Outcome (List Run)) → vector (all xs) d t ≡ o → bind o (λ rs. unless (leb (length xs) (suc i)) ARGUMENT (Ok (quotient_at rs i x))) ≡ bind o (λ rs. unless (leb (length xs) (suc i)) ARGUMENT (Ok (span (suc i))))
  by_vector (Ok rs) e =
      let a = answered (all xs) d t rs e in
      let r : rs ≡ runs t xs = a.are ∙ ap (runs t) (sym (all_same xs a.values a.from)) in
      rw (bind_on, bind_on, r) (by_place (leb (length xs) (suc i)) refl)
  by_vector (Err r) e = rw (bind_off, bind_off)

  to_place : (n : ℕ) → n ≡ suc i → quotient (all xs) d t i x ≡ bind (vector (all xs) d t) (λ rs. unless (leb (length xs) n) ARGUMENT (Ok (span n)))
  unfolding quotient
  to_place n e = rw (length-map {B = Outcome Float} xs Ok, e) (by_vector (vector (all xs) d t) refl)

  pub quotient_all : quotient (all xs) d t i x ≡ bind (vector (all xs) d t) (λ rs. unless (leb (length xs) (i + 1)) ARGUMENT (Ok (span (i + 1))))
  quotient_all = to_place (i + 1) (add-one i)
