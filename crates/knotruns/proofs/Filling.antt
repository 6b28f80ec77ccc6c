-- The loop that fills values knot by knot and stops at the first refusal, over any conversion f of any knots.
use mathlib.Core.Path.{◌≡◌, ◌∙◌}
use mathlib.Core.List.{List, [], ◌∷◌, ◌++◌, map}
use Prim.Native.Nat.{ℕ, ◌+◌, ◌≤◌, ◌<◌}
use native.Mathlib.Numerals.{add-one}
use native.Mathlib.Omega.{arith}
use lib.ListN.{length, get_or, take, set, length-set}
use lib.Seq.{take-suc-set}
use lib.Ieee.{Float}
use Rattle.exponents.specs.Outcome.{Refusal, Outcome, Ok, Err}
use Rattle.exponents.proofs.Each.{each_map}
use Rattle.exponents.proofs.Traversal.{Upto, upto_none, upto_on, upto_off, upto_end}
use Rattle.knotruns.specs.Knots.{converted}
use Rattle.knotruns.specs.Held.{all}
use Rattle.knotruns.proofs.Conversions.{given_all}

module _ {A : Type 0} (f : A → Outcome Float) (ks : List A) (z : A) where
  -- i values of vs are filled
  pub record Filled (i : ℕ) (vs : List Float) : Type 0 where
    pub within : i ≤ length ks
    pub places : length ks ≤ length vs
    pub so_far : Upto f ks i (take i vs)

  pub filled_none : (vs : List Float) → length ks ≤ length vs → Filled 0 vs
  filled_none vs h = record { within = omega arith; places = h; so_far = upto_none f ks }

  pub filled_on : (i : ℕ) (vs : List Float) (v : Float) → Filled i vs → i < length ks → f (get_or ks i z) ≡ Ok v → Filled (i + 1) (set vs i v)
  filled_on i vs v w h e =
      let g : i < length vs = omega arith in
      let s : take (i + 1) (set vs i v) ≡ take i vs ++ (v ∷ []) = rw (add-one i) (take-suc-set vs i v g) in
      record { within = omega arith; places = rw length-set w.places; so_far = rw s (upto_on f ks i (take i vs) w.so_far z h v e) }

  pub filled_stop : (i : ℕ) (vs : List Float) (r : Refusal) → Filled i vs → i < length ks → f (get_or ks i z) ≡ Err r → converted (map f ks) ≡ Err r
  filled_stop i vs r w h e = each_map (λ o. o) f ks ∙ upto_off f ks i (take i vs) w.so_far z h r e

  pub filled_all : (i : ℕ) (vs : List Float) → Filled i vs → length ks ≤ i → map f ks ≡ all (take (length ks) vs)
  filled_all i vs w h =
      let e : i ≡ length ks = omega (arith, w.within) in
      rw e at (given_all (map f ks) (take i vs) (each_map (λ o. o) f ks ∙ upto_end f ks i (take i vs) w.so_far h))
