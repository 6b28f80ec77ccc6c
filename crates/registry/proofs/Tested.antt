-- The tests of the code answer as the rule does: the larger of two scales, scales that are close, a list of one factor to a whole exponent, and a candidate that fits.
use mathlib.Core.Path.{◌≡◌, refl, sym, ap, ◌∙◌}
use mathlib.Core.Bool.{Bool, true, false, ◌&&◌}
use mathlib.Core.List.{List, [], ◌∷◌}
use Prim.Native.Nat.{ℕ, ◌≤◌, ◌<◌}
use native.Mathlib.Omega.{arith}
use lib.Dec.{eqb}
use lib.Ieee.{Float}
use lib.ListN.{length, get_or}
use borrow.Author.Tests.{lt-ltb, le-ltb, ne_eqb}
use Rattle.exponents.specs.Outcome.{Refusal, Outcome, Ok, Err, apply, bind}
use Rattle.exponents.specs.declared.Exponent.{Exponent}
use Rattle.exponents.proofs.Holds.{bind_given, bind_refused}
use Rattle.units.specs.declared.Factor.{Factor}
use Rattle.units.specs.declared.Factors.{Factors}
use Rattle.units.specs.Lists.{pack}
use Rattle.tables.specs.Lists.{base}
use Rattle.exponents.specs.Words.{pick}
use Rattle.tables.specs.Rules.{Rules, scale_by}
use Rattle.canonical.specs.Canonical.{same_all}
use Rattle.registry.specs.Registry.{close, is_single, fitting}

-- ---- one factor to a whole exponent
pub single : (l : Factors) (fs : List Factor) (d : Factor) → l ≡ pack fs → (eqb l.len 1 && eqb (get_or l.at 0 d).exponent.den 1) ≡ is_single fs
unfolding pack is_single
single l fs d e = ap (λ (l : Factors). eqb l.len 1 && eqb (get_or l.at 0 d).exponent.den 1) e ∙ go fs
  where
    go : (fs : List Factor) → (eqb (pack fs).len 1 && eqb (get_or (pack fs).at 0 d).exponent.den 1) ≡ is_single fs
    go [] = refl
    go (f ∷ []) = refl
    go (f ∷ g ∷ fs) = ap (λ t. t && eqb f.exponent.den 1) (ne_eqb (length (f ∷ g ∷ fs)) 1 (λ z. omega arith))

-- ---- a candidate tested
module _ (R : Rules Float) (most : ℕ) (es : List Exponent) (s : Float) (ms : List Factor) where
  abbrev answer : Outcome Bool
  answer = fitting R most es s ms

  pub too_long : most ≤ length ms → Ok false ≡ answer
  unfolding fitting
  too_long h = rw (le-ltb (length ms) most h)

  abbrev sized : Outcome Bool
  sized = apply (close s) (scale_by R ms)

  abbrev after : List Exponent → Outcome Bool
  after ys = pick (same_all ys es) sized (Ok false)

  module _ (h : length ms < most) where
    goes : answer ≡ bind (base R.bases ms) after
    unfolding fitting
    goes = rw (lt-ltb (length ms) most h)

    pub no_base : (r : Refusal) → base R.bases ms ≡ Err r → Err r ≡ answer
    no_base r e = sym (goes ∙ bind_refused after e)

    module _ (ys : List Exponent) (e : base R.bases ms ≡ Ok ys) where
      pub other_units : same_all ys es ≡ false → Ok false ≡ answer
      other_units k = sym (goes ∙ bind_given after e ∙ rw k)

      module _ (k : same_all ys es ≡ true) where
        goes_on : answer ≡ sized
        goes_on = goes ∙ bind_given after e ∙ rw k

        pub no_scale : (r : Refusal) → scale_by R ms ≡ Err r → Err r ≡ answer
        no_scale r z = sym (goes_on ∙ ap (apply (close s)) z)

        pub compared : (u : Float) → scale_by R ms ≡ Ok u → Ok (close s u) ≡ answer
        compared u z = sym (goes_on ∙ ap (apply (close s)) z)
