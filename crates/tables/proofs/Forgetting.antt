-- Numbers that carry a count (02, order 5): forgetting it gives the answer of the numbers alone, and what was counted before only adds to it.
use mathlib.Core.Path.{◌≡◌, refl, sym, ap, ◌∙◌}
use mathlib.Core.Bool.{Bool, true, false}
use mathlib.Core.List.{List, [], ◌∷◌}
use Prim.Native.Nat.{ℕ, ◌+◌}
use native.Mathlib.Omega.{arith}
use lib.Dec.{eqb}
use lib.Ieee.{Float}
use Rattle.exponents.specs.Outcome.{Outcome, Ok, apply, bind}
use Rattle.exponents.specs.declared.Exponent.{Exponent}
use Rattle.exponents.proofs.Following.{bind_same, bind_apply, apply_bind}
use Rattle.floats.specs.Power.{tally}
use Rattle.floats.specs.declared.Tally.{Tally}
use Rattle.units.specs.declared.Factor.{Factor}
use Rattle.tables.specs.Scale.{Numbers, doubles, counting, raise, raised_to, scale_from_lem}

-- the number alone
abbrev pub plain : Tally → Float
plain t = t.value

-- k more
abbrev pub more : ℕ → Tally → Tally
more k t = tally t.value (k + t.count)

-- ---- forgetting, step by step
pub forget_bind : (o : Outcome Tally) (f : Tally → Outcome Tally) (g : Float → Outcome Float) → ((t : Tally) → apply plain (f t) ≡ g t.value) → apply plain (bind o f) ≡ bind (apply plain o) g
forget_bind o f g h = apply_bind o f plain ∙ bind_same o _ _ h ∙ sym (bind_apply o plain g)

forget_raise : (w o : Bool) (p u : Tally) → apply plain (raise w o p u) ≡ raise w o p.value u.value
unfolding raise
forget_raise true o p u = refl
forget_raise false true p u = refl
forget_raise false false p u = refl

module _ (N : Numbers Float) where
  pub forget_raised : (a : Tally) (e : Exponent) → apply plain (raised_to (counting N) a e) ≡ raised_to N a.value e
  unfolding raised_to
  forget_raised a e = forget_raise (eqb e.den 1) (N.exactly_one a.value) _ _

  pub forget_scale : (size : Factor → Tally) (s : Tally) (l : List Factor) → apply plain (scale_from_lem (counting N) size s l) ≡ scale_from_lem N (λ f. (size f).value) s.value l
  unfolding scale_from_lem
  forget_scale size s [] = refl
  forget_scale size s (f ∷ l) =
      forget_bind (raised_to (counting N) (size f) f.exponent) _ (λ p. scale_from_lem N (λ f. (size f).value) (N.times s.value p) l)
      (λ t. forget_scale size ((counting N).times s t) l)
      ∙ ap (λ o. bind o (λ p. scale_from_lem N (λ f. (size f).value) (N.times s.value p) l)) (forget_raised (size f) f.exponent)

  -- ---- what was counted before

  more-raise : (k : ℕ) (w o : Bool) (p u q v : Tally) → p ≡ more k q → u ≡ more k v → raise w o p u ≡ apply (more k) (raise w o q v)
  unfolding raise
  more-raise k true o p u q v e f = ap Ok e
  more-raise k false true p u q v e f = ap Ok f
  more-raise k false false p u q v e f = refl

  pub more-raised : (x : Float) (k : ℕ) (e : Exponent) → raised_to (counting N) (tally x k) e ≡ apply (more k) (raised_to (counting N) (tally x 0) e)
  unfolding raised_to
  more-raised x k e = more-raise k (eqb e.den 1) (N.exactly_one x) _ _ _ _ (ap (tally _) (omega arith)) (ap (tally _) (omega arith))

  scale_more : (size : Factor → Tally) (s : Tally) (k : ℕ) (l : List Factor) → scale_from_lem (counting N) size (more k s) l ≡ apply (more k) (scale_from_lem (counting N) size s l)
  unfolding scale_from_lem
  scale_more size s k [] = refl
  scale_more size s k (f ∷ l) =
      bind_same (raised_to (counting N) (size f) f.exponent) _ _ (λ p. ap (λ u. scale_from_lem (counting N) size u l) (ap (tally _) (omega arith)) ∙ scale_more size ((counting N).times s p) k l)
      ∙ sym (apply_bind (raised_to (counting N) (size f) f.exponent) (λ p. scale_from_lem (counting N) size ((counting N).times s p) l) (more k))

  -- the same of a scale
  pub more_scale : (size : Factor → Tally) (s : Float) (k : ℕ) (l : List Factor) → scale_from_lem (counting N) size (tally s k) l ≡ apply (more k) (scale_from_lem (counting N) size (tally s 0) l)
  more_scale size s k l = ap (λ u. scale_from_lem (counting N) size u l) (ap (tally s) (omega arith)) ∙ scale_more size (tally s 0) k l

-- a power as code has it
pub plainly : (size : Float) (e : Exponent) → raised_to doubles size e ≡ apply (λ (t : Tally). t.value) (raised_to (counting doubles) (tally size 0) e)
plainly size e = sym (forget_raised doubles (tally size 0) e)
