-- What the answers depend on: the knots' conversions, and nothing else of the knots.
use mathlib.Core.Path.{◌≡◌, ap}
use mathlib.Core.List.{List, map}
use Prim.Native.Nat.{ℕ}
use lib.Ieee.{Float}
use Rattle.exponents.specs.Outcome.{Outcome}
use Rattle.knotruns.specs.Knots.{vector, quotient}

module _ {A B : Type 0} (f : A → Outcome Float) (g : B → Outcome Float) (ks : List A) (js : List B) (same : map f ks ≡ map g js) where
  -- THEOREM: knots of any kind, however converted, with the same conversions in order have the same vector, refusals included
  pub vector_alone : (d : ℕ) (t : Float) → vector (map f ks) d t ≡ vector (map g js) d t
  vector_alone d t = ap (λ cs. vector cs d t) same

  -- THEOREM: and the same span quotients
  pub quotient_alone : (d : ℕ) (t : Float) (i : ℕ) (x : Float) → quotient (map f ks) d t i x ≡ quotient (map g js) d t i x
  quotient_alone d t i x = ap (λ cs. quotient cs d t i x) same
