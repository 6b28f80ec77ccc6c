-- The distinct values rise: each is above the one before it by more than the tolerance, so no span divides by zero.
use mathlib.Core.Path.{◌≡◌}
use mathlib.Core.List.{List, [], ◌∷◌}
use Prim.Native.Nat.{ℕ, zero, suc, ◌+◌, ◌<◌}
use native.Mathlib.Omega.{arith}
use lib.Dec.{T}
use lib.ListN.{length, get_or}
use lib.Ieee.{Float, nan, lt}
use lib.Ieee.Scale.{finite}
use Rattle.exponents.specs.Outcome.{Outcome, Ok}
use Rattle.floatlaws.proofs.Comparison.{lt_le, lt_chain}
use Rattle.knotruns.specs.Runs.{Run, firsts, runs_from, runs}
use Rattle.knotruns.specs.Knots.{vector}
use Rattle.knotruns.proofs.Turns.{on_next}
use Rattle.knotruns.proofs.Answers.{answered}
use Rattle.knotruns.proofs.Ordered.{Tolerance, Ordered, first_finite, rest_ordered}
use Rattle.knotruns.proofs.Apart.{Apart, parts}

-- the value behind f, if there is one, is apart from it; and so on
abbrev Next : Float → Float → List Run → Type 0
Next t f [] = Unit {0}
Next t f (r ∷ rs) = Apart t f r.first

abbrev Chain : Float → List Run → Type 0
Chain t [] = Unit {0}
Chain t (r ∷ rs) = Next t r.first rs × Chain t rs

next_from : (t g f : Float) (k : ℕ) (l : List Float) → Apart t g f → Next t g (runs_from t f k l)
unfolding runs_from
next_from t g f k [] a = a
next_from t g f k (x ∷ l) a = on_next (Next t g) t f x k l (λ e. next_from t g f (suc k) l a) (λ e. a)

chain_from : (t f : Float) (k : ℕ) (l : List Float) → Tolerance t → T (finite f) → Ordered l → Chain t (runs_from t f k l)
unfolding runs_from
chain_from t f k [] b p o = (tt, tt)
chain_from t f k (x ∷ l) b p o =
    let q = first_finite x l o in
    let m = rest_ordered x l o in
    on_next (Chain t) t f x k l (λ e. chain_from t f (suc k) l b p m) (λ e. (next_from t f x 1 l (parts t f x b p q e), chain_from t x 1 l b q m))

chain : (t : Float) (xs : List Float) → Tolerance t → Ordered xs → Chain t (runs t xs)
unfolding runs
chain t [] b o = tt
chain t (x ∷ l) b o = chain_from t x 1 l b (first_finite x l o) (rest_ordered x l o)

-- the distinct value at a place among them
abbrev pub distinct : List Run → ℕ → Float
distinct rs j = get_or (firsts rs) j nan

chain_at : (t : Float) (rs : List Run) (j : ℕ) → Chain t rs → suc j < length rs → Apart t (distinct rs j) (distinct rs (suc j))
chain_at t [] j c h = absurd (omega arith)
chain_at t (r ∷ []) j c h = absurd (omega arith)
chain_at t (r ∷ q ∷ rs) zero c h = c.0
chain_at t (r ∷ q ∷ rs) (suc j) c h = chain_at t (q ∷ rs) j c.1 (omega arith)

module _ (cs : List (Outcome Float)) (d : ℕ) (t : Float) (rs : List Run) (v : vector cs d t ≡ Ok rs) where
  -- THEOREM: each distinct value is below the next, and the next less it, by one rounded subtraction, is above the tolerance, so not zero
  pub neighbours : (j : ℕ) → suc j < length rs → Apart t (distinct rs j) (distinct rs (suc j))
  neighbours j h = let a = answered cs d t rs v in chain_at t rs j (rw a.are (chain t a.values a.bears a.in_order)) h

  -- THEOREM: so they rise strictly, from any to any later one
  pub rise : (i n : ℕ) → i + suc n < length rs → T (lt (distinct rs i) (distinct rs (i + suc n)))
  rise i zero h = let e : i + 1 ≡ suc i = omega arith in rw e (neighbours i (omega arith)).rises
  rise i (suc n) h =
      let e : i + suc (suc n) ≡ suc (i + suc n) = omega arith in
      let m = i + suc n in
      rw e (lt_chain (distinct rs i) (distinct rs m) (distinct rs (suc m)) (rise i n (omega arith)) (lt_le _ _ (neighbours m (omega arith)).rises))
