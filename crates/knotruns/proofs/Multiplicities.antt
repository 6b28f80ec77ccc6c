-- The multiplicities: they add up to the knots given, each is from 1 to the degree plus one, and there are at most as many runs as knots.
use mathlib.Core.Path.{◌≡◌, refl, sym, ◌∙◌, ap}
use mathlib.Core.Bool.{false}
use mathlib.Core.List.{List, [], ◌∷◌}
use Prim.Native.Nat.{ℕ, suc, ◌+◌, ◌≤◌, ◌<◌}
use native.Mathlib.Omega.{arith}
use lib.Dec.{ltb}
use lib.ListN.{length}
use lib.Ieee.{Float}
use borrow.Author.Tests.{ltb-false}
use Rattle.exponents.specs.Words.{All}
use Rattle.exponents.specs.Outcome.{Outcome, Ok}
use Rattle.exponents.proofs.InRange.{or_left, or_right}
use Rattle.exponents.proofs.Each.{all_both}
use Rattle.knotruns.specs.Runs.{Run, runs_from, runs, crowded}
use Rattle.knotruns.specs.Knots.{vector}
use Rattle.knotruns.proofs.Turns.{on_next}
use Rattle.knotruns.proofs.Answers.{answered}

-- the sum of the multiplicities
abbrev pub total : List Run → ℕ
total [] = 0
total (r ∷ rs) = r.times + total rs

total_from : (t f : Float) (k : ℕ) (l : List Float) → total (runs_from t f k l) ≡ k + length l
unfolding runs_from
total_from t f k [] = refl
total_from t f k (x ∷ l) = on_next (λ rs. total rs ≡ k + suc (length l)) t f x k l (λ e. omega (arith, total_from t f (suc k) l)) (λ e. omega (arith, total_from t x 1 l))

pub total_runs : (t : Float) (xs : List Float) → total (runs t xs) ≡ length xs
unfolding runs
total_runs t [] = refl
total_runs t (x ∷ l) = total_from t x 1 l ∙ omega arith

some_from : (t f : Float) (k : ℕ) (l : List Float) → 0 < k → All (λ r. 0 < r.times) (runs_from t f k l)
unfolding runs_from
some_from t f k [] p = (p, tt)
some_from t f k (x ∷ l) p = on_next (All (λ r. 0 < r.times)) t f x k l (λ e. some_from t f (suc k) l (omega arith)) (λ e. (p, some_from t x 1 l (omega arith)))

some : (t : Float) (xs : List Float) → All (λ r. 0 < r.times) (runs t xs)
unfolding runs
some t [] = tt
some t (x ∷ l) = some_from t x 1 l (omega arith)

few : (m : ℕ) (rs : List Run) → crowded m rs ≡ false → All (λ r. r.times ≤ m) rs
unfolding crowded
few m [] h = tt
few m (r ∷ rs) h = (ltb-false m r.times (or_left (ltb m r.times) (crowded m rs) h), few m rs (or_right (ltb m r.times) (crowded m rs) h))

number_by : (rs : List Run) → All (λ r. 0 < r.times) rs → length rs ≤ total rs
number_by [] h = omega arith
number_by (r ∷ rs) h = omega (arith, h.0, number_by rs h.1)

module _ (cs : List (Outcome Float)) (d : ℕ) (t : Float) (rs : List Run) (v : vector cs d t ≡ Ok rs) where
  -- THEOREM: the multiplicities add up to the knots given
  pub add_up : total rs ≡ length cs
  add_up = let a = answered cs d t rs v in ap total a.are ∙ total_runs t a.values ∙ sym a.many

  -- THEOREM: each is from 1 to the degree plus one
  pub each_within : All (λ r. (0 < r.times) × (r.times ≤ suc d)) rs
  each_within =
      let a = answered cs d t rs v in
      rw a.are (all_both (λ r. 0 < r.times) (λ r. r.times ≤ suc d) (runs t a.values) (some t a.values) (few (suc d) (runs t a.values) a.few))

  -- THEOREM: there are at most as many distinct values as knots, and at least one
  pub number_within : (0 < length rs) × (length rs ≤ length cs)
  number_within =
      let a = answered cs d t rs v in
      let s : All (λ r. 0 < r.times) rs = rw a.are (some t a.values) in
      (positive rs add_up, omega (arith, number_by rs s, add_up))
    where
      positive : (qs : List Run) → total qs ≡ length cs → 0 < length qs
      positive [] h = absurd (omega (arith, (answered cs d t rs v).arguments.some))
      positive (q ∷ qs) h = omega arith
