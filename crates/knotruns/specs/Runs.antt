-- Runs of knots and their spans (02, order 4; readings 26 to 28): each knot is held against the first of its run, never against the knot before.
use Rattle.std.specs.Prelude.{Bool, false, ◌||◌, List, [], ◌∷◌, map, ℕ, suc, ◌-◌, eqb, ltb, get_or, Float}
use Rattle.std.specs.Float.{binary64, nan}
use Rattle.std.specs.Float.Ieee.{le, sub, div}
use Rattle.exponents.specs.Words.{pick}
use Rattle.knotruns.specs.Values.{plus_zero}

-- the value that stands for all, and how many knots there are
pub record Run : Type 0 where
  pub first : Float
  pub times : ℕ

abbrev pub run : Float → ℕ → Run
run f k = record { first = f; times = k }

-- x joins the run of f: x less f, by one rounded subtraction, is at most the tolerance t
abbrev pub joins : Float → Float → Float → Bool
joins t f x = le (sub binary64 x f) t

-- the runs from a run at hand, of first f with k knots so far: the next knot joins it or begins the next
unfoldable pub runs_from : Float → Float → ℕ → List Float → List Run
runs_from t f k [] = run f k ∷ []
runs_from t f k (x ∷ l) = pick (joins t f x) (runs_from t f (suc k) l) (run f k ∷ runs_from t x 1 l)

unfoldable pub runs : Float → List Float → List Run
runs t [] = []
runs t (x ∷ l) = runs_from t x 1 l

abbrev pub firsts : List Run → List Float
firsts rs = map (λ r. r.first) rs

abbrev pub multiplicities : List Run → List ℕ
multiplicities rs = map (λ r. r.times) rs

-- some run has more than m knots
unfoldable pub crowded : ℕ → List Run → Bool
crowded m [] = false
crowded m (r ∷ rs) = ltb m r.times || crowded m rs

-- ---- spans

-- which run holds the knot at place i
unfoldable pub run_of : List Run → ℕ → ℕ
run_of [] i = 0
run_of (r ∷ rs) i = pick (ltb i r.times) 0 (suc (run_of rs (i - r.times)))

-- the value that stands for the knot at place i: its run's first
abbrev pub value_at : List Run → ℕ → Float
value_at rs i = get_or (firsts rs) (run_of rs i) nan

-- the knot at place i and the next are of one run
abbrev pub merged_at : List Run → ℕ → Bool
merged_at rs i = eqb (run_of rs i) (run_of rs (suc i))

-- (x - left) / (right - left), each operation rounded
abbrev pub ratio : Float → Float → Float → Float
ratio left right x = div binary64 (sub binary64 x left) (sub binary64 right left)

-- the span from the knot at place i to the next, its ends at their runs' firsts; a merged span gives 0
unfoldable pub quotient_at : List Run → ℕ → Float → Float
quotient_at rs i x = pick (merged_at rs i) plus_zero (ratio (value_at rs i) (value_at rs (suc i)) x)
