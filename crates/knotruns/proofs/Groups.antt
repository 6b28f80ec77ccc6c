-- What a shop does about spellings: a tolerance that holds each knot's spellings together and keeps the knots apart gives exactly these groups as runs.
use mathlib.Core.Path.{◌≡◌, refl, sym, ◌∙◌, ap}
use mathlib.Core.Bool.{true, false}
use mathlib.Core.List.{List, [], ◌∷◌, ◌++◌, map}
use Prim.Native.Nat.{ℕ, suc, ◌+◌}
use native.Mathlib.Omega.{arith}
use lib.Dec.{T}
use lib.ListN.{length}
use lib.Ieee.{Float, le}
use lib.Ieee.Scale.{finite}
use Rattle.exponents.specs.Outcome.{Ok}
use Rattle.floatlaws.proofs.Comparison.{finite_number, le_self, le_chain}
use Rattle.knotruns.specs.Runs.{Run, run, joins, runs_from, runs}
use Rattle.knotruns.specs.Knots.{vector}
use Rattle.knotruns.specs.Held.{all}
use Rattle.knotruns.proofs.Conversions.{all_same}
use Rattle.knotruns.proofs.Answers.{answered}
use Rattle.knotruns.proofs.Ordered.{Ordered, first_finite, rest_ordered, first-least}
use Rattle.knotruns.proofs.Apart.{joins-below}

-- the values of one knot's spellings: the lowest, and the others in order
pub record Group : Type 0 where
  pub lowest : Float
  pub others : List Float

abbrev pub knots : List Group → List Float
knots [] = []
knots (g ∷ gs) = g.lowest ∷ (g.others ++ knots gs)

-- the last behind f
abbrev pub last : Float → List Float → Float
last f [] = f
last f (x ∷ l) = last x l

-- in each group the last, less the lowest, is within the tolerance; the next group's lowest, less this one's, is not
abbrev pub Beyond : Float → Float → List Group → Type 0
Beyond t f [] = Unit {0}
Beyond t f (g ∷ gs) = joins t f g.lowest ≡ false

abbrev pub Grouped : Float → List Group → Type 0
Grouped t [] = Unit {0}
Grouped t (g ∷ gs) = (joins t g.lowest (last g.lowest g.others) ≡ true) × Beyond t g.lowest gs × Grouped t gs

abbrev pub run_of_group : Group → Run
run_of_group g = run g.lowest (suc (length g.others))

-- ---- the first of values in order is at most the last of those that follow
to_last : (y : Float) (l m : List Float) → Ordered (y ∷ (l ++ m)) → T (le y (last y l)) × T (finite (last y l))
to_last y [] m o = let p = first_finite y m o in (le_self y (finite_number y p), p)
to_last y (x ∷ l) m o =
    let h = to_last x l m (rest_ordered y (x ∷ (l ++ m)) o) in
    (le_chain y x (last x l) (first-least y x (l ++ m) o) h.0, h.1)

ordered-after : (l m : List Float) → Ordered (l ++ m) → Ordered m
ordered-after [] m o = o
ordered-after (x ∷ l) m o = ordered-after l m (rest_ordered x (l ++ m) o)

-- a run takes up all the values whose last joins it
taken_up : (t f : Float) (k : ℕ) (y : Float) (l m : List Float) → T (finite f) → Ordered (y ∷ (l ++ m)) → joins t f (last y l) ≡ true → runs_from t f k (l ++ m) ≡ runs_from t f (k + length l) m
unfolding runs_from
taken_up t f k y [] m p o j = let e : k ≡ k + 0 = omega arith in ap (λ n. runs_from t f n m) e
taken_up t f k y (x ∷ l) m p o j =
    let o' = rest_ordered y (x ∷ (l ++ m)) o in
    let h = to_last x l m o' in
    let i : joins t f x ≡ true = joins-below t f x (last x l) p (first_finite x (l ++ m) o') h.1 h.0 j in
    let e : k + suc (length l) ≡ suc k + length l = omega arith in
    rw (i, e) (taken_up t f (suc k) x l m p o' j)

group_taken : (t : Float) (g : Group) (m : List Float) → Ordered (g.lowest ∷ (g.others ++ m)) → joins t g.lowest (last g.lowest g.others) ≡ true → runs_from t g.lowest 1 (g.others ++ m) ≡ runs_from t g.lowest (suc (length g.others)) m
group_taken t g m o j =
    let e : 1 + length g.others ≡ suc (length g.others) = omega arith in
    rw e at (taken_up t g.lowest 1 g.lowest g.others m (first_finite g.lowest (g.others ++ m) o) o j)

grouped_from : (t : Float) (g : Group) (gs : List Group) → Ordered (knots (g ∷ gs)) → Grouped t (g ∷ gs) → runs_from t g.lowest 1 (g.others ++ knots gs) ≡ map run_of_group (g ∷ gs)
unfolding runs_from
grouped_from t g [] o w = group_taken t g [] o w.0
grouped_from t g (h ∷ gs) o w =
    let m = knots (h ∷ gs) in
    group_taken t g m o w.0 ∙ rw w.1 (ap (λ rs. run_of_group g ∷ rs) (grouped_from t h gs (ordered-after g.others m (rest_ordered g.lowest (g.others ++ m) o)) w.2))

-- THEOREM: values in order that fall into such groups have exactly the groups as runs, each group's lowest with the number of its knots
pub groups-are-runs : (t : Float) (gs : List Group) → Ordered (knots gs) → Grouped t gs → runs t (knots gs) ≡ map run_of_group gs
unfolding runs
groups-are-runs t [] o w = refl
groups-are-runs t (g ∷ gs) o w = grouped_from t g gs o w

-- THEOREM: so a knot vector of them that answers answers the groups
pub groups-answered : (gs : List Group) (d : ℕ) (t : Float) (rs : List Run) → vector (all (knots gs)) d t ≡ Ok rs → Grouped t gs → rs ≡ map run_of_group gs
groups-answered gs d t rs v w =
    let a = answered (all (knots gs)) d t rs v in
    let e : knots gs ≡ a.values = all_same (knots gs) a.values a.from in
    a.are ∙ ap (runs t) (sym e) ∙ groups-are-runs t gs (rw e a.in_order) w
