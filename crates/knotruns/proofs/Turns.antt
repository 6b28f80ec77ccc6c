-- One law for each turn of the loops.
use mathlib.Core.Path.{◌≡◌, refl, sym, ◌∙◌, ap}
use mathlib.Core.Bool.{Bool, true, false, ◌||◌}
use mathlib.Core.List.{List, [], ◌∷◌, ◌++◌, map, append_assoc}
use Prim.Native.Nat.{ℕ, suc, ◌+◌, ◌-◌, ◌≤◌, ◌<◌}
use native.Mathlib.Numerals.{add-one}
use native.Mathlib.Omega.{arith}
use lib.ListN.{length, get_or, take, drop, set, take-append-drop, drop_of_length-le}
use lib.Seq.{take-suc-set, take_all, drop-set-lt}
use lib.Ieee.{Float, nan}
use Rattle.exponents.proofs.Words.{pick_by}
use Rattle.knotruns.specs.Values.{endless, falls, unordered}
use Rattle.knotruns.specs.Runs.{Run, run, joins, runs_from, runs}
use Rattle.knotruns.proofs.Floats.{bottom, lowest}

-- ---- ORDER

-- what is left to look at, behind a value p
unfoldable pub behind : Float → List Float → Bool
behind p l = endless l || falls (p ∷ l)

pub behind_start : (xs : List Float) → behind bottom xs ≡ unordered xs
unfolding behind endless falls
behind_start [] = refl
behind_start (x ∷ l) = rw (lowest x)

-- ---- runs

-- behind the first, all others are to come
pub start : (t : Float) (xs : List Float) → 0 < length xs → runs_from t (get_or xs 0 nan) 1 (take (length xs - 1) (drop 1 xs)) ≡ runs t xs
unfolding runs
start t [] h = absurd (omega arith)
start t (x ∷ l) h = let e : length l ≤ suc (length l) - 1 = omega arith in rw (take_all (suc (length l) - 1) l e)

pub last : (t f : Float) (k : ℕ) (xs : List Float) (i : ℕ) → length xs ≤ i → runs_from t f k (drop i xs) ≡ run f k ∷ []
unfolding runs_from
last t f k xs i h = rw (drop_of_length-le xs h)

-- what holds whether the next knot joins or not
pub on_next : (P : List Run → Type 0) (t f x : Float) (k : ℕ) (l : List Float) → (joins t f x ≡ true → P (runs_from t f (suc k) l)) → (joins t f x ≡ false → P (run f k ∷ runs_from t x 1 l)) → P (runs_from t f k (x ∷ l))
unfolding runs_from
on_next P t f x k l p q = pick_by P (joins t f x) p q

pub some : (t f : Float) (k : ℕ) (l : List Float) → 0 < length (runs_from t f k l)
unfolding runs_from
some t f k [] = omega arith
some t f k (x ∷ l) = on_next (λ rs. 0 < length rs) t f x k l (λ e. some t f (suc k) l) (λ e. omega arith)

-- ---- places written one after the other
module _ {A : Type 0} (now : List A) (j : ℕ) (v : A) (h : j < length now) where
  -- one more, the rest to come being m
  pub written_on : (m : List A) → take (j + 1) (set now j v) ++ m ≡ take j now ++ (v ∷ m)
  written_on m = rw (add-one j, take-suc-set now j v h, append_assoc)

pub kept_on : {A : Type 0} (now : List A) (j n : ℕ) (v : A) → j < n → drop n (set now j v) ≡ drop n now
kept_on now j n v h = drop-set-lt n now j v h

-- the last: of runs all, r is left
pub written_all : {A : Type 0} (g : Run → A) (r : Run) (left all : List Run) (now old : List A) (j : ℕ) → left ≡ r ∷ [] → take j now ++ map g left ≡ map g all → j + length left ≡ length all → length all ≤ length now → drop (length all) now ≡ drop (length all) old → set now j (g r) ≡ map g all ++ drop (length all) old
written_all g r left all now old j e w n s k =
    let m : j + 1 ≡ length all = omega (arith, ap length e) in
    let h : j < length now = omega arith in
    let f : take j now ++ (g r ∷ []) ≡ map g all = rw e at w in
    sym (take-append-drop (length all) (set now j (g r))) ∙ rw (kept_on now j (length all) (g r) (omega arith), k, ← m, add-one j, take-suc-set now j (g r) h, f)
