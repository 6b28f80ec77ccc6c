-- A span's ends by places among the runs are those that a walk over the values meets.
use mathlib.Core.Path.{◌≡◌, refl, ◌∙◌, ap}
use mathlib.Core.Bool.{Bool, true, false}
use mathlib.Core.List.{List, [], ◌∷◌}
use Prim.Native.Nat.{ℕ, zero, suc, ◌+◌, ◌-◌, ◌≤◌, ◌<◌}
use native.Mathlib.Nat.{add_comm}
use native.Mathlib.Numerals.{add-one}
use native.Mathlib.Omega.{arith}
use lib.Dec.{eqb-zero-suc, eqb-suc-suc}
use lib.ListN.{length, get_or, take, drop}
use lib.Seq.{get_or-take, get_or-drop}
use lib.Ieee.{Float, nan}
use borrow.Author.Tests.{lt-ltb, le-ltb}
use Rattle.exponents.specs.Words.{pick}
use Rattle.knotruns.specs.Values.{plus_zero}
use Rattle.knotruns.specs.Runs.{Run, run, joins, firsts, runs_from, runs, run_of, value_at, merged_at, ratio, quotient_at}
use Rattle.knotruns.specs.Held.{reached, standing}
use Rattle.knotruns.proofs.Turns.{on_next}

-- what holds of both pairs holds of the pair picked
pick_two : {A B : Type 0} (P : A → B → Type 0) (t : Bool) {a c : A} {b d : B} → P a b → P c d → P (pick t a c) (pick t b d)
pick_two P true p q = p
pick_two P false p q = q

-- the run at hand keeps its first, and holds the knots it has
head_first : (t f : Float) (k : ℕ) (l : List Float) → get_or (firsts (runs_from t f k l)) 0 nan ≡ f
unfolding runs_from
head_first t f k [] = refl
head_first t f k (x ∷ l) = on_next (λ rs. get_or (firsts rs) 0 nan ≡ f) t f x k l (λ e. head_first t f (suc k) l) (λ e. refl)

run_here : (r : Run) (rs : List Run) (i : ℕ) → i < r.times → run_of (r ∷ rs) i ≡ 0
unfolding run_of
run_here r rs i h = rw (lt-ltb i r.times h)

run_later : (r : Run) (rs : List Run) (i : ℕ) → r.times ≤ i → run_of (r ∷ rs) i ≡ suc (run_of rs (i - r.times))
unfolding run_of
run_later r rs i h = rw (le-ltb i r.times h)

head_holds : (t f : Float) (k : ℕ) (l : List Float) (i : ℕ) → i < k → run_of (runs_from t f k l) i ≡ 0
unfolding runs_from
head_holds t f k [] i h = run_here (run f k) [] i h
head_holds t f k (x ∷ l) i h = on_next (λ rs. run_of rs i ≡ 0) t f x k l (λ e. head_holds t f (suc k) l i (omega arith)) (λ e. run_here (run f k) (runs_from t x 1 l) i h)

-- past the first run
past_value : (r : Run) (rs : List Run) (i j : ℕ) → i ≡ r.times + j → value_at (r ∷ rs) i ≡ value_at rs j
past_value r rs i j e = let a : i - r.times ≡ j = omega arith in rw (run_later r rs i (omega arith), a)

past_merged : (r : Run) (rs : List Run) (i j : ℕ) → i ≡ r.times + j → merged_at (r ∷ rs) i ≡ merged_at rs j
past_merged r rs i j e =
    let a : i - r.times ≡ j = omega arith in
    let b : suc i - r.times ≡ suc j = omega arith in
    rw (run_later r rs i (omega arith), run_later r rs (suc i) (omega arith), a, b, eqb-suc-suc)

-- ---- from a run at hand with k + 1 knots: the knot at k + n

value_here : (t f : Float) (k : ℕ) (l : List Float) → value_at (runs_from t f (suc k) l) (k + 0) ≡ f
value_here t f k l = rw (head_holds t f (suc k) l (k + 0) (omega arith)) (head_first t f (suc k) l)

value_from : (t f : Float) (k n : ℕ) (l : List Float) → n ≤ length l → value_at (runs_from t f (suc k) l) (k + n) ≡ reached t f l n
unfolding runs_from reached
value_from t f k zero [] h = value_here t f k []
value_from t f k zero (y ∷ l) h = value_here t f k (y ∷ l)
value_from t f k (suc m) [] h = absurd (omega arith)
value_from t f k (suc m) (y ∷ l) h =
    let e : k + suc m ≡ suc k + m = omega arith in
    pick_two (λ rs g. value_at rs (k + suc m) ≡ reached t g l m) (joins t f y) (rw e (value_from t f (suc k) m l (omega arith)))
    (past_value (run f (suc k)) (runs_from t y 1 l) (k + suc m) (0 + m) (omega arith) ∙ value_from t y 0 m l (omega arith))

merged-next : (b : Bool) (rs qs : List Run) (k : ℕ) → merged_at rs k ≡ true → merged_at qs k ≡ false → merged_at (pick b rs qs) k ≡ b
merged-next true rs qs k p q = p
merged-next false rs qs k p q = q

merged_from : (t f : Float) (k n : ℕ) (l : List Float) → n < length l → merged_at (runs_from t f (suc k) l) (k + n) ≡ joins t (reached t f l n) (get_or l n nan)
unfolding runs_from reached
merged_from t f k n [] h = absurd (omega arith)
merged_from t f k zero (y ∷ l) h =
    let e : k + 0 ≡ k = omega arith in
    rw e
    (merged-next (joins t f y) _ _ k (rw (head_holds t f (suc (suc k)) l k (omega arith), head_holds t f (suc (suc k)) l (suc k) (omega arith)))
    (rw (run_here (run f (suc k)) (runs_from t y 1 l) k (omega arith), run_later (run f (suc k)) (runs_from t y 1 l) (suc k) (omega arith)) (eqb-zero-suc (run_of (runs_from t y 1 l) (suc k - suc k)))))
merged_from t f k (suc m) (y ∷ l) h =
    let e : k + suc m ≡ suc k + m = omega arith in
    pick_two (λ rs g. merged_at rs (k + suc m) ≡ joins t (reached t g l m) (get_or l m nan)) (joins t f y) (rw e (merged_from t f (suc k) m l (omega arith)))
    (past_merged (run f (suc k)) (runs_from t y 1 l) (k + suc m) (0 + m) (omega arith) ∙ merged_from t y 0 m l (omega arith))

-- ---- of all knots

plain : (i : ℕ) → 0 + i ≡ i
plain i = omega arith

pub value_is : (t : Float) (xs : List Float) (i : ℕ) → i < length xs → value_at (runs t xs) i ≡ standing t xs i
unfolding runs standing
value_is t [] i h = absurd (omega arith)
value_is t (y ∷ l) i h = rw (plain i) at (value_from t y 0 i l (omega arith))

pub merged_is : (t : Float) (xs : List Float) (i : ℕ) → suc i < length xs → merged_at (runs t xs) i ≡ joins t (standing t xs i) (get_or xs (suc i) nan)
unfolding runs standing
merged_is t [] i h = absurd (omega arith)
merged_is t (y ∷ l) i h = rw (plain i) at (merged_from t y 0 i l (omega arith))

reached_on : (t f : Float) (l : List Float) (n : ℕ) → n < length l → reached t f l (suc n) ≡ pick (joins t (reached t f l n) (get_or l n nan)) (reached t f l n) (get_or l n nan)
unfolding reached
reached_on t f [] n h = absurd (omega arith)
reached_on t f (x ∷ l) zero h = refl
reached_on t f (x ∷ l) (suc n) h = reached_on t (pick (joins t f x) f x) l n (omega arith)

pub standing_first : (t : Float) (xs : List Float) → standing t xs 0 ≡ get_or xs 0 nan
unfolding standing reached
standing_first t [] = refl
standing_first t (y ∷ []) = refl
standing_first t (y ∷ z ∷ l) = refl

pub standing_on : (t : Float) (xs : List Float) (i : ℕ) → suc i < length xs → standing t xs (suc i) ≡ pick (joins t (standing t xs i) (get_or xs (suc i) nan)) (standing t xs i) (get_or xs (suc i) nan)
unfolding standing
standing_on t [] i h = absurd (omega arith)
standing_on t (y ∷ l) i h = reached_on t y l i (omega arith)

-- the same as code walks
pub standing_next : (t : Float) (xs : List Float) (i : ℕ) → i + 1 < length xs → standing t xs (i + 1) ≡ pick (joins t (standing t xs i) (get_or xs (i + 1) nan)) (standing t xs i) (get_or xs (i + 1) nan)
standing_next t xs i h = rw (add-one i) (standing_on t xs i (omega arith))

pub next_read : (xs : List Float) (m i : ℕ) → i < m → get_or (take m (drop 1 xs)) i nan ≡ get_or xs (i + 1) nan
next_read xs m i h = get_or-take m (drop 1 xs) i nan h ∙ get_or-drop 1 xs i nan ∙ ap (λ k. get_or xs k nan) (add_comm 1 i)

-- ---- the quotient

either_end : (b : Bool) (f y x : Float) → pick b plus_zero (ratio f (pick b f y) x) ≡ pick b plus_zero (ratio f y x)
either_end true f y x = refl
either_end false f y x = refl

pub span_is : (t : Float) (xs : List Float) (i : ℕ) (x : Float) → suc i < length xs → quotient_at (runs t xs) i x ≡ pick (joins t (standing t xs i) (get_or xs (suc i) nan)) plus_zero (ratio (standing t xs i) (get_or xs (suc i) nan) x)
unfolding quotient_at
span_is t xs i x g =
    rw (merged_is t xs i g, value_is t xs i (omega arith), value_is t xs (suc i) g, standing_on t xs i g)
    (either_end (joins t (standing t xs i) (get_or xs (suc i) nan)) (standing t xs i) (get_or xs (suc i) nan) x)
