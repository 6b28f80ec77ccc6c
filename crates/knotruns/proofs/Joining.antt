-- Two spellings of one knot: where the one begins a run and the other lies within the tolerance of it, both are of that run.
use mathlib.Core.Path.{◌≡◌, refl, sym, ◌∙◌, ap}
use mathlib.Core.Bool.{Bool, true, false, not}
use mathlib.Core.List.{List}
use Prim.Native.Nat.{ℕ, zero, suc, ◌+◌, ◌-◌, ◌≤◌, ◌<◌}
use native.Mathlib.Omega.{arith}
use lib.ListN.{length, get_or}
use lib.Ieee.{Float, nan}
use borrow.Author.Tests.{eqb-true, eq-eqb, not-true}
use Rattle.exponents.specs.Outcome.{Outcome, Ok}
use Rattle.knotruns.specs.Values.{plus_zero}
use Rattle.knotruns.specs.Runs.{Run, joins, firsts, runs, run_of, value_at, merged_at}
use Rattle.knotruns.specs.Knots.{vector, quotient}
use Rattle.knotruns.specs.Held.{all, standing}
use Rattle.knotruns.proofs.Spans.{value_is, merged_is, standing_first, standing_on}
use Rattle.knotruns.proofs.Answers.{answered, Converts, converts-at, given-at}
use Rattle.knotruns.proofs.Ordered.{Ordered, finite_at, next_at, later_at}
use Rattle.knotruns.proofs.Apart.{joins-below}
use Rattle.knotruns.proofs.Stands.{near}
use Rattle.knotruns.proofs.Quotients.{merged_span}

-- the knot at place i begins a run: it is the lowest, or the one before it is of another run
abbrev pub begins : List Run → ℕ → Bool
begins rs zero = true
begins rs (suc i) = not (merged_at rs i)

-- one run, one value
same_value : (rs : List Run) (i j : ℕ) → run_of rs j ≡ run_of rs i → value_at rs j ≡ value_at rs i
same_value rs i j e = ap (λ r. get_or (firsts rs) r nan) e

-- the knot that begins the run of the one at place i, and whose bits stand for it
pub record Origin (cs : List (Outcome Float)) (rs : List Run) (i : ℕ) : Type 0 where
  pub place : ℕ
  pub not_after : place ≤ i
  pub first_one : begins rs place ≡ true
  pub one-run : run_of rs i ≡ run_of rs place
  pub stands_for : Converts cs place (value_at rs i)

module _ (t : Float) (xs : List Float) where
  begun : (i : ℕ) → i < length xs → begins (runs t xs) i ≡ true → standing t xs i ≡ get_or xs i nan
  begun zero h e = standing_first t xs
  begun (suc i) h e =
      let j : joins t (standing t xs i) (get_or xs (suc i) nan) ≡ false = sym (merged_is t xs i h) ∙ not-true _ e in
      standing_on t xs i h ∙ rw j

  first_value : (i : ℕ) → i < length xs → begins (runs t xs) i ≡ true → value_at (runs t xs) i ≡ get_or xs i nan
  first_value i h g = value_is t xs i h ∙ begun i h g

  origin_on : (i : ℕ) (b : Bool) → suc i < length xs → merged_at (runs t xs) i ≡ b → Origin (all xs) (runs t xs) i → Origin (all xs) (runs t xs) (suc i)
  origin_on i true h m o =
      let e : run_of (runs t xs) (suc i) ≡ run_of (runs t xs) i = sym (eqb-true _ _ m) in
      record { place = o.place; not_after = omega (arith, o.not_after); first_one = o.first_one; one-run = e ∙ o.one-run; stands_for = rw (same_value (runs t xs) i (suc i) e) o.stands_for }
  origin_on i false h m o =
      let g : begins (runs t xs) (suc i) ≡ true = rw m in
      record { place = suc i; not_after = omega arith; first_one = g; one-run = refl; stands_for = rw (first_value (suc i) h g) (given-at xs (suc i) h) }

  origin : (i : ℕ) → i < length xs → Origin (all xs) (runs t xs) i
  origin zero h = record { place = 0; not_after = omega arith; first_one = refl; one-run = refl; stands_for = rw (value_is t xs 0 h, standing_first t xs) (given-at xs 0 h) }
  origin (suc i) h = origin_on i (merged_at (runs t xs) i) h refl (origin i (omega arith))

  module _ (o : Ordered xs) where
    -- so many knots behind one that begins a run, up to one that is within the tolerance of it
    carried : (i n : ℕ) → i + n < length xs → begins (runs t xs) i ≡ true → joins t (get_or xs i nan) (get_or xs (i + n) nan) ≡ true → (run_of (runs t xs) (i + n) ≡ run_of (runs t xs) i) × (standing t xs (i + n) ≡ get_or xs i nan)
    carried i zero h g j = let e : i + 0 ≡ i = omega arith in rw e (refl, begun i (omega arith) g)
    carried i (suc n) h g j =
        let e : i + suc n ≡ suc (i + n) = omega arith in
        let k : suc (i + n) < length xs = omega arith in
        let j' : joins t (get_or xs i nan) (get_or xs (suc (i + n)) nan) ≡ true = rw e at j in
        let c = carried i n (omega arith) g (joins-below t (get_or xs i nan) (get_or xs (i + n) nan) (get_or xs (suc (i + n)) nan) (finite_at xs i o (omega arith)) (finite_at xs (i + n) o (omega arith)) (finite_at xs (suc (i + n)) o k) (next_at xs (i + n) o k) j') in
        let m : merged_at (runs t xs) (i + n) ≡ true = merged_is t xs (i + n) k ∙ rw c.1 j' in
        rw e (sym (eqb-true _ _ m) ∙ c.0, standing_on t xs (i + n) k ∙ rw (c.1, j'))

    joined_at : (i k j : ℕ) → i ≤ k → k ≤ j → j < length xs → begins (runs t xs) i ≡ true → joins t (get_or xs i nan) (get_or xs j nan) ≡ true → run_of (runs t xs) k ≡ run_of (runs t xs) i
    joined_at i k j p q h g n =
        let e : i + (k - i) ≡ k = omega arith in
        let e' : k + (j - k) ≡ j = omega arith in
        let l = rw e' at (later_at xs k (j - k) o (omega arith)) in
        let m = joins-below t (get_or xs i nan) (get_or xs k nan) (get_or xs j nan) (finite_at xs i o (omega arith)) (finite_at xs k o (omega arith)) (finite_at xs j o h) l n in
        rw e at (carried i (k - i) (omega arith) g (rw e m)).0

origin_of : (t : Float) (xs : List Float) (cs : List (Outcome Float)) (rs : List Run) (i : ℕ) → cs ≡ all xs → rs ≡ runs t xs → i < length xs → Origin cs rs i
origin_of t xs cs rs i c e h = rw (c, e) (origin t xs i h)

module _ (cs : List (Outcome Float)) (d : ℕ) (t : Float) (rs : List Run) (v : vector cs d t ≡ Ok rs) where
  -- what one run means for the knots from place i to place j
  pub record Merged (i j : ℕ) (x : Float) : Type 0 where
    pub one-run : (k : ℕ) → i ≤ k → k ≤ j → run_of rs k ≡ run_of rs i
    pub one_value : (k : ℕ) → i ≤ k → k ≤ j → value_at rs k ≡ x
    pub no_span : (k : ℕ) → i ≤ k → k < j → (z : Float) → quotient cs d t k z ≡ Ok plus_zero

  -- THEOREM: a knot that begins a run and a later one within the tolerance of it, by the one rounded subtraction, are of one run, with all between:
  -- the first's value stands for them all, and every span between them gives +0 for every x
  pub joins-run : (i j : ℕ) (x y : Float) → i ≤ j → Converts cs i x → Converts cs j y → begins rs i ≡ true → joins t x y ≡ true → Merged i j x
  joins-run i j x y h p q g n =
      let a = answered cs d t rs v in
      let xs = a.values in
      let p' = converts-at cs xs i x a.from p in
      let q' = converts-at cs xs j y a.from q in
      let g' : begins (runs t xs) i ≡ true = rw a.are at g in
      let w : (k : ℕ) → i ≤ k → k ≤ j → run_of rs k ≡ run_of rs i = λ k l m. rw a.are (joined_at t xs a.in_order i k j l m q'.0 g' (rw (p'.1, q'.1) at n)) in
      let f : value_at rs i ≡ x = rw (a.are, p'.1) (first_value t xs i p'.0 g') in
      record {
        one-run = w;
        one_value = λ k l m. same_value rs i k (w k l m) ∙ f;
        no_span = λ k l m z.
            merged_span cs d t rs v k (omega (arith, a.many, q'.0)) (eq-eqb _ _ (w k l (omega arith) ∙ sym (w (suc k) (omega arith) (omega arith)))) z;
      }

  -- THEOREM: and only those: a knot of the run that another begins lies within the tolerance of it
  pub only_within : (i j : ℕ) (x y : Float) → Converts cs i x → Converts cs j y → begins rs i ≡ true → run_of rs j ≡ run_of rs i → joins t x y ≡ true
  only_within i j x y p q g e =
      let a = answered cs d t rs v in
      let p' = converts-at cs a.values i x a.from p in
      let f : value_at rs i ≡ x = rw (a.are, p'.1) (first_value t a.values i p'.0 (rw a.are at g)) in
      let s : value_at rs j ≡ x = same_value rs i j e ∙ f in
      rw s at (near cs d t rs v j y q).within

  -- THEOREM: every knot is of a run that one at its place or before it begins, and that one's bits stand for it
  pub begun_by : (i : ℕ) → i < length cs → Origin cs rs i
  begun_by i h = let a = answered cs d t rs v in origin_of t a.values cs rs i a.from a.are (omega (arith, a.many))
