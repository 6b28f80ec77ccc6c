-- Span quotients: +0 in a merged span; else from 0 to 1 and rising within the span, +0 at its left end and exactly 1 at its right.
use mathlib.Core.Path.{◌≡◌, refl, sym, ◌∙◌}
use mathlib.Core.Bool.{Bool, true, false}
use mathlib.Core.List.{List}
use Prim.Native.Nat.{ℕ, suc, ◌<◌}
use native.Mathlib.Omega.{arith}
use lib.Dec.{T, leb}
use lib.ListN.{length}
use lib.Ieee.{Float, binary64, of_bits, sub, le}
use lib.Ieee.Scale.{finite}
use borrow.Author.Tests.{leb-false, lt-leb}
use Rattle.exponents.specs.Outcome.{ARGUMENT, Outcome, Ok, unless}
use Rattle.exponents.proofs.Holds.{one_answer}
use Rattle.exponents.proofs.Steps.{unless_off, bind_on}
use Rattle.floats.specs.Power.{one}
use Rattle.floatlaws.proofs.Comparison.{lt_le}
use Rattle.floatlaws.proofs.Differences.{eq_self}
use Rattle.floatlaws.proofs.Spans as law
use Rattle.floatlaws.proofs.Shares.{quotient_mono}
use Rattle.knotruns.specs.Values.{plus_zero}
use Rattle.knotruns.specs.Runs.{Run, value_at, merged_at, ratio, quotient_at}
use Rattle.knotruns.specs.Knots.{vector, quotient}
use Rattle.knotruns.proofs.Answers.{past-unless}
use Rattle.knotruns.proofs.Apart.{Apart}
use Rattle.knotruns.proofs.Stands.{ends_apart, finite_ends}

nought : T (le plus_zero plus_zero) × T (le plus_zero one)
unfolding le of_bits
nought = (tt, tt)

module _ (cs : List (Outcome Float)) (d : ℕ) (t : Float) (rs : List Run) (v : vector cs d t ≡ Ok rs) (i : ℕ) where
  asked : (x : Float) → quotient cs d t i x ≡ unless (leb (length cs) (suc i)) ARGUMENT (Ok (quotient_at rs i x))
  unfolding quotient
  asked x = rw (v, bind_on)

  -- THEOREM: spans are 0 to the count less 2, and each has a quotient
  pub spans : suc i < length cs → (x : Float) → quotient cs d t i x ≡ Ok (quotient_at rs i x)
  spans h x = asked x ∙ rw (lt-leb (length cs) (suc i) h, unless_off)

  inside : (x q : Float) → quotient cs d t i x ≡ Ok q → (suc i < length cs) × (q ≡ quotient_at rs i x)
  inside x q h =
      let p = past-unless (leb (length cs) (suc i)) ARGUMENT (Ok (quotient_at rs i x)) q (sym (asked x) ∙ h) in
      (leb-false (length cs) (suc i) p.0, one_answer (sym p.1))

  -- THEOREM: a merged span gives +0 for every x, a NaN too
  pub merged_span : suc i < length cs → merged_at rs i ≡ true → (x : Float) → quotient cs d t i x ≡ Ok plus_zero
  unfolding quotient_at
  merged_span h m x = spans h x ∙ rw m

  at_merged : (x q : Float) → quotient cs d t i x ≡ Ok q → merged_at rs i ≡ true → q ≡ plus_zero
  unfolding quotient_at
  at_merged x q h m = (inside x q h).1 ∙ rw m

  -- THEOREM: any other gives the ratio, over a divisor above the tolerance and not zero
  pub open_span : (x q : Float) → quotient cs d t i x ≡ Ok q → merged_at rs i ≡ false → (q ≡ ratio (value_at rs i) (value_at rs (suc i)) x) × Apart t (value_at rs i) (value_at rs (suc i))
  unfolding quotient_at
  open_span x q h m = let p = inside x q h in (p.1 ∙ rw m, ends_apart cs d t rs v i p.0 m)

  -- THEOREM: at the left end's own bits it is +0, merged or not, however far the right end
  pub at_left : (q : Float) → quotient cs d t i (value_at rs i) ≡ Ok q → q ≡ plus_zero
  at_left q h = by (merged_at rs i) refl
    where
      by : (b : Bool) → merged_at rs i ≡ b → q ≡ plus_zero
      by true m = at_merged (value_at rs i) q h m
      by false m =
          let n = (inside (value_at rs i) q h).0 in
          let o = open_span (value_at rs i) q h m in
          o.0 ∙ law.at_left binary64 (value_at rs i) (value_at rs (suc i)) (finite_ends cs d t rs v i (omega arith)) (finite_ends cs d t rs v (suc i) n) o.1.divisor (lt_le _ _ o.1.rises) ∙ sym law.plus_zero_is

  -- of a span whose ends aren't an infinity apart
  module _ (w : T (finite (sub binary64 (value_at rs (suc i)) (value_at rs i)))) where
    -- THEOREM: at the right end's own bits it is exactly 1, unless the span is merged
    pub at_right : (q : Float) → quotient cs d t i (value_at rs (suc i)) ≡ Ok q → merged_at rs i ≡ false → q ≡ one
    at_right q h m =
        let n = (inside (value_at rs (suc i)) q h).0 in
        let o = open_span (value_at rs (suc i)) q h m in
        let f = finite_ends cs d t rs v (suc i) n in
        o.0 ∙ law.at_right binary64 (value_at rs i) (value_at rs (suc i)) (finite_ends cs d t rs v i (omega arith)) f o.1.divisor w (value_at rs (suc i)) f (eq_self (value_at rs (suc i)) f) ∙ sym law.one_is

    -- THEOREM: for left ≤ x ≤ right it lies from 0 to 1
    pub within : (x q : Float) → quotient cs d t i x ≡ Ok q → T (le (value_at rs i) x) → T (le x (value_at rs (suc i))) → T (le plus_zero q) × T (le q one)
    within x q h l r = by (merged_at rs i) refl
      where
        by : (b : Bool) → merged_at rs i ≡ b → T (le plus_zero q) × T (le q one)
        by true m = rw (at_merged x q h m) nought
        by false m =
            let n = (inside x q h).0 in
            let o = open_span x q h m in
            rw (o.0, law.plus_zero_is, law.one_is)
            (law.within binary64 (value_at rs i) (value_at rs (suc i)) (finite_ends cs d t rs v i (omega arith)) (finite_ends cs d t rs v (suc i) n) o.1.divisor w x l r)

    -- THEOREM: for left ≤ x ≤ y ≤ right the quotient of x is at most that of y
    pub rises : (x y q p : Float) → quotient cs d t i x ≡ Ok q → quotient cs d t i y ≡ Ok p → T (le (value_at rs i) x) → T (le x y) → T (le y (value_at rs (suc i))) → T (le q p)
    rises x y q p h k l m r = by (merged_at rs i) refl
      where
        by : (b : Bool) → merged_at rs i ≡ b → T (le q p)
        by true e = rw (at_merged x q h e, at_merged y p k e) nought.0
        by false e =
            let n = (inside x q h).0 in
            let o = open_span x q h e in
            rw (o.0, (open_span y p k e).0)
            (quotient_mono binary64 (value_at rs i) (value_at rs (suc i)) (finite_ends cs d t rs v i (omega arith)) (finite_ends cs d t rs v (suc i) n) o.1.divisor w x y l m r)
