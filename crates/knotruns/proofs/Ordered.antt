-- Values that ORDER lets pass: each finite, none below an earlier one. What a tolerance is.
use mathlib.Core.Path.{◌≡◌, refl}
use mathlib.Core.Bool.{true, false, not}
use mathlib.Core.List.{List, [], ◌∷◌}
use Prim.Native.Nat.{ℕ, zero, suc, ◌+◌, ◌<◌}
use native.Mathlib.Omega.{arith}
use lib.Dec.{T}
use lib.ListN.{length, get_or}
use lib.Ieee.{Float, nan, lt, le}
use lib.Ieee.Fits.{and_l, and_r}
use lib.Ieee.Scale.{finite}
use borrow.Author.Tests.{not-false}
use Rattle.exponents.proofs.InRange.{or_left, or_right}
use Rattle.floatlaws.proofs.Comparison.{finite_number, le_self, le_chain, not_lt}
use Rattle.floatlaws.proofs.Order.{AtLeastZero}
use Rattle.floatlaws.proofs.Spans.{plus_zero_is}
use Rattle.knotruns.specs.Values.{plus_zero, tolerable, endless, falls, unordered}

pub record Tolerance (t : Float) : Type 0 where
  pub finite_one : T (finite t)
  pub from_zero : AtLeastZero t

pub tolerance : (t : Float) → tolerable t ≡ true → Tolerance t
unfolding tolerable
tolerance t h = record { finite_one = and_l (finite t) (le plus_zero t) (rw h tt); from_zero = rw plus_zero_is at (and_r (finite t) (le plus_zero t) (rw h tt)) }

pub record Ordered (xs : List Float) : Type 0 where
  pub ends : endless xs ≡ false
  pub rises : falls xs ≡ false

pub ordered : (xs : List Float) → unordered xs ≡ false → Ordered xs
ordered xs h = record { ends = or_left (endless xs) (falls xs) h; rises = or_right (endless xs) (falls xs) h }

-- the first, and the rest
pub first_finite : (x : Float) (l : List Float) → Ordered (x ∷ l) → T (finite x)
unfolding endless
first_finite x l o = rw (not-false (finite x) (or_left (not (finite x)) (endless l) o.ends)) tt

pub rest_ordered : (x : Float) (l : List Float) → Ordered (x ∷ l) → Ordered l
unfolding endless falls
rest_ordered x [] o = record { ends = refl; rises = refl }
rest_ordered x (y ∷ l) o = record { ends = or_right (not (finite x)) (endless (y ∷ l)) o.ends; rises = or_right (lt y x) (falls (y ∷ l)) o.rises }

pub first-least : (x y : Float) (l : List Float) → Ordered (x ∷ y ∷ l) → T (le x y)
unfolding falls
first-least x y l o =
    not_lt x y (finite_number x (first_finite x (y ∷ l) o)) (finite_number y (first_finite y l (rest_ordered x (y ∷ l) o))) (or_left (lt y x) (falls (y ∷ l)) o.rises)

-- ---- by places

pub finite_at : (xs : List Float) (i : ℕ) → Ordered xs → i < length xs → T (finite (get_or xs i nan))
finite_at [] i o h = absurd (omega arith)
finite_at (x ∷ l) zero o h = first_finite x l o
finite_at (x ∷ l) (suc i) o h = finite_at l i (rest_ordered x l o) (omega arith)

pub next_at : (xs : List Float) (i : ℕ) → Ordered xs → suc i < length xs → T (le (get_or xs i nan) (get_or xs (suc i) nan))
next_at [] i o h = absurd (omega arith)
next_at (x ∷ []) i o h = absurd (omega arith)
next_at (x ∷ y ∷ l) zero o h = first-least x y l o
next_at (x ∷ y ∷ l) (suc i) o h = next_at (y ∷ l) i (rest_ordered x (y ∷ l) o) (omega arith)

pub later_at : (xs : List Float) (i n : ℕ) → Ordered xs → i + n < length xs → T (le (get_or xs i nan) (get_or xs (i + n) nan))
later_at xs i zero o h =
    let e : i + 0 ≡ i = omega arith in
    rw e (le_self (get_or xs i nan) (finite_number (get_or xs i nan) (finite_at xs i o (omega arith))))
later_at xs i (suc n) o h =
    let e : i + suc n ≡ suc (i + n) = omega arith in
    rw e (le_chain (get_or xs i nan) (get_or xs (i + n) nan) (get_or xs (suc (i + n)) nan) (later_at xs i n o (omega arith)) (next_at xs (i + n) o (omega arith)))
