-- The value that stands for a knot: finite, not above it, within the tolerance of it.
use mathlib.Core.Path.{◌≡◌, sym, ◌∙◌}
use mathlib.Core.Bool.{true, false}
use mathlib.Core.List.{List}
use Prim.Native.Nat.{ℕ, zero, suc, ◌<◌}
use native.Mathlib.Omega.{arith}
use lib.Dec.{T}
use lib.ListN.{length, get_or}
use lib.Ieee.{Float, nan, le}
use lib.Ieee.Scale.{finite}
use Rattle.exponents.specs.Outcome.{Outcome, Ok}
use Rattle.exponents.proofs.Words.{pick_by}
use Rattle.floatlaws.proofs.Comparison.{finite_number, le_self, le_chain}
use Rattle.knotruns.specs.Runs.{Run, joins, runs, value_at, merged_at}
use Rattle.knotruns.specs.Knots.{vector}
use Rattle.knotruns.specs.Held.{standing}
use Rattle.knotruns.proofs.Spans.{value_is, merged_is, standing_first, standing_on}
use Rattle.knotruns.proofs.Answers.{answered, Converts, converts-at}
use Rattle.knotruns.proofs.Ordered.{Tolerance, Ordered, finite_at, next_at}
use Rattle.knotruns.proofs.Apart.{Apart, parts, joins_itself}

-- f stands for x
pub record Stands (t f x : Float) : Type 0 where
  pub finite_one : T (finite f)
  pub not_above : T (le f x)
  pub within : joins t f x ≡ true

module _ (t : Float) (xs : List Float) (b : Tolerance t) (o : Ordered xs) where
  itself : (i : ℕ) → i < length xs → Stands t (get_or xs i nan) (get_or xs i nan)
  itself i h = let p = finite_at xs i o h in record { finite_one = p; not_above = le_self (get_or xs i nan) (finite_number (get_or xs i nan) p); within = joins_itself t (get_or xs i nan) b p }

  walked : (i : ℕ) → i < length xs → Stands t (standing t xs i) (get_or xs i nan)
  walked zero h = rw (standing_first t xs) (itself 0 h)
  walked (suc i) h =
      let w = walked i (omega arith) in
      rw (standing_on t xs i h)
      (pick_by (λ f. Stands t f (get_or xs (suc i) nan)) (joins t (standing t xs i) (get_or xs (suc i) nan))
      (λ e. record { finite_one = w.finite_one; not_above = le_chain (standing t xs i) (get_or xs i nan) (get_or xs (suc i) nan) w.not_above (next_at xs i o h); within = e })
      (λ e. itself (suc i) h))

  pub stands : (i : ℕ) → i < length xs → Stands t (value_at (runs t xs) i) (get_or xs i nan)
  stands i h = rw (value_is t xs i h) (walked i h)

  -- an open span's ends are apart
  pub span_apart : (i : ℕ) → suc i < length xs → merged_at (runs t xs) i ≡ false → Apart t (value_at (runs t xs) i) (value_at (runs t xs) (suc i))
  span_apart i h m =
      let j : joins t (standing t xs i) (get_or xs (suc i) nan) ≡ false = sym (merged_is t xs i h) ∙ m in
      rw (value_is t xs i (omega arith), value_is t xs (suc i) h, standing_on t xs i h, j)
      (parts t (standing t xs i) (get_or xs (suc i) nan) b (walked i (omega arith)).finite_one (finite_at xs (suc i) o h) j)

module _ (cs : List (Outcome Float)) (d : ℕ) (t : Float) (rs : List Run) (v : vector cs d t ≡ Ok rs) where
  -- THEOREM: every knot lies within the tolerance of the value that stands for it, by the one rounded subtraction, and not below it
  pub near : (i : ℕ) (x : Float) → Converts cs i x → Stands t (value_at rs i) x
  near i x c =
      let a = answered cs d t rs v in
      let p = converts-at cs a.values i x a.from c in
      rw (a.are, p.1) (stands t a.values a.bears a.in_order i p.0)

  -- THEOREM: the ends of a span that isn't merged are apart
  pub ends_apart : (i : ℕ) → suc i < length cs → merged_at rs i ≡ false → Apart t (value_at rs i) (value_at rs (suc i))
  ends_apart i h m =
      let a = answered cs d t rs v in
      rw a.are (span_apart t a.values a.bears a.in_order i (omega (arith, a.many)) (rw a.are at m))

  pub finite_ends : (i : ℕ) → i < length cs → T (finite (value_at rs i))
  finite_ends i h =
      let a = answered cs d t rs v in
      rw a.are (stands t a.values a.bears a.in_order i (omega (arith, a.many))).finite_one
