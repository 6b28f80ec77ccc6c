-- Rounded differences against a tolerance: what doesn't join lies truly above, by a divisor that isn't zero; what lies between joins too.
use mathlib.Core.Path.{◌≡◌}
use mathlib.Core.Bool.{true, false}
use lib.Dec.{T}
use lib.Ieee.{Float, binary64, sub, lt, le}
use lib.Ieee.Bits.{is_true}
use lib.Ieee.Scale.{finite}
use Rattle.floats.specs.Values.{is_zero}
use Rattle.floatlaws.proofs.Comparison.{finite_number, le_chain, not_le}
use Rattle.floatlaws.proofs.Differences.{sub_self}
use Rattle.floatlaws.proofs.Monotone.{sub_mono_finite, sub_number, apart, nonzero}
use Rattle.knotruns.specs.Runs.{joins}
use Rattle.knotruns.proofs.Ordered.{Tolerance}

-- f is below x, by more than the tolerance; what x less f divides isn't divided by zero
pub record Apart (t f x : Float) : Type 0 where
  pub rises : T (lt f x)
  pub exceeds : T (lt t (sub binary64 x f))
  pub divisor : is_zero (sub binary64 x f) ≡ false

pub parts : (t f x : Float) → Tolerance t → T (finite f) → T (finite x) → joins t f x ≡ false → Apart t f x
parts t f x b p q h =
    let e = not_le (sub binary64 x f) t (sub_number binary64 x f q (finite_number f p)) (finite_number t b.finite_one) h in
    record { rises = apart binary64 f x t b.from_zero e; exceeds = e; divisor = nonzero t (sub binary64 x f) b.from_zero e }

-- a value joins itself
pub joins_itself : (t x : Float) → Tolerance t → T (finite x) → joins t x x ≡ true
joins_itself t x b p = rw (sub_self binary64 x p) (is_true _ b.from_zero)

-- what lies below a value that joins joins too
pub joins-below : (t f x y : Float) → T (finite f) → T (finite x) → T (finite y) → T (le x y) → joins t f y ≡ true → joins t f x ≡ true
joins-below t f x y p q r h j =
    is_true _ (le_chain (sub binary64 x f) (sub binary64 y f) t (sub_mono_finite binary64 x y f q r (finite_number f p) h) (rw j tt))
