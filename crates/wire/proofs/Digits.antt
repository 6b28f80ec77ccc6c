-- Numbers of so many bytes, stored one byte after the other from the low end.
use mathlib.Core.Path.{◌≡◌, refl, ap}
use mathlib.Core.List.{List, [], ◌∷◌, ◌++◌}
use Prim.Native.Nat.{ℕ, zero, suc, ◌+◌, ◌-◌, ◌/◌, ◌%◌, ◌<◌}
use native.Mathlib.Nat.{add-zero, add-suc, suc-add}
use native.Mathlib.Omega.{arith}
use lib.ListN.{length, set}
use lib.Seq.{sets}
use Rattle.wire.specs.Bytes.{bytes_of}

-- ---- stored: one byte more, from the low end

pub store_turn : (out : List ℕ) (at w k y : ℕ) → k < w
    → sets (set out (at + k) (y % 256)) (at + (k + 1)) (bytes_of (w - (k + 1)) (y / 256)) ≡ sets out (at + k) (bytes_of (w - k) y)
unfolding bytes_of
store_turn out at w k y h =
    let a : w - k ≡ suc (w - (k + 1)) = omega arith in
    let b : at + (k + 1) ≡ suc (at + k) = omega arith in
    rw (a, b)

pub length-bytes_of : (w x : ℕ) → length (bytes_of w x) ≡ w
unfolding bytes_of
length-bytes_of zero x = refl
length-bytes_of (suc w) x = ap suc (length-bytes_of w (x / 256))

-- a run of stores, and then the run that follows it
pub sets_append : {A : Type 0} (a b l : List A) (i : ℕ) → sets (sets l i a) (i + length a) b ≡ sets l i (a ++ b)
sets_append [] b l i = simp add-zero
sets_append (x ∷ a) b l i = simp (add-suc, ← suc-add) (sets_append a b _ (suc i))
