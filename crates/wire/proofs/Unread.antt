-- What makes no difference: places past a length, reserved bytes, a base row's factor, and the bits of a NaN.
use mathlib.Core.Path.{◌≡◌, refl, sym, ap, ap₂, ◌∙◌}
use mathlib.Core.List.{List, [], ◌∷◌, ◌++◌, append_assoc}
use Prim.Native.Nat.{ℕ, ◌+◌, ◌*◌, ◌%◌, ◌≤◌, ◌<◌}
use native.Mathlib.Nat.{add_assoc}
use native.Mathlib.Omega.{arith}
use lib.Ieee.{nan, binary64, to_bits}
use lib.ListN.{length, length-append}
use Rattle.floats.proofs.Facts.{nan_of}
use Rattle.units.specs.declared.Kind.TheVariants.{Base}
use Rattle.units.specs.Lists.{no_factor}
use Rattle.wire.specs.Bytes.{le, bytes_of, run_at, count_of}
use Rattle.wire.specs.Records.{factor_at, places_at, list_at, quantity_at, kind_of, row_at, candidate_at}
use Rattle.wire.proofs.Form.{past, then, run_skips, counted_stops}
use Rattle.wire.proofs.Round.{number_form, value_form, factor_form, list_form}

-- ---- places past a length; where it is too long, none is read

pub list_unread : (s t : List ℕ) (i : ℕ) → i + (4 + count_of 16 (le 4 s i) * 20) ≤ length s → list_at (s ++ t) i ≡ list_at s i
unfolding list_at
list_unread s t i h = ap (λ x. record { at = x.1; len = x.0 }) (counted_stops factor_form no_factor 16 (number_form 4) (λ n. n) s t i h)

pub row_unread : (s t : List ℕ) (i : ℕ) → i + (16 + count_of 8 (le 4 s (i + 4)) * 20) ≤ length s → row_at (s ++ t) i ≡ row_at s i
unfolding row_at
row_unread s t i h =
    let head = then (number_form 2) (then (number_form 2) (then (number_form 4) value_form)) in
    let e = counted_stops factor_form no_factor 8 head (λ x. x.1.1.0) s t i (rw (add_assoc i 2 2) h) in
    ap (λ x. record { def = x.1; len = x.0.1.1.0; rank = x.0.0; kind = kind_of x.0.1.0 x.0.1.1.1 }) (simp add_assoc at e)

-- ---- reserved bytes

-- u is reserved
candidate_parts : (a u s : List ℕ) → length a ≡ 2 → length u ≡ 2 → candidate_at (a ++ (u ++ s)) 0 ≡ record { unit = list_at s 0; rank = le 2 a 0 }
unfolding candidate_at
candidate_parts a u s h k = ap₂ (λ l r. record { unit = l; rank = r })
    (ap (λ b. list_at b 4) (sym (append_assoc a u s)) ∙ past list_form.skips (a ++ u) s 4 (length-append a u ∙ omega arith))
    ((number_form 2).stops a (u ++ s) 0 (omega arith))

pub candidate_unread : (a u v s : List ℕ) → length a ≡ 2 → length u ≡ 2 → length v ≡ 2 → candidate_at (a ++ (u ++ s)) 0 ≡ candidate_at (a ++ (v ++ s)) 0
candidate_unread a u v s h k l = candidate_parts a u s h k ∙ sym (candidate_parts a v s h l)

-- ---- a base row's factor

-- u is the factor
base_parts : (a u s : List ℕ) → length a ≡ 8 → length u ≡ 8 → le 2 a 2 ≡ 0
    → row_at (a ++ (u ++ s)) 0 ≡ record { def = places_at 8 (count_of 8 (le 4 a 4)) s 0; len = le 4 a 4; rank = le 2 a 0; kind = Base }
unfolding row_at kind_of
base_parts a u s h k z =
    let r = (number_form 2).stops a (u ++ s) 0 (omega arith) in
    let q = (number_form 2).stops a (u ++ s) 2 (omega arith) in
    let n = (number_form 4).stops a (u ++ s) 4 (omega arith) in
    let d : run_at factor_at 20 (count_of 8 (le 4 a 4)) (a ++ (u ++ s)) 16 ≡ run_at factor_at 20 (count_of 8 (le 4 a 4)) s 0 =
    ap (λ b. run_at factor_at 20 (count_of 8 (le 4 a 4)) b 16) (sym (append_assoc a u s)) ∙ past (run_skips 20 (count_of 8 (le 4 a 4)) factor_form.skips) (a ++ u) s 16 (length-append a u ∙ omega arith) in
    rw (q, z, r, n, d)

pub base_unread : (a u v s : List ℕ) → length a ≡ 8 → length u ≡ 8 → length v ≡ 8 → le 2 a 2 ≡ 0 → row_at (a ++ (u ++ s)) 0 ≡ row_at (a ++ (v ++ s)) 0
base_unread a u v s h k l z = base_parts a u s h k z ∙ sym (base_parts a v s h l z)

-- ---- the bits of a NaN: all read as one value, which is written in one way

pub nan_read : (s : List ℕ) (i : ℕ) → 0x7ff0_0000_0000_0000 < le 8 s i % 0x8000_0000_0000_0000 → (quantity_at s i).value ≡ nan
unfolding quantity_at
nan_read s i h = nan_of (le 8 s i) h

pub nan_bytes : bytes_of 8 (to_bits binary64 nan) ≡ 0 ∷ 0 ∷ 0 ∷ 0 ∷ 0 ∷ 0 ∷ 0xf8 ∷ 0x7f ∷ []
unfolding bytes_of to_bits
nan_bytes = refl
