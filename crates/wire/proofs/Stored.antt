-- Part by part: what stands first in an encoding is stored first. With the lengths of the encodings.
use mathlib.Core.Path.{◌≡◌, sym, ap, ◌∙◌}
use mathlib.Core.List.{List, [], ◌∷◌, ◌++◌}
use Prim.Native.Nat.{ℕ, suc, ◌+◌, ◌*◌, ◌≤◌, ◌<◌}
use native.Mathlib.Nat.{add_assoc, zero-mul, suc-mul}
use native.Mathlib.Omega.{arith}
use native.Mathlib.Numerals.{add-one}
use lib.ListN.{length, get_or, drop, length-append, drop_of_length-le}
use lib.Seq.{sets, drop-cons}
use Rattle.exponents.specs.declared.Exponent.{Exponent}
use Rattle.units.specs.declared.Prefix.{Prefix}
use Rattle.units.specs.declared.Factor.{Factor}
use Rattle.units.specs.declared.Factors.{Factors}
use Rattle.units.specs.declared.Row.{Row}
use Rattle.units.specs.declared.Quantity.{Quantity}
use Rattle.units.specs.declared.Candidate.{Candidate}
use Rattle.wire.specs.Bytes.{bytes_of, run_bytes}
use Rattle.wire.specs.Records.{exponent_bytes, prefix_bytes, factor_bytes, list_bytes, quantity_bytes, row_bytes, candidate_bytes}
use Rattle.wire.proofs.Digits.{length-bytes_of, sets_append}

-- ---- records of one size
module _ {A : Type 0} (bytes : A → List ℕ) (size : ℕ) (sized : (a : A) → length (bytes a) ≡ size) where
  pub sets_record : (a : A) (b l : List ℕ) (i : ℕ) → sets l i (bytes a ++ b) ≡ sets (sets l i (bytes a)) (i + size) b
  sets_record a b l i = sym (sets_append (bytes a) b l i) ∙ ap (λ n. sets (sets l i (bytes a)) (i + n) b) (sized a)

  pub length_run_bytes : (l : List A) → length (run_bytes bytes l) ≡ length l * size
  unfolding run_bytes
  length_run_bytes [] = simp zero-mul
  length_run_bytes (a ∷ l) = omega (arith, length-append (bytes a) (run_bytes bytes l), sized a, length_run_bytes l, suc-mul (length l) size)

  -- a run from place b on: one record more
  pub write_turn : (out : List ℕ) (b i : ℕ) (l : List A) (d : A) → i < length l
      → sets (sets out (b + i * size) (bytes (get_or l i d))) (b + (i + 1) * size) (run_bytes bytes (drop (i + 1) l)) ≡ sets out (b + i * size) (run_bytes bytes (drop i l))
  unfolding run_bytes
  write_turn out b i l d h =
      let e : b + suc i * size ≡ b + i * size + size = omega (arith, suc-mul i size) in
      rw (add-one, e, drop-cons l i d, sets_record)

-- at the end of a run nothing is left to store
pub write_end : {A : Type 0} (bytes : A → List ℕ) (out : List ℕ) (b i : ℕ) (l : List A) → length l ≤ i → sets out b (run_bytes bytes (drop i l)) ≡ out
unfolding run_bytes
write_end bytes out b i l h = rw (drop_of_length-le l {i = i} h)

-- ---- a number, then the rest
pub sets_number : (w x : ℕ) (b l : List ℕ) (i : ℕ) → sets l i (bytes_of w x ++ b) ≡ sets (sets l i (bytes_of w x)) (i + w) b
sets_number w = sets_record (bytes_of w) w (length-bytes_of w)

-- ---- the lengths of encodings
pub length-exponent_bytes : (e : Exponent) → length (exponent_bytes e) ≡ 8
unfolding exponent_bytes
length-exponent_bytes e = simp (length-append, length-bytes_of)

pub length-prefix_bytes : (p : Prefix) → length (prefix_bytes p) ≡ 8
unfolding prefix_bytes
length-prefix_bytes p = simp (length-append, length-bytes_of)

pub length-factor_bytes : (f : Factor) → length (factor_bytes f) ≡ 20
unfolding factor_bytes
length-factor_bytes f = simp (length-append, length-bytes_of, length-prefix_bytes, length-exponent_bytes)

pub length_factors_bytes : (fs : List Factor) → length (run_bytes factor_bytes fs) ≡ length fs * 20
length_factors_bytes = length_run_bytes factor_bytes 20 length-factor_bytes

pub length-list_bytes : (l : Factors) → length l.at ≡ 16 → length (list_bytes l) ≡ 324
unfolding list_bytes
length-list_bytes l e = simp (length-append, length-bytes_of, length_factors_bytes, e)

pub length-quantity_bytes : (q : Quantity) → length q.unit.at ≡ 16 → length (quantity_bytes q) ≡ 336
unfolding quantity_bytes
length-quantity_bytes q e = simp (length-append, length-bytes_of, length-list_bytes q.unit e)

pub length-row_bytes : (r : Row) → length r.def ≡ 8 → length (row_bytes r) ≡ 176
unfolding row_bytes
length-row_bytes r e = simp (length-append, length-bytes_of, length_factors_bytes, e)

pub length-candidate_bytes : (c : Candidate) → length c.unit.at ≡ 16 → length (candidate_bytes c) ≡ 328
unfolding candidate_bytes
length-candidate_bytes c e = simp (length-append, length-bytes_of, length-list_bytes c.unit e)

-- ---- a factor, from its parts
pub sets_prefix : (p : Prefix) (b l : List ℕ) (i : ℕ) → sets l i (prefix_bytes p ++ b) ≡ sets (sets l i (prefix_bytes p)) (i + 8) b
sets_prefix = sets_record prefix_bytes 8 length-prefix_bytes

pub sets_factor : (f : Factor) (b l : List ℕ) (i : ℕ) → sets l i (factor_bytes f ++ b) ≡ sets (sets l i (factor_bytes f)) (i + 20) b
sets_factor = sets_record factor_bytes 20 length-factor_bytes

pub factor_written : (l l1 l2 l3 : List ℕ) (i : ℕ) (f : Factor) → l1 ≡ sets l i (bytes_of 4 f.row)
    → l2 ≡ sets l1 (i + 4) (prefix_bytes f.prefix) → l3 ≡ sets l2 (i + 12) (exponent_bytes f.exponent) → l3 ≡ sets l i (factor_bytes f)
unfolding factor_bytes
factor_written l l1 l2 l3 i f a b c = simp (sets_number, sets_prefix, add_assoc, c, b, a)

pub factors_turn : (out : List ℕ) (b i : ℕ) (l : List Factor) (d : Factor) → i < length l
    → sets (sets out (b + i * 20) (factor_bytes (get_or l i d))) (b + (i + 1) * 20) (run_bytes factor_bytes (drop (i + 1) l)) ≡ sets out (b + i * 20) (run_bytes factor_bytes (drop i l))
factors_turn = write_turn factor_bytes 20 length-factor_bytes
