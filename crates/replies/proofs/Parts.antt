-- How long each answer is, and its parts stored one after another.
use mathlib.Core.Path.{◌≡◌, sym, ◌∙◌}
use mathlib.Core.List.{List, ◌++◌}
use Prim.Native.Nat.{ℕ}
use lib.Ieee.{Float, binary64, to_bits}
use lib.ListN.{length, length-append}
use lib.Seq.{sets}
use Rattle.exponents.specs.declared.Exponent.{Exponent}
use Rattle.units.specs.declared.Factors.{Factors}
use Rattle.units.specs.declared.Quantity.{Quantity}
use Rattle.wire.specs.Bytes.{bytes_of}
use Rattle.wire.specs.Records.{exponent_bytes, list_bytes, quantity_bytes}
use Rattle.wire.proofs.Digits.{length-bytes_of}
use Rattle.replies.specs.Replies.{value_bytes}
use Rattle.wire.proofs.Stored.{length-exponent_bytes, length-list_bytes, length-quantity_bytes, sets_number}

-- ---- numbers

pub bytes_long : (k n : ℕ) → length (bytes_of k n) ≡ k
bytes_long = length-bytes_of

pub list_long : (l : Factors) → length l.at ≡ 16 → length (list_bytes l) ≡ 324
list_long = length-list_bytes

pub quantity_long : (q : Quantity) → length q.unit.at ≡ 16 → length (quantity_bytes q) ≡ 336
quantity_long = length-quantity_bytes

-- ---- a value

pub value_sized : (v : Float) → length (value_bytes v) ≡ 8
unfolding value_bytes
value_sized v = length-bytes_of 8 (to_bits binary64 v)

-- ---- a list reduced

pub reduced_long : (n : ℕ) (l : Factors) → length l.at ≡ 16 → length (bytes_of 8 n ++ list_bytes l) ≡ 332
reduced_long n l h = length-append (bytes_of 8 n) (list_bytes l) ∙ rw (length-bytes_of 8 n, length-list_bytes l h)

pub reduced_written : (n : ℕ) (l : Factors) (room mid end : List ℕ) → mid ≡ sets room 0 (bytes_of 8 n) → end ≡ sets mid 8 (list_bytes l) → end ≡ sets room 0 (bytes_of 8 n ++ list_bytes l)
reduced_written n l room mid end f g = g ∙ rw f (sym (sets_number 8 n (list_bytes l) room 0))

-- ---- a multiple

pub found_sized : (n : ℕ) (e : Exponent) → length (bytes_of 4 n ++ exponent_bytes e) ≡ 12
found_sized n e = length-append (bytes_of 4 n) (exponent_bytes e) ∙ rw (length-bytes_of 4 n, length-exponent_bytes e)

pub found_written : (n : ℕ) (e : Exponent) (room mid end : List ℕ) → mid ≡ sets room 0 (bytes_of 4 n) → end ≡ sets mid 4 (exponent_bytes e) → end ≡ sets room 0 (bytes_of 4 n ++ exponent_bytes e)
found_written n e room mid end f g = g ∙ rw f (sym (sets_number 4 n (exponent_bytes e) room 0))
