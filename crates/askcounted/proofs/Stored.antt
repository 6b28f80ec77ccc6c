-- A counted conversion stored part by part, and how long it is.
use mathlib.Core.Path.{◌≡◌, sym, ap, ◌∙◌}
use mathlib.Core.List.{List, ◌++◌}
use Prim.Native.Nat.{ℕ, ◌+◌}
use native.Mathlib.Omega.{arith}
use lib.ListN.{length, length-append}
use lib.Seq.{sets}
use Rattle.units.specs.declared.Quantity.{Quantity}
use Rattle.wire.specs.Bytes.{bytes_of}
use Rattle.wire.specs.Records.{quantity_bytes}
use Rattle.wire.proofs.Digits.{length-bytes_of, sets_append}
use Rattle.wire.proofs.Stored.{length-quantity_bytes, sets_number}

module _ (q : Quantity) (n : ℕ) (full : length q.unit.at ≡ 16) where
  pub counted_long : length (quantity_bytes q ++ (bytes_of 4 n ++ bytes_of 4 0)) ≡ 344
  counted_long = simp (length-append, length-quantity_bytes q full, length-bytes_of)

  pub counted_written : (room one two end : List ℕ) → one ≡ sets room 0 (quantity_bytes q) → two ≡ sets one 336 (bytes_of 4 n) → end ≡ sets two 340 (bytes_of 4 0) → end ≡ sets room 0 (quantity_bytes q ++ (bytes_of 4 n ++ bytes_of 4 0))
  counted_written room one two end f g h =
      h ∙ rw (g, f)
      (sym (sets_number 4 n (bytes_of 4 0) (sets room 0 (quantity_bytes q)) 336)
      ∙ ap (λ k. sets (sets room 0 (quantity_bytes q)) k (bytes_of 4 n ++ bytes_of 4 0)) (let z : 336 ≡ 0 + length (quantity_bytes q) = omega (arith, length-quantity_bytes q full) in z)
      ∙ sets_append (quantity_bytes q) (bytes_of 4 n ++ bytes_of 4 0) room 0)
