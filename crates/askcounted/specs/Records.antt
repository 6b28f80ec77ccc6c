-- A counted conversion in bytes (02, order 5; the byte form, "Records"): the quantity, the count, four bytes of zero.
use Rattle.std.specs.Prelude.{List, ◌++◌, ℕ, ◌+◌}
use Rattle.units.specs.declared.Quantity.{Quantity}
use Rattle.wire.specs.Bytes.{le, bytes_of}
use Rattle.wire.specs.Records.{quantity_at, quantity_bytes}

unfoldable pub counted_bytes : Quantity × ℕ → List ℕ
counted_bytes p = quantity_bytes p.0 ++ (bytes_of 4 p.1 ++ bytes_of 4 0)

-- the same, read from place i on
unfoldable pub counted_at : List ℕ → ℕ → Quantity × ℕ
counted_at s i = (quantity_at s i, le 4 s (i + 336))
