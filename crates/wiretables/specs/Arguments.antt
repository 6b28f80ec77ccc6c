-- A number as an argument of a call (the byte form of 02's order 1): bytes of the wrong length read as 0.
use Rattle.std.specs.Prelude.{List, ℕ, eqb, length}
use Rattle.exponents.specs.Words.{pick}
use Rattle.wire.specs.Bytes.{le}

unfoldable pub word_from : List ℕ → ℕ
word_from s = pick (eqb (length s) 4) (le 4 s 0) 0
