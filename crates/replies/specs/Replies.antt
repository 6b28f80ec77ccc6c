-- An answer's bytes into lent room (the byte form, "Records"): too little room is ROOM, after every other refusal of the call; a refusal writes nothing.
use Rattle.std.specs.Prelude.{Bool, List, ◌++◌, eqb, ltb, Float, length, drop}
use Prim.Native.Nat.{ℕ, Ordering, ◌+◌}
use Rattle.std.specs.Float.{binary64}
use Rattle.std.specs.Float.Ieee.{of_bits, to_bits}
use Rattle.exponents.specs.Words.{pick}
use Rattle.exponents.specs.Outcome.{Outcome, Ok, Err, ROOM, unless, bind}
use Rattle.exponents.specs.Fractions.{nought}
use Rattle.units.specs.declared.Factor.{Factor}
use Rattle.units.specs.Lists.{pack}
use Rattle.reduction.specs.Multiple.{Maybe, times, none}
use Rattle.reduction.specs.declared.reduce.Reduced.{Reduced}
use Rattle.wire.specs.Bytes.{le, bytes_of}
use Rattle.wire.specs.Records.{exponent_at, list_at, exponent_bytes, list_bytes, flag}

-- ---- the room

-- what a call sends into so many lent bytes
unfoldable pub sent : List ℕ → Outcome (List ℕ) → Outcome (List ℕ)
sent room o = bind o (λ bs. unless (ltb (length room) (length bs)) ROOM (Ok bs))

-- what the room holds at the end: the answer before its own further bytes; after a refusal its own bytes
abbrev pub left : List ℕ → Outcome (List ℕ) → List ℕ
left room (Ok bs) = bs ++ drop (length bs) room
left room (Err r) = room

-- ---- the answers' bytes

unfoldable pub unit_bytes : List Factor → List ℕ
unit_bytes fs = list_bytes (pack fs)

unfoldable pub value_bytes : Float → List ℕ
value_bytes v = bytes_of 8 (to_bits binary64 v)

-- the scale, then the list
unfoldable pub reduced_bytes : List Factor × Float → List ℕ
reduced_bytes p = value_bytes p.1 ++ unit_bytes p.0

-- 1 yes, 0 no
unfoldable pub verdict_bytes : Bool → List ℕ
verdict_bytes b = bytes_of 4 (flag b)

-- 0 less, 1 equal, 2 greater
abbrev pub order_number : Ordering → ℕ
order_number Ordering.lt = 0
order_number Ordering.eq = 1
order_number Ordering.gt = 2

unfoldable pub order_bytes : Ordering → List ℕ
order_bytes o = bytes_of 4 (order_number o)

-- 1 and the exponent, or 0 and 0/1
unfoldable pub multiple_bytes : Maybe → List ℕ
multiple_bytes (times e) = bytes_of 4 1 ++ exponent_bytes e
multiple_bytes none = bytes_of 4 0 ++ exponent_bytes nought

-- ---- the same, read from place i on
unfoldable pub multiple_at : List ℕ → ℕ → Maybe
multiple_at s i = pick (eqb (le 4 s i) 0) none (times (exponent_at s (i + 4)))

unfoldable pub reduced_at : List ℕ → ℕ → Reduced
reduced_at s i = record { unit = list_at s (i + 8); scale = of_bits binary64 (le 8 s i) }
