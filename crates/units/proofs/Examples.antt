-- Prefixes and lists at their limits, computed from the definitions: two tables, each with its one statement.
use mathlib.Core.Path.{◌≡◌, refl}
use mathlib.Core.List.{List, [], ◌∷◌, map}
use Prim.Native.Nat.{ℕ}
use lib.IntN.{ℤ, pos, negsuc}
use lib.ListN.{replicate}
use lib.Ieee.{binary64, to_bits, of_bits, mul, div}
use Rattle.exponents.specs.Outcome.{Outcome, Ok, Err, SHAPE, UNKNOWN, ROOM, RANGE, each, apply}
use Rattle.exponents.specs.Held.{worked}
use Rattle.floats.specs.Power.{power, raise, bits_of}
use Rattle.units.specs.declared.Prefix.{Prefix}
use Rattle.units.specs.declared.Prefix.TheVariants.{Metric, Binary}
use Rattle.units.specs.declared.Factor.{Factor}
use Rattle.units.specs.declared.Factors.{Factors}
use Rattle.units.specs.Prefixes.{prefix_factor}
use Rattle.units.specs.Lists.{pack, some, factor_fault, checked, both, joined, with_exponent, inverted, raised, product, quotient, list_power}

-- ---- prefixes, with the bits of their factors
abbrev bits_at : Prefix → Outcome ℕ
bits_at p = apply (to_bits binary64) (prefix_factor p)

prefixes_known :
    map bits_at (Metric (pos 0) ∷ Binary (pos 0) ∷ Metric (pos 3) ∷ Binary (pos 10) ∷ Metric (negsuc 23) ∷ Metric (pos 1100) ∷ Metric (negsuc 1099) ∷ Metric (pos 1101) ∷ Binary (negsuc 1100) ∷ [])
    ≡ Ok 0x3ff0_0000_0000_0000
    ∷ Ok 0x3ff0_0000_0000_0000
    ∷ Ok 0x408f_4000_0000_0000
    ∷ Ok 0x4090_0000_0000_0000
    ∷ Ok 0x3af3_57c2_99a8_8ea8
    ∷ Ok 0x7ff0_0000_0000_0000
    ∷ Ok 0
    ∷ Err SHAPE
    ∷ Err SHAPE
    ∷ []
unfolding prefix_factor worked power raise bits_of mul div to_bits of_bits
prefixes_known = refl

-- ---- lists of one factor, some times over
abbrev at : ℕ → ℤ → ℕ → Factor
at row n d = record { row = row; prefix = Metric (pos 3); exponent = record { num = n; den = d } }

abbrev times : ℕ → Factor → Factors
times n f = pack (replicate n f)

abbrev root : Factor
root = at 5 (pos 2) 3

-- a call and its answer
abbrev Row : Type 0
Row = Outcome (List Factor) × Outcome (List Factor)

rows : List Row
rows =
    (checked 6 (times 16 root), Ok (replicate 16 root))
    ∷ (checked 6 (times 17 root), Err SHAPE)
    ∷ (checked 6 (times 2 (at 5 (pos 2) 4)), Err SHAPE)
    ∷ (checked 5 (times 2 root), Err UNKNOWN)
    ∷ (product 6 (times 8 root) (times 8 root), Ok (replicate 16 root))
    ∷ (product 6 (times 8 root) (times 9 root), Err ROOM)
    ∷ (product 5 (times 1 root) (times 17 root), Err UNKNOWN)
    ∷ (quotient 6 (times 1 root) (times 2 root), Ok (root ∷ at 5 (negsuc 1) 3 ∷ at 5 (negsuc 1) 3 ∷ []))
    ∷ (list_power 6 (times 2 root) (record { num = pos 3; den = 2 }), Ok (at 5 (pos 1) 1 ∷ at 5 (pos 1) 1 ∷ []))
    ∷ (list_power 6 (times 2 root) (record { num = pos 0; den = 1 }), Ok (at 5 (pos 0) 1 ∷ at 5 (pos 0) 1 ∷ []))
    ∷ (list_power 6 (times 2 root) (record { num = pos 2147483647; den = 1 }), Err RANGE)
    ∷ (list_power 6 (times 2 root) (record { num = pos 2; den = 2 }), Err SHAPE)
    ∷ []

lists-known : map (λ (r : Row). r.0) rows ≡ map (λ (r : Row). r.1) rows
unfolding rows worked each pack some factor_fault checked both joined with_exponent inverted raised product quotient list_power
lists-known = refl
