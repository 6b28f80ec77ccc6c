-- Keys and their order, computed from the definitions: two tables, each with its one statement.
use mathlib.Core.Path.{◌≡◌, refl}
use mathlib.Core.List.{List, [], ◌∷◌, map}
use Prim.Native.Nat.{ℕ}
use lib.IntN.{ℤ, pos, negsuc}
use Rattle.exponents.specs.Outcome.{Outcome, Ok, Err, DENOMINATOR}
use Rattle.exponents.specs.Held.{worked}
use Rattle.exponents.specs.declared.Exponent.{Exponent}
use Rattle.keys.specs.Key.{multiple, whole, wholes, divisor, below, turn, shrink, reduce, key, entry, entries}
use Rattle.keys.specs.Orders.{lists, pairs}
use Rattle.keys.specs.Held.{sense_of}
use Rattle.std.specs.declared.cmp.Ordering.{Ordering}
use Rattle.std.specs.declared.cmp.Ordering.TheVariants.{Less, Equal, Greater}

-- ---- keys, from the base exponents of g, m, s and bit
abbrev over : ℤ → ℕ → Exponent
over n d = record { num = n; den = d }

abbrev none : Exponent
none = over (pos 0) 1

abbrev Row : Type 0
Row = List Exponent × Outcome (List ℤ)

-- newton; hertz; g^(-3/2) m^(5/6) bit^-4; a row with no dimension; numbers beyond an exponent's range; the multiple at its limit and beyond it
rows : List Row
rows =
    (over (pos 1) 1 ∷ over (pos 1) 1 ∷ over (negsuc 1) 1 ∷ none ∷ [], Ok (pos 1 ∷ pos 1 ∷ negsuc 1 ∷ pos 0 ∷ []))
    ∷ (none ∷ none ∷ over (negsuc 0) 1 ∷ none ∷ [], Ok (pos 0 ∷ pos 0 ∷ pos 1 ∷ pos 0 ∷ []))
    ∷ (over (negsuc 2) 2 ∷ over (pos 5) 6 ∷ none ∷ over (negsuc 3) 1 ∷ [], Ok (pos 9 ∷ negsuc 4 ∷ pos 0 ∷ pos 24 ∷ []))
    ∷ (none ∷ none ∷ none ∷ none ∷ [], Ok (pos 0 ∷ pos 0 ∷ pos 0 ∷ pos 0 ∷ []))
    ∷ (over (pos 2147483647) 1 ∷ over (pos 1) 2147483647 ∷ [], Ok (pos 4611686014132420609 ∷ pos 1 ∷ []))
    ∷ (over (negsuc 0) 65536 ∷ over (pos 1) 32767 ∷ [], Ok (pos 32767 ∷ negsuc 65535 ∷ []))
    ∷ (over (pos 1) 65536 ∷ over (pos 1) 65537 ∷ [], Err DENOMINATOR)
    ∷ []

keys_known : map (λ (r : Row). key r.0) rows ≡ map (λ (r : Row). r.1) rows
unfolding rows worked multiple whole wholes divisor below turn shrink reduce key
keys_known = refl

-- ---- their order
abbrev Pair : Type 0
Pair = (List ℤ × List ℤ) × Ordering

-- the same; a shorter beginning, either way; the next entry at a higher place, either way; numbers of either sign
pairs_of : List Pair
pairs_of =
    ((pos 1 ∷ pos 1 ∷ negsuc 1 ∷ [], pos 1 ∷ pos 1 ∷ negsuc 1 ∷ []), Equal)
    ∷ ((pos 0 ∷ pos 0 ∷ pos 0 ∷ [], pos 0 ∷ pos 0 ∷ pos 0 ∷ []), Equal)
    ∷ ((pos 0 ∷ pos 0 ∷ pos 0 ∷ [], pos 0 ∷ pos 0 ∷ pos 1 ∷ []), Less)
    ∷ ((pos 1 ∷ pos 1 ∷ pos 0 ∷ [], pos 1 ∷ pos 1 ∷ negsuc 1 ∷ []), Less)
    ∷ ((pos 1 ∷ pos 1 ∷ negsuc 1 ∷ [], pos 1 ∷ pos 1 ∷ pos 0 ∷ []), Greater)
    ∷ ((pos 0 ∷ pos 1 ∷ negsuc 1 ∷ [], pos 1 ∷ pos 0 ∷ pos 0 ∷ []), Greater)
    ∷ ((pos 1 ∷ negsuc 5 ∷ pos 0 ∷ [], pos 1 ∷ pos 0 ∷ pos 7 ∷ []), Less)
    ∷ ((pos 1 ∷ pos 2 ∷ pos 0 ∷ [], pos 1 ∷ pos 3 ∷ pos 0 ∷ []), Less)
    ∷ ((pos 1 ∷ negsuc 1 ∷ pos 3 ∷ [], pos 1 ∷ negsuc 2 ∷ pos 4 ∷ []), Greater)
    ∷ ((pos 1 ∷ negsuc 1 ∷ pos 0 ∷ [], pos 1 ∷ pos 1 ∷ pos 0 ∷ []), Less)
    ∷ []

order-known : map (λ (r : Pair). sense_of (lists pairs (entries 0 r.0.0) (entries 0 r.0.1))) pairs_of ≡ map (λ (r : Pair). r.1) pairs_of
unfolding pairs_of entry entries
order-known = refl
