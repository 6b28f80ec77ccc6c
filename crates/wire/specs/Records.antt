-- The records in bytes (the byte form, "Records").
use Rattle.std.specs.Prelude.{Bool, true, false, not, List, ◌++◌, ℕ, ◌+◌, eqb, ℤ, pos, Float}
use Rattle.std.specs.Float.{binary64}
use Rattle.std.specs.Float.Ieee.{of_bits, to_bits}
use Rattle.std.specs.Int.{w32}
use Rattle.std.proofs.Common.{to_z, of_z}
use Rattle.exponents.specs.declared.Exponent.{Exponent}
use Rattle.units.specs.declared.Prefix.{Prefix}
use Rattle.units.specs.declared.Prefix.TheVariants.{Metric, Binary}
use Rattle.units.specs.declared.Factor.{Factor}
use Rattle.units.specs.declared.Factors.{Factors}
use Rattle.units.specs.declared.Kind.{Kind}
use Rattle.units.specs.declared.Kind.TheVariants.{Base, Derived}
use Rattle.units.specs.declared.Row.{Row}
use Rattle.units.specs.declared.Quantity.{Quantity}
use Rattle.units.specs.declared.Candidate.{Candidate}
use Rattle.units.specs.Lists.{no_factor}
use Rattle.exponents.specs.Words.{pick}
use Rattle.wire.specs.Bytes.{le, bytes_of, run_at, run_bytes, pad_to, count_of}

-- ---- read from place i on

-- a signed number in 4 bytes, two's complement
unfoldable pub signed_at : List ℕ → ℕ → ℤ
signed_at s i = to_z w32 (le 4 s i)

unfoldable pub exponent_at : List ℕ → ℕ → Exponent
exponent_at s i = record { num = signed_at s i; den = le 4 s (i + 4) }

-- what a prefix of no kind reads as: it breaks its rule
abbrev pub bad_prefix : Prefix
bad_prefix = Metric (pos 2000)

-- 0 metric, 1 binary
unfoldable pub prefix_of : ℕ → ℤ → Prefix
prefix_of k n = pick (eqb k 0) (Metric n) (pick (eqb k 1) (Binary n) bad_prefix)

unfoldable pub prefix_at : List ℕ → ℕ → Prefix
prefix_at s i = prefix_of (le 4 s i) (signed_at s (i + 4))

unfoldable pub factor_at : List ℕ → ℕ → Factor
factor_at s i = record { row = le 4 s i; prefix = prefix_at s (i + 4); exponent = exponent_at s (i + 12) }

-- m places for factors: the first n of them are read
abbrev pub places_at : ℕ → ℕ → List ℕ → ℕ → List Factor
places_at m n s i = pad_to no_factor m (run_at factor_at 20 n s i)

unfoldable pub list_at : List ℕ → ℕ → Factors
list_at s i = record { at = places_at 16 (count_of 16 (le 4 s i)) s (i + 4); len = le 4 s i }

unfoldable pub quantity_at : List ℕ → ℕ → Quantity
quantity_at s i = record {
  unit = list_at s (i + 12);
  value = of_bits binary64 (le 8 s i);
  mark = not (eqb (le 4 s (i + 8)) 0);
}

-- 0 base, 1 derived; of no kind reads as derived by zero, which breaks the rule of a factor
unfoldable pub kind_of : ℕ → Float → Kind
kind_of k x = pick (eqb k 0) Base (pick (eqb k 1) (Derived x) (Derived (of_bits binary64 0)))

unfoldable pub row_at : List ℕ → ℕ → Row
row_at s i = record {
  def = places_at 8 (count_of 8 (le 4 s (i + 4))) s (i + 16);
  len = le 4 s (i + 4);
  rank = le 2 s i;
  kind = kind_of (le 2 s (i + 2)) (of_bits binary64 (le 8 s (i + 8)));
}

unfoldable pub candidate_at : List ℕ → ℕ → Candidate
candidate_at s i = record { unit = list_at s (i + 4); rank = le 2 s i }

-- ---- written

unfoldable pub exponent_bytes : Exponent → List ℕ
exponent_bytes e = bytes_of 4 (of_z w32 e.num) ++ bytes_of 4 e.den

abbrev pub prefix_kind : Prefix → ℕ
prefix_kind (Metric n) = 0
prefix_kind (Binary n) = 1

abbrev pub prefix_number : Prefix → ℤ
prefix_number (Metric n) = n
prefix_number (Binary n) = n

unfoldable pub prefix_bytes : Prefix → List ℕ
prefix_bytes p = bytes_of 4 (prefix_kind p) ++ bytes_of 4 (of_z w32 (prefix_number p))

unfoldable pub factor_bytes : Factor → List ℕ
factor_bytes f = bytes_of 4 f.row ++ (prefix_bytes f.prefix ++ exponent_bytes f.exponent)

unfoldable pub list_bytes : Factors → List ℕ
list_bytes l = bytes_of 4 l.len ++ run_bytes factor_bytes l.at

-- a set mark is written as 1
abbrev pub flag : Bool → ℕ
flag true = 1
flag false = 0

unfoldable pub quantity_bytes : Quantity → List ℕ
quantity_bytes q = bytes_of 8 (to_bits binary64 q.value) ++ (bytes_of 4 (flag q.mark) ++ list_bytes q.unit)

abbrev pub kind_number : Kind → ℕ
kind_number Base = 0
kind_number (Derived x) = 1

-- a base row has none, and zeros for it
abbrev pub kind_factor : Kind → Float
kind_factor Base = of_bits binary64 0
kind_factor (Derived x) = x

unfoldable pub row_bytes : Row → List ℕ
row_bytes r =
    bytes_of 2 r.rank ++ (bytes_of 2 (kind_number r.kind) ++ (bytes_of 4 r.len
    ++ (bytes_of 8 (to_bits binary64 (kind_factor r.kind)) ++ run_bytes factor_bytes r.def)))

unfoldable pub candidate_bytes : Candidate → List ℕ
candidate_bytes c = bytes_of 2 c.rank ++ (bytes_of 2 0 ++ list_bytes c.unit)
