-- The numbers of an admitted row: they fit the file, and its factor is a plain number.
use mathlib.Core.Path.{◌≡◌}
use mathlib.Core.Bool.{true, false}
use mathlib.Core.List.{List}
use Prim.Native.Nat.{ℕ, ◌≤◌, ◌<◌}
use native.Mathlib.Omega.{arith}
use borrow.Author.Tests.{ltb-false}
use lib.Dec.{T}
use lib.Ieee.{Float, nan, inf, fin, binary64, fits, is_nan}
use lib.IntN.{ℤ, pos, negsuc, nat_abs}
use lib.Signed.{mag, lt_z}
use lib.ListN.{length}
use lib.Seq.{length-take-le}
use Rattle.exponents.specs.Words.{All}
use Rattle.exponents.specs.Outcome.{Ok}
use Rattle.exponents.specs.Fractions.{most, faulty}
use Rattle.exponents.proofs.Each.{all_imp, all_both}
use Rattle.exponents.proofs.InRange.{InRange, or_left, sound}
use Rattle.floats.specs.Values.{is_positive}
use Rattle.units.specs.declared.Prefix.{Prefix}
use Rattle.units.specs.declared.Prefix.TheVariants.{Metric, Binary}
use Rattle.units.specs.declared.Factor.{Factor}
use Rattle.units.specs.declared.Kind.{Kind}
use Rattle.units.specs.declared.Kind.TheVariants.{Base, Derived}
use Rattle.units.specs.declared.Row.{Row}
use Rattle.units.specs.declared.Rows.{Rows}
use Rattle.units.specs.Prefixes.{number_fault, prefix_fault}
use Rattle.units.specs.Lists.{factor_fault}
use Rattle.units.proofs.Sound.{exponent_sound}
use Rattle.tables.specs.Rows.{Facts, def_of, rows_of, table}
use Rattle.wire.specs.Records.{prefix_number}
use Rattle.wire.proofs.Round.{FactorFits}
use Rattle.files.proofs.Forms.{KindFits, RowFits, Plain}
use Rattle.filelaws.proofs.Admitted.{KindKept, Kept, kept_sound, admitted_all}

-- ---- the numbers of a factor

pub num_least : (z : ℤ) → nat_abs z ≤ most → mag z < 2147483648
num_least (pos n) h = omega arith
num_least (negsuc n) h = omega arith

-- -1100 to 1100
pub number-least : (z : ℤ) → number_fault z ≡ false → nat_abs z ≤ 1100
number-least (pos n) h = ltb-false 1100 n h
number-least (negsuc n) h = omega (arith, ltb-false 1099 n (or_left (lt_z (negsuc n) (negsuc 1099)) (lt_z (pos 1100) (negsuc n)) h))

pub prefix_least : (p : Prefix) → prefix_fault p ≡ false → nat_abs (prefix_number p) ≤ 1100
prefix_least (Metric n) h = number-least n h
prefix_least (Binary n) h = number-least n h

-- ---- words that a row of the code holds, and admission doesn't look at
abbrev pub FactorWorded : Kind → Type 0
FactorWorded Base = Unit {0}
FactorWorded (Derived x) = T (fits binary64 x)

pub record Worded (r : Row) : Type 0 where
  pub rank : r.rank ≤ 65535
  pub places : length r.def ≡ 8
  pub factor : FactorWorded r.kind

module _ (f : Factor) (h : factor_fault f ≡ false) where
  pub prefix_kept : nat_abs (prefix_number f.prefix) ≤ 1100
  unfolding factor_fault
  prefix_kept = prefix_least f.prefix (or_left (prefix_fault f.prefix) (faulty f.exponent) h)

  pub exponent_kept : InRange f.exponent
  exponent_kept = (sound f.exponent (exponent_sound f h)).0

  pub factor-fits : f.row < 128 → FactorFits f
  factor-fits l =
      let e = exponent_kept in
      record {
        row = omega arith;
        prefix = record { number = num_least (prefix_number f.prefix) (omega (arith, prefix_kept)) };
        exponent = record { num = num_least f.exponent.num e.numerator; den = omega arith };
      }

kind_fits : (k : Kind) (r : Row) → r.len ≤ 8 → length r.def ≡ 8 → All FactorFits (def_of r) → FactorWorded k → KindFits k r
kind_fits Base r n p a w = tt
kind_fits (Derived x) r n p a w = (w, n, length-take-le r.len r.def (omega arith), a)

pub row_fits : (r : Row) → Kept 128 r → Worded r → RowFits r
row_fits r k w = record { rank = w.rank; kind = kind_fits r.kind r k.few w.places (all_imp (def_of r) (λ f s. factor-fits f s.0 s.1) (kept_sound 128 r k)) w.factor }

pub admitted_fits : (t : Rows) (ks : List Facts) → table t ≡ Ok ks → All Worded (rows_of t) → All RowFits (rows_of t)
admitted_fits t ks e w = all_imp (rows_of t) (λ r h. row_fits r h.0 h.1) (all_both (Kept 128) Worded (rows_of t) (admitted_all t ks e) w)

-- ---- a positive factor isn't NaN

pub plain : (x : Float) → is_positive x ≡ true → Plain (Derived x)
unfolding is_nan
plain nan e = let z : ◌≡◌ {A = ℕ} 0 1 = cc in absurd (omega arith)
plain (inf s) e = tt
plain (fin s m e) h = tt

plain_kind : (k : Kind) (r : Row) → KindKept k r → Plain k
plain_kind Base r h = tt
plain_kind (Derived x) r h = plain x h

pub admitted_plain : (t : Rows) (ks : List Facts) → table t ≡ Ok ks → All (λ r. Plain r.kind) (rows_of t)
admitted_plain t ks e = all_imp (rows_of t) (λ r k. plain_kind r.kind r k.kind) (admitted_all t ks e)
