-- What admission tells of each row of a table, by its place.
use mathlib.Core.Path.{◌≡◌}
use mathlib.Core.Bool.{true, false, not, ◌||◌}
use mathlib.Core.List.{List}
use Prim.Native.Nat.{ℕ, ◌≤◌, ◌<◌}
use native.Mathlib.Omega.{arith}
use borrow.Author.Tests.{ltb-true, ltb-false, eqb-true, not-false}
use lib.Dec.{ltb, eqb}
use lib.ListN.{length, get_or, take}
use Rattle.exponents.specs.Words.{All}
use Rattle.exponents.specs.Outcome.{Ok}
use Rattle.exponents.proofs.Each.{all_imp, all_by, all_both}
use Rattle.exponents.proofs.InRange.{or_left, or_right}
use Rattle.floats.specs.Values.{is_positive}
use Rattle.units.specs.declared.Factor.{Factor}
use Rattle.units.specs.declared.Kind.{Kind}
use Rattle.units.specs.declared.Kind.TheVariants.{Base, Derived}
use Rattle.units.specs.declared.Row.{Row}
use Rattle.units.specs.declared.Rows.{Rows}
use Rattle.units.specs.Lists.{some, unknown, factor_fault}
use Rattle.tables.specs.Rows.{Facts, count, def_of, kind_fault, table_fault, slots, rows_of, table}
use Rattle.tables.proofs.Filled.{admit-rows, table-length, row_known, names_lower}
use Rattle.tables.proofs.Terms.{nil_row}
use Rattle.resolution.proofs.Keyed.{admits, admit_keyed}
use Rattle.canonical.proofs.Keeping.{each_faultless}

-- ---- one row

-- a base row has no definition, a derived one a factor that is finite and above zero
abbrev pub KindKept : Kind → Row → Type 0
KindKept Base r = r.len ≡ 0
KindKept (Derived x) r = is_positive x ≡ true

-- a row that is admitted at place i
pub record Kept (i : ℕ) (r : Row) : Type 0 where
  pub few : r.len ≤ 8
  pub shaped : All (λ f. factor_fault f ≡ false) (def_of r)
  pub lower : All (λ f. f.row < i) (def_of r)
  pub kind : KindKept r.kind r

kept_kind : (k : Kind) (r : Row) (n : ℕ) → kind_fault k n r.len ≡ false → KindKept k r
unfolding kind_fault
kept_kind Base r n e = eqb-true r.len 0 (not-false _ (or_right (ltb 15 n) (not (eqb r.len 0)) e))
kept_kind (Derived x) r n e = not-false _ e

kept_by : (js : List Facts) (i : ℕ) (r : Row) → table_fault js r ≡ false → some factor_fault (def_of r) ≡ false → some (unknown i) (def_of r) ≡ false → Kept i r
unfolding table_fault
kept_by js i r e s n =
    let ranks = some (λ k. eqb k.rank r.rank) js in
    let kind = kind_fault r.kind (count js) r.len in
    let a = or_left (ranks || kind || ltb 8 r.len) (some (λ f. not (ltb f.row (length js))) (def_of r)) e in
    record {
      few = ltb-false 8 r.len (or_right (ranks || kind) (ltb 8 r.len) a);
      shaped = each_faultless factor_fault (def_of r) s;
      lower = all_imp (def_of r) (λ f k. ltb-true f.row i (not-false _ k)) (each_faultless (unknown i) (def_of r) n);
      kind = kept_kind r.kind r (count js) (or_right ranks kind (or_left (ranks || kind) (ltb 8 r.len) a));
    }

-- its factors, of which each is of a row before it
abbrev pub Sound : ℕ → Factor → Type 0
Sound i f = (factor_fault f ≡ false) × (f.row < i)

pub kept_sound : (i : ℕ) (r : Row) → Kept i r → All (Sound i) (def_of r)
kept_sound i r k = all_both (λ f. factor_fault f ≡ false) (λ f. f.row < i) (def_of r) k.shaped k.lower

pub kept_more : (i n : ℕ) (r : Row) → i ≤ n → Kept i r → Kept n r
kept_more i n r h k = record { few = k.few; shaped = k.shaped; lower = all_imp (def_of r) (λ f l. omega arith) k.lower; kind = k.kind }

-- ---- the table

pub record RowByRow (t : Rows) (ks : List Facts) : Type 0 where
  pub few : length (rows_of t) ≤ 128
  pub all : length ks ≡ length (rows_of t)
  pub at : (d : Row) (i : ℕ) → i < length (rows_of t) → Kept i (get_or (rows_of t) i d)

pub admitted_rows : (t : Rows) (ks : List Facts) → table t ≡ Ok ks → RowByRow t ks
admitted_rows t ks e =
    let a = admits t ks e in
    let ss = slots (rows_of t) in
    let from = admit-rows t ks a in
    let n = table-length ss (rows_of t) ks from in
    record {
      few = omega (arith, (admit_keyed t ks a).few);
      all = n;
      at = λ d i h. let k = row_known ss (rows_of t) ks from d i h in kept_by (take i ks) i (get_or (rows_of t) i d) k.table k.shape (names_lower ss (rows_of t) ks from d i h);
    }

pub admitted_all : (t : Rows) (ks : List Facts) → table t ≡ Ok ks → All (Kept 128) (rows_of t)
admitted_all t ks e = let a = admitted_rows t ks e in all_by (Kept 128) nil_row (rows_of t) (λ i l. kept_more i 128 (get_or (rows_of t) i nil_row) (omega (arith, a.few)) (a.at nil_row i l))
