-- How long a file is: a number by its size, a factor, a row, and an admitted table at most 15,890 bytes; 16,146 whatever its ranks.
use mathlib.Core.Path.{◌≡◌, refl}
use mathlib.Core.Bool.{Bool, true, false}
use mathlib.Core.List.{List, [], ◌∷◌}
use Prim.Native.Nat.{ℕ, zero, suc, ◌+◌, ◌*◌, ◌/◌, ◌%◌, ◌^◌, ◌≤◌, ◌<◌}
use native.Mathlib.Nat.{pow-suc, pow-zero, one-le-pow, mul-le-mul_right}
use native.Mathlib.Omega.{arith}
use borrow.Author.Tests.{ltb-false, le-ltb}
use lib.Dec.{ltb}
use lib.Ieee.{binary64, to_bits}
use lib.IntN.{ℤ, pos, negsuc, nat_abs}
use lib.ListN.{length, get_or, length-append, length-take}
use Rattle.exponents.specs.Words.{pick, All}
use Rattle.exponents.specs.Outcome.{Ok}
use Rattle.exponents.proofs.Each.{all_imp, all_both, all_by}
use Rattle.exponents.proofs.Words.{pick_is}
use Rattle.units.specs.declared.Prefix.{Prefix}
use Rattle.units.specs.declared.Prefix.TheVariants.{Metric, Binary}
use Rattle.units.specs.declared.Factor.{Factor}
use Rattle.units.specs.declared.Kind.{Kind}
use Rattle.units.specs.declared.Kind.TheVariants.{Base, Derived}
use Rattle.units.specs.declared.Row.{Row}
use Rattle.units.specs.declared.Rows.{Rows}
use Rattle.units.specs.Lists.{factor_fault}
use Rattle.tables.specs.Rows.{Facts, def_of, rows_of, table}
use Rattle.tables.proofs.Terms.{nil_row}
use Rattle.wire.specs.Bytes.{run_bytes}
use Rattle.wire.specs.Records.{prefix_kind, prefix_number}
use Rattle.wire.proofs.Digits.{length-bytes_of}
use Rattle.groups.specs.Numbers.{groups, number_bytes, folded}
use Rattle.groups.proofs.Groups.{number_short}
use Rattle.files.specs.Records.{factor_file, kind_file, row_file, table_file}
use Rattle.filelaws.proofs.Admitted.{Kept, kept_sound, kept_more, admitted_rows}
use Rattle.filelaws.proofs.Words.{prefix_kept}

-- ---- numbers

-- below 128 to the w: at most w bytes
pub groups-below : (w n x : ℕ) → 0 < w → x < 128 ^ w → length (groups n x) ≤ w
unfolding groups
groups-below zero n x k h = absurd (omega arith)
groups-below (suc w) zero x k h = omega arith
groups-below (suc w) (suc n) x k h = go w h (groups-below w n (x / 128)) (ltb x 128) refl
  where
    go : (w : ℕ) → x < 128 ^ suc w → (0 < w → x / 128 < 128 ^ w → length (groups n (x / 128)) ≤ w) → (p : Bool) → ltb x 128 ≡ p → length (pick p (x ∷ []) ((x % 128 + 128) ∷ groups n (x / 128))) ≤ suc w
    go w h i true e = omega arith
    go zero h i false e = absurd (omega (arith, pow-suc 128 0, pow-zero 128, ltb-false x 128 e))
    go (suc w) h i false e = omega (arith, i (omega arith) (omega (arith, pow-suc 128 (suc w))))

pub number-below : (w x : ℕ) → 0 < w → x < 128 ^ w → length (number_bytes x) ≤ w
unfolding number_bytes
number-below w x = groups-below w 5 x

pub groups-some : (n x : ℕ) → 1 ≤ length (groups (suc n) x)
unfolding groups
groups-some n x = pick_is (λ l. 1 ≤ length l) (ltb x 128) {a = x ∷ []} {b = (x % 128 + 128) ∷ groups n (x / 128)} (omega arith) (omega arith)

pub number-some : (x : ℕ) → 1 ≤ length (number_bytes x)
unfolding number_bytes
number-some x = groups-some 4 x

-- from 128 to the w on: over w bytes
pub groups-above : (w n x : ℕ) → w < n → 128 ^ w ≤ x → w < length (groups n x)
unfolding groups
groups-above w zero x k h = absurd (omega arith)
groups-above zero (suc n) x k h = groups-some n x
groups-above (suc w) (suc n) x k h =
    let e : 128 ≤ x = omega (arith, pow-suc 128 w, one-le-pow w 128 (omega arith)) in
    rw (le-ltb x 128 e) (omega (arith, groups-above w n (x / 128) (omega arith) (omega (arith, pow-suc 128 w))))

-- ---- a factor: 1 + 1 + 2 + 5 + 5

folded_twice : (z : ℤ) → folded z ≤ 2 * nat_abs z
folded_twice (pos n) = omega arith
folded_twice (negsuc n) = omega arith

kind_small : (p : Prefix) → prefix_kind p < 128
kind_small (Metric n) = omega arith
kind_small (Binary n) = omega arith

pub factor-short : (f : Factor) → factor_fault f ≡ false → f.row < 128 → length (factor_file f) ≤ 14
unfolding factor_file
factor-short f h l =
    let a = number-below 1 f.row (omega arith) (omega arith) in
    let b = number-below 1 (prefix_kind f.prefix) (omega arith) (omega (arith, kind_small f.prefix)) in
    let n = folded (prefix_number f.prefix) in
    let c = number-below 2 n (omega arith) (omega (arith, folded_twice (prefix_number f.prefix), prefix_kept f h)) in
    let d = number_short (folded f.exponent.num) in
    let e = number_short f.exponent.den in
    simp length-append (omega arith)

-- ---- records, one after another
pub run_short : {A : Type 0} {P : A → Type 0} (bytes : A → List ℕ) (b : ℕ) → ((a : A) → P a → length (bytes a) ≤ b) → (l : List A) → All P l → length (run_bytes bytes l) ≤ length l * b
unfolding run_bytes
run_short bytes b h [] p = omega arith
run_short bytes b h (a ∷ l) p = omega (arith, length-append (bytes a) (run_bytes bytes l), h a p.0, run_short bytes b h l p.1)

-- ---- a row: its rank's number, 1 + 8 + 1 and its factors

kind_short : (k : Kind) (r : Row) → Kept 128 r → length (kind_file k r) ≤ 10 + length (def_of r) * 14
unfolding kind_file
kind_short Base r h = omega (arith, number-below 1 0 (omega arith) (omega arith))
kind_short (Derived x) r h =
    let a = number-below 1 1 (omega arith) (omega arith) in
    let b = length-bytes_of 8 (to_bits binary64 x) in
    let c = number-below 1 r.len (omega arith) (omega (arith, h.few)) in
    let d = run_short factor_file 14 (λ f s. factor-short f s.0 s.1) (def_of r) (kept_sound 128 r h) in
    simp length-append (omega arith)

-- ranks whose numbers take at most b bytes
abbrev pub Ranked : ℕ → Row → Type 0
Ranked b r = length (number_bytes r.rank) ≤ b

pub any_ranked : (r : Row) → Ranked 5 r
any_ranked r = number_short r.rank

pub word_ranked : (r : Row) → r.rank ≤ 65535 → Ranked 3 r
word_ranked r k = number-below 3 r.rank (omega arith) (omega arith)

module _ (b : ℕ) (r : Row) (h : Kept 128 r) (k : Ranked b r) where
  pub row_short : length (row_file r) ≤ b + 10 + length (def_of r) * 14
  unfolding row_file
  row_short = omega (arith, length-append (number_bytes r.rank) (kind_file r.kind r), kind_short r.kind r h)

  pub row_most : length (row_file r) ≤ b + 122
  row_most = omega (arith, row_short, length-take r.len r.def, h.few)

pub base_short : (r : Row) → r.kind ≡ Base → r.rank ≤ 65535 → length (row_file r) ≤ 4
unfolding row_file kind_file
base_short r e k = rw e (omega (arith, length-append (number_bytes r.rank) (number_bytes 0), word_ranked r k, number-below 1 0 (omega arith) (omega arith)))

-- the first row has no factors: there is none before it
pub first_short : (b : ℕ) (r : Row) → Kept 0 r → Ranked b r → length (row_file r) ≤ b + 10
first_short b r h k = omega (arith, row_short b r (kept_more 0 128 r (omega arith) h) k, none (def_of r) h.lower)
  where
    none : (l : List Factor) → All (λ f. f.row < 0) l → length l ≡ 0
    none [] h = refl
    none (f ∷ l) h = absurd (omega (arith, h.0))

-- ---- a table: 2, the first row, and 127 more; with ranks of 16 bits 2 + 13 + 127 · 125

module _ (b : ℕ) where
  rows_short : (rs : List Row) → length rs ≤ 128 → ((d : Row) (i : ℕ) → i < length rs → Kept i (get_or rs i d)) → All (Ranked b) rs → length (run_bytes row_file rs) ≤ b + 10 + 127 * (b + 122)
  unfolding run_bytes
  rows_short [] n h k = omega arith
  rows_short (r ∷ rs) n h k =
      let a = all_by (Kept 128) nil_row rs (λ i l. kept_more (suc i) 128 (get_or rs i nil_row) (omega arith) (h nil_row (suc i) (omega arith))) in
      let c = run_short row_file (b + 122) (λ r s. row_most b r s.0 s.1) rs (all_both (Kept 128) (Ranked b) rs a k.1) in
      let m : length rs * (b + 122) ≤ 127 * (b + 122) = mul-le-mul_right (b + 122) (omega arith) in
      omega (arith, length-append (row_file r) (run_bytes row_file rs), first_short b r (h nil_row 0 (omega arith)) k.0)

  file_short : (t : Rows) (ks : List Facts) → table t ≡ Ok ks → All (Ranked b) (rows_of t) → length (table_file (rows_of t)) ≤ b + 12 + 127 * (b + 122)
  unfolding table_file
  file_short t ks e k =
      let a = admitted_rows t ks e in
      let n = number-below 2 (length (rows_of t)) (omega arith) (omega arith) in
      omega (arith, length-append (number_bytes (length (rows_of t))) (run_bytes row_file (rows_of t)), rows_short (rows_of t) a.few a.at k)

pub table-short : (t : Rows) (ks : List Facts) → table t ≡ Ok ks → All (λ r. r.rank ≤ 65535) (rows_of t) → length (table_file (rows_of t)) ≤ 15890
table-short t ks e k = file_short 3 t ks e (all_imp (rows_of t) word_ranked k)

-- whatever the ranks are
pub table_brief : (t : Rows) (ks : List Facts) → table t ≡ Ok ks → length (table_file (rows_of t)) ≤ 16146
table_brief t ks e = file_short 5 t ks e (all_by (Ranked 5) nil_row (rows_of t) (λ i l. any_ranked (get_or (rows_of t) i nil_row)))
