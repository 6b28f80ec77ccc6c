-- What is written is read back: the form of every record, for all that its types hold.
use mathlib.Core.Path.{◌≡◌, refl, ap, ap₂, ◌∙◌}
use mathlib.Core.Bool.{Bool, true, false, not}
use mathlib.Core.List.{List, [], ◌∷◌, ◌++◌, append_assoc}
use Prim.Native.Nat.{ℕ, zero, suc, ◌+◌, ◌*◌, ◌/◌, ◌%◌, ◌^◌, ◌≤◌, ◌<◌}
use native.Mathlib.Nat.{add_assoc, pow-suc, pow-zero}
use native.Mathlib.Omega.{arith}
use lib.Dec.{T, eqb}
use lib.Signed.{mag}
use lib.Ieee.{binary64, of_bits, to_bits, fits}
use lib.Ieee.Bits.{of_bits-to_bits, to_bits-lt}
use lib.ListN.{length, get_or, get_or-append}
use lib.Seq.{get_or-append-add}
use mir.Syntax.{w32}
use mir.Val.{to_z, of_z}
use mir.Facts.{to_z-of_z, Fits-of_z}
use Rattle.exponents.specs.declared.Exponent.{Exponent}
use Rattle.units.specs.declared.Prefix.{Prefix}
use Rattle.units.specs.declared.Prefix.TheVariants.{Metric, Binary}
use Rattle.units.specs.declared.Factor.{Factor}
use Rattle.units.specs.declared.Factors.{Factors}
use Rattle.units.specs.declared.Kind.{Kind}
use Rattle.units.specs.declared.Kind.TheVariants.{Base, Derived}
use Rattle.units.specs.declared.Row.{Row}
use Rattle.units.specs.declared.Quantity.{Quantity}
use Rattle.units.specs.declared.Candidate.{Candidate}
use Rattle.units.specs.Lists.{no_factor}
use Rattle.floats.proofs.Patterns.{bits_fit}
use Rattle.wire.specs.Bytes.{le, bytes_of}
use Rattle.wire.specs.Records.{signed_at, exponent_at, prefix_of, prefix_at, factor_at, list_at, quantity_at, kind_of, row_at, candidate_at, exponent_bytes, prefix_kind, prefix_number, prefix_bytes, factor_bytes, list_bytes, flag, quantity_bytes, kind_number, kind_factor, row_bytes, candidate_bytes}
use Rattle.wire.proofs.Digits.{length-bytes_of}
use Rattle.wire.proofs.Form.{Form, told, then, Holding, counted}

-- ---- numbers

le_skips : (w : ℕ) (p s : List ℕ) (i : ℕ) → le w (p ++ s) (length p + i) ≡ le w s i
unfolding le
le_skips zero p s i = refl
le_skips (suc w) p s i = rw (get_or-append-add p s i 0, add_assoc) (ap (λ n. get_or s i 0 + 256 * n) (le_skips w p s (i + 1)))

le_stops : (w : ℕ) (s t : List ℕ) (i : ℕ) → i + w ≤ length s → le w (s ++ t) i ≡ le w s i
unfolding le
le_stops zero s t i h = refl
le_stops (suc w) s t i h = ap₂ (λ a n. a + 256 * n) (get_or-append s t 0 i (omega arith)) (le_stops w s t (i + 1) (omega arith))

le_back : (w x : ℕ) (s : List ℕ) → x < 256 ^ w → le w (bytes_of w x ++ s) 0 ≡ x
unfolding le bytes_of
le_back zero x s h = omega (arith, pow-zero 256)
le_back (suc w) x s h =
    let q : x / 256 < 256 ^ w = omega (arith, pow-suc 256 w) in
    let e = le_skips w (x % 256 ∷ []) (bytes_of w (x / 256) ++ s) 0 ∙ le_back w (x / 256) s q in
    rw e (omega arith)

pub number_form : (w : ℕ) → Form (λ x. x < 256 ^ w) (le w) (bytes_of w) w
number_form w = record { sized = λ x _. length-bytes_of w x; skips = le_skips w; stops = le_stops w; back = le_back w }

-- two's complement
pub signed_form : Form (λ z. mag z < 2147483648) signed_at (λ z. bytes_of 4 (of_z w32 z)) 4
unfolding signed_at
signed_form = told (number_form 4) (to_z w32) (of_z w32) (λ s i. refl) (λ z. refl) (λ z h. (Fits-of_z {w = w32} {z = z} (record { sfits = h })).fits) (λ z h. to_z-of_z {w = w32} {z = z} (record { sfits = h }))

-- a value by its bits
pub value_form : Form (λ x. T (fits binary64 x)) (λ s i. of_bits binary64 (le 8 s i)) (λ x. bytes_of 8 (to_bits binary64 x)) 8
value_form = told (number_form 8) (of_bits binary64) (to_bits binary64) (λ s i. refl) (λ x. refl) (to_bits-lt binary64) (of_bits-to_bits binary64)

mark_back : (m : Bool) → not (eqb (flag m) 0) ≡ m
mark_back true = refl
mark_back false = refl

mark_small : (m : Bool) → flag m < 256 ^ 4
mark_small true = omega arith
mark_small false = omega arith

pub mark_form : Form (λ m. Unit {0}) (λ s i. not (eqb (le 4 s i) 0)) (λ m. bytes_of 4 (flag m)) 4
mark_form = told (number_form 4) (λ n. not (eqb n 0)) flag (λ s i. refl) (λ m. refl) (λ m _. mark_small m) (λ m _. mark_back m)

-- ---- an exponent, a prefix, a factor

pub record ExponentFits (e : Exponent) : Type 0 where
  pub num : mag e.num < 2147483648
  pub den : e.den < 4294967296

pub exponent_form : Form ExponentFits exponent_at exponent_bytes 8
unfolding exponent_at exponent_bytes
exponent_form = told (then signed_form (number_form 4)) (λ x. record { num = x.0; den = x.1 }) (λ e. (e.num, e.den)) (λ s i. refl) (λ e. refl) (λ e h. (h.num, h.den)) (λ e h. refl)

pub record PrefixFits (p : Prefix) : Type 0 where
  pub number : mag (prefix_number p) < 2147483648

kind_small : (p : Prefix) → prefix_kind p < 256 ^ 4
kind_small (Metric n) = omega arith
kind_small (Binary n) = omega arith

prefix_back : (p : Prefix) → prefix_of (prefix_kind p) (prefix_number p) ≡ p
unfolding prefix_of
prefix_back (Metric n) = refl
prefix_back (Binary n) = refl

pub prefix_form : Form PrefixFits prefix_at prefix_bytes 8
unfolding prefix_at prefix_bytes
prefix_form = told (then (number_form 4) signed_form) (λ x. prefix_of x.0 x.1) (λ p. (prefix_kind p, prefix_number p)) (λ s i. refl) (λ p. refl) (λ p h. (kind_small p, h.number)) (λ p _. prefix_back p)

pub record FactorFits (f : Factor) : Type 0 where
  pub row : f.row < 4294967296
  pub prefix : PrefixFits f.prefix
  pub exponent : ExponentFits f.exponent

pub factor_form : Form FactorFits factor_at factor_bytes 20
unfolding factor_at factor_bytes
factor_form = told (then (number_form 4) (then prefix_form exponent_form)) (λ x. record { row = x.0; prefix = x.1.0; exponent = x.1.1 }) (λ f. (f.row, (f.prefix, f.exponent)))
    (λ s i. simp add_assoc) (λ f. refl) (λ f h. (h.row, (h.prefix, h.exponent))) (λ f h. refl)

-- what stands past the end
pub none_fits : FactorFits no_factor
none_fits = record { row = omega arith; prefix = record { number = omega arith }; exponent = record { num = omega arith; den = omega arith } }

-- ---- a list, a quantity, a candidate

abbrev pub ListFits : Factors → Type 0
ListFits l = Holding FactorFits no_factor 16 l.len l.at

pub list_form : Form ListFits list_at list_bytes 324
unfolding list_at list_bytes
list_form = told (counted factor_form no_factor 16 (number_form 4) (λ n. n) none_fits) (λ x. record { at = x.1; len = x.0 }) (λ l. (l.len, l.at))
    (λ s i. refl) (λ l. refl) (λ l h. (omega (arith, h.count, h.room), h)) (λ l h. refl)

pub record QuantityFits (q : Quantity) : Type 0 where
  pub value : T (fits binary64 q.value)
  pub unit : ListFits q.unit

pub quantity_form : Form QuantityFits quantity_at quantity_bytes 336
unfolding quantity_at quantity_bytes
quantity_form = told (then value_form (then mark_form list_form)) (λ x. record { unit = x.1.1; value = x.0; mark = x.1.0 }) (λ q. (q.value, (q.mark, q.unit)))
    (λ s i. simp add_assoc) (λ q. refl) (λ q h. (h.value, (tt, h.unit))) (λ q h. refl)

pub record CandidateFits (c : Candidate) : Type 0 where
  pub rank : c.rank < 65536
  pub unit : ListFits c.unit

pub candidate_form : Form CandidateFits candidate_at candidate_bytes 328
unfolding candidate_at candidate_bytes
candidate_form = told (then (number_form 2) (then (number_form 2) list_form)) (λ x. record { unit = x.1.1; rank = x.0 }) (λ c. (c.rank, (0, c.unit)))
    (λ s i. simp add_assoc) (λ c. refl) (λ c h. (h.rank, (omega arith, h.unit))) (λ c h. refl)

-- ---- a row

-- a base row has no factor
abbrev pub KindFits : Kind → Type 0
KindFits Base = Unit {0}
KindFits (Derived x) = T (fits binary64 x)

pub record RowFits (r : Row) : Type 0 where
  pub rank : r.rank < 65536
  pub kind : KindFits r.kind
  pub def : Holding FactorFits no_factor 8 r.len r.def

factor-fits : (k : Kind) → KindFits k → (kind_number k < 256 ^ 2) × T (fits binary64 (kind_factor k))
factor-fits Base h = (omega arith, bits_fit 0)
factor-fits (Derived x) h = (omega arith, h)

kind_back : (k : Kind) → kind_of (kind_number k) (kind_factor k) ≡ k
unfolding kind_of
kind_back Base = refl
kind_back (Derived x) = refl

pub row_form : Form RowFits row_at row_bytes 176
unfolding row_at row_bytes
row_form =
    -- the rank, the kind, the definition's length, the factor
    let head = then (number_form 2) (then (number_form 2) (then (number_form 4) value_form)) in
    told (counted factor_form no_factor 8 head (λ h. h.1.1.0) none_fits)
    (λ x. record { def = x.1; len = x.0.1.1.0; rank = x.0.0; kind = kind_of x.0.1.0 x.0.1.1.1 })
    (λ r. ((r.rank, (kind_number r.kind, (r.len, kind_factor r.kind))), r.def))
    (λ s i. simp add_assoc) (λ r. simp append_assoc)
    (λ r h. let k = factor-fits r.kind h.kind in ((h.rank, (k.0, (omega (arith, h.def.count, h.def.room), k.1))), h.def))
    (λ r h. ap (λ k. record { def = r.def; len = r.len; rank = r.rank; kind = k }) (kind_back r.kind))
