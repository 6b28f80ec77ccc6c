-- Parts of no fixed size written one behind the other: where the next begins, and what stands at the end.
use mathlib.Core.Path.{◌≡◌, refl, sym, ap, subst, ◌∙◌}
use mathlib.Core.List.{List, [], ◌++◌}
use Prim.Native.Nat.{ℕ, ◌+◌, ◌≤◌, ◌<◌}
use native.Mathlib.Nat.{add_assoc}
use native.Mathlib.Numerals.{add-one}
use native.Mathlib.Omega.{arith}
use lib.ListN.{length, get_or, drop, length-append, drop_of_length-le}
use lib.Ieee.{Float, binary64, to_bits}
use lib.IntN.{ℤ}
use lib.Seq.{sets, drop-cons, get_or-take, length-take-le}
use Rattle.units.specs.declared.Factor.{Factor}
use Rattle.units.specs.declared.Kind.{Kind}
use Rattle.units.specs.declared.Kind.TheVariants.{Base, Derived}
use Rattle.units.specs.declared.Row.{Row}
use Rattle.units.specs.declared.Rows.{Rows}
use Rattle.tables.specs.Rows.{def_of, rows_of}
use Rattle.exponents.specs.Words.{All}
use Rattle.exponents.proofs.Each.{all_at}
use Rattle.wire.specs.Bytes.{bytes_of, run_bytes}
use Rattle.wire.specs.Records.{prefix_kind, prefix_number}
use Rattle.wire.proofs.Digits.{sets_append, length-bytes_of}
use Rattle.groups.specs.Numbers.{number_bytes, folded}
use Rattle.files.specs.Records.{factor_file, kind_file, row_file, table_file}
use Rattle.filewrites.specs.Held.{five}

pub five_length : (a b c d e : ℕ) → length (five a b c d e) ≡ length (number_bytes a) + (length (number_bytes b) + (length (number_bytes c) + (length (number_bytes d) + length (number_bytes e))))
unfolding five
five_length a b c d e = simp length-append

pub five_written : (l l₁ l₂ l₃ l₄ l₅ : List ℕ) (i i₁ i₂ i₃ i₄ a b c d e : ℕ)
    → l₁ ≡ sets l i (number_bytes a) → i₁ ≡ i + length (number_bytes a) → l₂ ≡ sets l₁ i₁ (number_bytes b) → i₂ ≡ i₁ + length (number_bytes b)
    → l₃ ≡ sets l₂ i₂ (number_bytes c) → i₃ ≡ i₂ + length (number_bytes c) → l₄ ≡ sets l₃ i₃ (number_bytes d) → i₄ ≡ i₃ + length (number_bytes d)
    → l₅ ≡ sets l₄ i₄ (number_bytes e) → l₅ ≡ sets l i (five a b c d e)
unfolding five
five_written l l₁ l₂ l₃ l₄ l₅ i i₁ i₂ i₃ i₄ a b c d e p₁ q₁ p₂ q₂ p₃ q₃ p₄ q₄ p₅ = rw (p₅, p₄, p₃, p₂, p₁, q₄, q₃, q₂, q₁) (simp (← sets_append, add_assoc))

pub factor-five : (f : Factor) → factor_file f ≡ five f.row (prefix_kind f.prefix) (folded (prefix_number f.prefix)) (folded f.exponent.num) f.exponent.den
unfolding factor_file five
factor-five f = refl

-- ---- runs

run_cons : {A : Type 0} (bytes : A → List ℕ) (l : List A) (d : A) (i : ℕ) → i < length l → run_bytes bytes (drop i l) ≡ bytes (get_or l i d) ++ run_bytes bytes (drop (i + 1) l)
unfolding run_bytes
run_cons bytes l d i h = rw (add-one i, drop-cons l i d h)

run_none : {A : Type 0} (bytes : A → List ℕ) (l : List A) (i : ℕ) → length l ≤ i → run_bytes bytes (drop i l) ≡ []
unfolding run_bytes
run_none bytes l i h = rw (drop_of_length-le l {i = i} h)

-- so many bytes before place i of a run
module _ {A : Type 0} (bytes : A → List ℕ) (l : List A) where
  pub length_on : (d : A) (i n m w : ℕ) → i < length l → n + length (run_bytes bytes (drop i l)) ≡ w → m ≡ length (bytes (get_or l i d)) → n + m + length (run_bytes bytes (drop (i + 1) l)) ≡ w
  length_on d i n m w h e g = omega (arith, ap length (run_cons bytes l d i h), length-append (bytes (get_or l i d)) (run_bytes bytes (drop (i + 1) l)))

  pub length_done : (i n w : ℕ) → length l ≤ i → n + length (run_bytes bytes (drop i l)) ≡ w → n ≡ w
  length_done i n w h e = omega (arith, ap length (run_none bytes l i h))

  -- stored from place p on
  pub record Storing (out₀ : List ℕ) (at : ℕ) (out : List ℕ) (p i : ℕ) : Type 0 where
    pub long : length out ≡ length out₀
    pub place : p + length (run_bytes bytes (drop i l)) ≡ at + length (run_bytes bytes l)
    pub stored : sets out p (run_bytes bytes (drop i l)) ≡ sets out₀ at (run_bytes bytes l)

  pub storing_room : (d : A) (out₀ : List ℕ) (at : ℕ) (out : List ℕ) (p i : ℕ) → i < length l → Storing out₀ at out p i → at + length (run_bytes bytes l) ≤ length out₀ → p + length (bytes (get_or l i d)) ≤ length out
  storing_room d out₀ at out p i h z r = omega (arith, z.long, z.place, ap length (run_cons bytes l d i h), length-append (bytes (get_or l i d)) (run_bytes bytes (drop (i + 1) l)))

  pub storing_on : (d : A) (out₀ : List ℕ) (at : ℕ) (out : List ℕ) (p i : ℕ) (out' : List ℕ) (q : ℕ) → i < length l → Storing out₀ at out p i
      → out' ≡ sets out p (bytes (get_or l i d)) → length out' ≡ length out → q ≡ p + length (bytes (get_or l i d)) → Storing out₀ at out' q (i + 1)
  storing_on d out₀ at out p i out' q h z e k g = record {
    long = k ∙ z.long;
    place = omega (arith, z.place, ap length (run_cons bytes l d i h), length-append (bytes (get_or l i d)) (run_bytes bytes (drop (i + 1) l)));
    stored = rw (e, g) (sets_append (bytes (get_or l i d)) (run_bytes bytes (drop (i + 1) l)) out p ∙ ap (sets out p) (sym (run_cons bytes l d i h)) ∙ z.stored);
  }

  pub storing_end : (out₀ : List ℕ) (at : ℕ) (out : List ℕ) (p i : ℕ) → length l ≤ i → Storing out₀ at out p i → (out ≡ sets out₀ at (run_bytes bytes l)) × (length out ≡ length out₀) × (p ≡ at + length (run_bytes bytes l))
  storing_end out₀ at out p i h z = (sym (ap (sets out p) (run_none bytes l i h)) ∙ z.stored, z.long, omega (arith, z.place, ap length (run_none bytes l i h)))

-- ---- from the parts that code works out

pub five_factor : (f : Factor) (k n m : ℕ) (x y : ℤ) → k ≡ prefix_kind f.prefix → x ≡ prefix_number f.prefix → n ≡ folded x → y ≡ f.exponent.num → m ≡ folded y
    → five f.row k n m f.exponent.den ≡ factor_file f
five_factor f k n m x y a b c d e = rw (a, c, b, e, d) (sym (factor-five f))

-- ---- a row

pub kind_length : (x : Float) (r : Row) → length (kind_file (Derived x) r) ≡ length (number_bytes 1) + (8 + (length (number_bytes r.len) + length (run_bytes factor_file (def_of r))))
unfolding kind_file
kind_length x r = simp (length-append, length-bytes_of)

pub row_length : (r : Row) → length (row_file r) ≡ length (number_bytes r.rank) + length (kind_file r.kind r)
unfolding row_file
row_length r = length-append (number_bytes r.rank) (kind_file r.kind r)

pub row_written : (l l₁ l₂ : List ℕ) (i i₁ : ℕ) (r : Row) (k : Kind) → r.kind ≡ k → l₁ ≡ sets l i (number_bytes r.rank) → i₁ ≡ i + length (number_bytes r.rank) → l₂ ≡ sets l₁ i₁ (kind_file k r) → l₂ ≡ sets l i (row_file r)
unfolding row_file
row_written l l₁ l₂ i i₁ r k e p q u = rw (u, p, q) (sets_append (number_bytes r.rank) (kind_file k r) l i ∙ ap (λ x. sets l i (number_bytes r.rank ++ kind_file x r)) (sym e))

pub base_bytes : (r : Row) → kind_file Base r ≡ number_bytes 0
unfolding kind_file
base_bytes r = refl

pub derived_written : (l l₁ l₂ l₃ l₄ : List ℕ) (i i₁ i₂ b' : ℕ) (x : Float) (r : Row) → l₁ ≡ sets l i (number_bytes 1) → i₁ ≡ i + length (number_bytes 1) → l₂ ≡ sets l₁ i₁ (bytes_of 8 b') → b' ≡ to_bits binary64 x
    → l₃ ≡ sets l₂ (i₁ + 8) (number_bytes r.len) → i₂ ≡ i₁ + 8 + length (number_bytes r.len) → l₄ ≡ sets l₃ i₂ (run_bytes factor_file (def_of r)) → l₄ ≡ sets l i (kind_file (Derived x) r)
unfolding kind_file
derived_written l l₁ l₂ l₃ l₄ i i₁ i₂ b' x r a b c g d e f =
    rw (f, d, c, g, a, e, b) (simp (← sets_append, length-bytes_of, add_assoc))

-- ---- a table

pub rows_long : (t : Rows) → length t.at ≡ 128 → t.len ≤ 128 → length (rows_of t) ≡ t.len
rows_long t e h = length-take-le t.len t.at (omega arith)

pub rows_at : (t : Rows) (i : ℕ) (d : Row) → i < t.len → get_or t.at i d ≡ get_or (rows_of t) i d
rows_at t i d h = sym (get_or-take t.len t.at i d h)

-- a row of the table, and as its place holds it
pub row_few : (t : Rows) (i : ℕ) (d : Row) → i < length (rows_of t) → All (λ r. r.len ≤ 8) (rows_of t) → (get_or (rows_of t) i d).len ≤ 8
row_few t i d h a = all_at (λ r. r.len ≤ 8) (rows_of t) i d h a

pub row_short : (t : Rows) (i : ℕ) (d : Row) → i < t.len → length (rows_of t) ≡ t.len → All (λ r. r.len ≤ 8) (rows_of t) → (get_or t.at i d).len ≤ 8
row_short t i d h e a = subst (λ r. r.len ≤ 8) (sym (rows_at t i d h)) (row_few t i d (omega (arith, e)) a)

pub table_length : (t : Rows) → length (rows_of t) ≡ t.len → length (table_file (rows_of t)) ≡ length (number_bytes t.len) + length (run_bytes row_file (rows_of t))
unfolding table_file
table_length t e = length-append (number_bytes (length (rows_of t))) (run_bytes row_file (rows_of t)) ∙ ap (λ n. length (number_bytes n) + length (run_bytes row_file (rows_of t))) e

pub table_written : (t : Rows) (l l₁ l₂ : List ℕ) (p : ℕ) → length (rows_of t) ≡ t.len → l₁ ≡ sets l 0 (number_bytes t.len) → p ≡ 0 + length (number_bytes t.len) → l₂ ≡ sets l₁ p (run_bytes row_file (rows_of t))
    → l₂ ≡ sets l 0 (table_file (rows_of t))
unfolding table_file
table_written t l l₁ l₂ p e a b c =
    rw (c, a, b) (sets_append (number_bytes t.len) (run_bytes row_file (rows_of t)) l 0 ∙ ap (λ n. sets l 0 (number_bytes n ++ run_bytes row_file (rows_of t))) (sym e))
