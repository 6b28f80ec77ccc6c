-- What cannot be read is refused by the ordinary rules, at its own place.
use mathlib.Core.Path.{◌≡◌, refl, sym, ap, ◌∙◌}
use mathlib.Core.Bool.{Bool, true, false, ◌||◌}
use mathlib.Core.List.{List, []}
use Prim.Native.Nat.{ℕ, zero, suc, ◌+◌, ◌*◌, ◌/◌, ◌%◌, ◌≤◌, ◌<◌}
use native.Mathlib.Nat.{div-add-mod, lt_of_mul-lt-mul_left}
use native.Mathlib.Omega.{arith}
use borrow.Author.Tests.{leb-true, leb-false, lt-ltb, eqb-true, ne_eqb}
use lib.Dec.{leb, eqb}
use lib.IntN.{ℤ}
use lib.Ieee.{of_bits}
use lib.ListN.{length}
use Rattle.exponents.specs.Outcome.{SHAPE, TABLE, Err, unless}
use Rattle.exponents.specs.Fractions.{beyond, faulty}
use Rattle.units.specs.Prefixes.{prefix_fault, prefix_factor}
use Rattle.units.specs.declared.Factors.{Factors}
use Rattle.units.specs.declared.Rows.{Rows}
use Rattle.units.specs.Lists.{some, factor_fault, checked}
use Rattle.tables.specs.Rows.{Facts, def_of, kind_fault, table_fault, stopped, admit}
use Rattle.exponents.specs.Words.{pick}
use Rattle.wire.specs.Records.{prefix_of, prefix_at, factor_at, list_at, kind_of, row_at}
use Rattle.wire.specs.Bytes.{le, run_at}
use Rattle.wire.specs.Arguments.{exponent_from, prefix_from, list_from, quantity_from, many_in, table_from, candidates_from}
use Rattle.promises.proofs.Contents.{list_factors, row_factors}

-- ---- prefixes and lists

-- a prefix of no kind
pub kind_fault_lem : (k : ℕ) (n : ℤ) → 1 < k → prefix_fault (prefix_of k n) ≡ true
unfolding prefix_of
kind_fault_lem k n h = simp (ne_eqb k 0 (λ e. omega arith), ne_eqb k 1 (λ e. omega arith))

pub prefix_kind_refused : (s : List ℕ) (i : ℕ) → 1 < le 4 s i → prefix_factor (prefix_at s i) ≡ Err SHAPE
unfolding prefix_at prefix_factor unless
prefix_kind_refused s i h = rw (kind_fault_lem (le 4 s i) _ h)

pub factor_kind_fault : (s : List ℕ) (i : ℕ) → 1 < le 4 s (i + 4) → factor_fault (factor_at s i) ≡ true
unfolding factor_fault factor_at prefix_at
factor_kind_fault s i h = rw (kind_fault_lem (le 4 s (i + 4)) _ h)

-- a list of over 16 factors
long_refused : (rows : ℕ) (l : Factors) → 16 < l.len → checked rows l ≡ Err SHAPE
unfolding checked unless
long_refused rows l h = rw (lt-ltb 16 l.len h)

pub list_len_refused : (rows : ℕ) (s : List ℕ) (i : ℕ) → 16 < le 4 s i → checked rows (list_at s i) ≡ Err SHAPE
unfolding list_at
list_len_refused rows s i h = long_refused rows (list_at s i) h

or_true : (b : Bool) → (b || true) ≡ true
or_true true = refl
or_true false = refl

some-run : {A : Type 0} (fault : A → Bool) (read : List ℕ → ℕ → A) (size n j : ℕ) (s : List ℕ) (i : ℕ) → j < n → fault (read s (i + j * size)) ≡ true → some fault (run_at read size n s i) ≡ true
unfolding some run_at
some-run fault read size zero j s i h e = absurd (omega arith)
some-run fault read size (suc n) zero s i h e =
    let k : i + 0 * size ≡ i = omega arith in
    rw (ap (λ a. fault (read s a)) (sym k) ∙ e)
some-run fault read size (suc n) (suc j) s i h e =
    let k : i + size + j * size ≡ i + suc j * size = omega arith in
    rw (some-run fault read size n j s (i + size) (omega arith) (ap (λ a. fault (read s a)) k ∙ e), or_true)

-- a list with a prefix of no kind, at its factor j
pub list_kind_refused : (rows : ℕ) (s : List ℕ) (i j : ℕ) → j < le 4 s i → 1 < le 4 s (i + 4 + j * 20 + 4) → checked rows (list_at s i) ≡ Err SHAPE
unfolding checked unless
list_kind_refused rows s i j h k = go (leb (le 4 s i) 16) refl
  where
    go : (t : Bool) → leb (le 4 s i) 16 ≡ t → checked rows (list_at s i) ≡ Err SHAPE
    go true e = rw (list_factors s i (leb-true (le 4 s i) 16 e), some-run factor_fault factor_at 20 (le 4 s i) j s (i + 4) h (factor_kind_fault s (i + 4 + j * 20) k), or_true)
    go false e = list_len_refused rows s i (leb-false (le 4 s i) 16 e)

-- ---- rows

-- a row of no kind is derived by zero
pub row_kind_fault : (ks : List Facts) (s : List ℕ) (i : ℕ) → 1 < le 2 s (i + 2) → table_fault ks (row_at s i) ≡ true
unfolding table_fault row_at kind_of kind_fault of_bits
row_kind_fault ks s i h = simp (ne_eqb (le 2 s (i + 2)) 0 (λ e. omega arith), ne_eqb (le 2 s (i + 2)) 1 (λ e. omega arith), or_true)

-- a definition of over 8 factors
pub row_len_fault : (ks : List Facts) (s : List ℕ) (i : ℕ) → 8 < le 4 s (i + 4) → table_fault ks (row_at s i) ≡ true
unfolding table_fault row_at
row_len_fault ks s i h = simp (lt-ltb 8 (le 4 s (i + 4)) h, or_true)

-- a definition with a prefix of no kind, at its factor j
pub row_prefix_fault : (s : List ℕ) (i j : ℕ) → j < le 4 s (i + 4) → le 4 s (i + 4) ≤ 8 → 1 < le 4 s (i + 16 + j * 20 + 4) → some factor_fault (def_of (row_at s i)) ≡ true
row_prefix_fault s i j h q k = rw (row_factors s i q) (some-run factor_fault factor_at 20 (le 4 s (i + 4)) j s (i + 16) h (factor_kind_fault s (i + 16 + j * 20) k))

-- ---- arguments of the wrong length

module _ (s : List ℕ) where
  pub exponent_length_fault : (length s ≡ 8 → ⊥) → faulty (exponent_from s) ≡ true
  unfolding exponent_from faulty beyond
  exponent_length_fault h = rw (ne_eqb (length s) 8 h)

  pub prefix_length_refused : (length s ≡ 8 → ⊥) → prefix_factor (prefix_from s) ≡ Err SHAPE
  unfolding prefix_from prefix_factor unless
  prefix_length_refused h = rw (ne_eqb (length s) 8 h)

  pub list_length_refused : (rows : ℕ) → (length s ≡ 324 → ⊥) → checked rows (list_from s) ≡ Err SHAPE
  unfolding list_from
  list_length_refused rows h = rw (ne_eqb (length s) 324 h) (long_refused rows _ (omega arith))

  pub quantity_length_refused : (rows : ℕ) → (length s ≡ 336 → ⊥) → checked rows (quantity_from s).unit ≡ Err SHAPE
  unfolding quantity_from
  quantity_length_refused rows h = rw (ne_eqb (length s) 336 h) (long_refused rows _ (omega arith))

-- ---- runs of no whole number of records, or of too many

module _ (size most n : ℕ) where
  part-over : (n % size ≡ 0 → ⊥) → most < many_in size most n
  unfolding many_in
  part-over h = rw (ne_eqb (n % size) 0 h) (omega arith)

  many_over : most * size < n → most < many_in size most n
  unfolding many_in
  many_over h = go (eqb (n % size) 0) refl
    where
      go : (t : Bool) → eqb (n % size) 0 ≡ t → most < pick t (n / size) (most + 1)
      go true e = lt_of_mul-lt-mul_left size (omega (arith, div-add-mod n size, eqb-true (n % size) 0 e))
      go false e = omega arith

over_refused : (r : Rows) → 128 < r.len → admit r ≡ stopped TABLE []
unfolding admit
over_refused r h = rw (lt-ltb 128 r.len h)

module _ (s : List ℕ) where
  pub table-part_refused : (length s % 176 ≡ 0 → ⊥) → admit (table_from s) ≡ stopped TABLE []
  unfolding table_from
  table-part_refused h = over_refused _ (part-over 176 128 (length s) h)

  pub table_long_refused : 128 * 176 < length s → admit (table_from s) ≡ stopped TABLE []
  unfolding table_from
  table_long_refused h = over_refused _ (many_over 176 128 (length s) h)

  pub candidates_part-over : (length s % 328 ≡ 0 → ⊥) → 32 < (candidates_from s).len
  unfolding candidates_from
  candidates_part-over h = part-over 328 32 (length s) h

  pub candidates_long_over : 32 * 328 < length s → 32 < (candidates_from s).len
  unfolding candidates_from
  candidates_long_over h = many_over 328 32 (length s) h
