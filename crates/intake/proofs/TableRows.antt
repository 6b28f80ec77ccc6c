-- The rows of a table in bytes, one after the other: row i stands at byte 176 i.
use mathlib.Core.Path.{◌≡◌, refl, sym, ap, ap₂, ◌∙◌, subst}
use mathlib.Core.Bool.{Bool, true, false}
use mathlib.Core.List.{List, [], ◌∷◌}
use Prim.Native.Nat.{ℕ, zero, suc, ◌+◌, ◌-◌, ◌*◌, ◌≤◌, ◌<◌}
use native.Mathlib.Omega.{arith}
use borrow.Author.Tests.{le-leb, eq-eqb, ne_eqb}
use lib.Dec.{leb, eqb}
use lib.IntN.{ℤ}
use lib.Ieee.{Float, binary64, of_bits}
use lib.ListN.{length, drop, replicate}
use lib.Seq.{take_at}
use Rattle.exponents.specs.Outcome.{TABLE}
use Rattle.units.specs.declared.Kind.TheVariants.{Base, Derived}
use Rattle.units.specs.declared.Row.{Row}
use Rattle.tables.specs.declared.Slot.{Slot}
use Rattle.std.specs.Prelude.{Result}
use Rattle.tables.specs.declared.Admitted.{Admitted}
use Rattle.tables.specs.declared.Rejected.{Rejected}
use Rattle.exponents.specs.Words.{pick}
use Rattle.tables.specs.Rows.{slotted, slots, rows_of, Admission, stopped, admit_from, admit}
use Rattle.tables.proofs.Admitting.{Tells, within, over}
use Rattle.wire.specs.Bytes.{le, run_at, pad_to, count_of}
use Rattle.wire.specs.Records.{kind_of, row_at}
use Rattle.lent.specs.Lent.{no_row}
use Rattle.wire.specs.Arguments.{many_in, table_from}
use Rattle.wire.proofs.Runs.{length_run_at, records_inside}

-- ---- a run of records, taken apart
module _ {A : Type 0} (read : List ℕ → ℕ → A) (size : ℕ) where
  pub run_here : (n : ℕ) (s : List ℕ) (at i : ℕ) → i < n → drop i (run_at read size n s at) ≡ read s (at + i * size) ∷ drop (i + 1) (run_at read size n s at)
  unfolding run_at
  run_here zero s at i h = absurd (omega arith)
  run_here (suc n) s at zero h =
      let e : at + 0 * size ≡ at = omega arith in
      ap (λ k. read s k ∷ run_at read size n s (at + size)) (sym e)
  run_here (suc n) s at (suc i) h =
      let e : at + size + i * size ≡ at + suc i * size = omega arith in
      let f : suc (i + 1) ≡ suc i + 1 = omega arith in
      run_here n s (at + size) i (omega arith) ∙ ap₂ (λ (k j : ℕ). read s k ∷ drop j (run_at read size (suc n) s at)) e f

-- ---- a table's rows
module _ (s : List ℕ) (n : ℕ) (is : n ≡ many_in 176 128 (length s)) where
  pub len_is : n ≡ (table_from s).len
  unfolding table_from
  len_is = is

  module _ (small : n ≤ 128) where
    all-counted : count_of 128 (many_in 176 128 (length s)) ≡ n
    unfolding count_of
    all-counted = ap (λ m. pick (leb m 128) m 0) (sym is) ∙ ap (λ t. pick t n 0) (le-leb n 128 small)

    pub rows_are : rows_of (table_from s) ≡ run_at row_at 176 n s 0
    unfolding table_from pad_to
    rows_are =
        let l = run_at row_at 176 (count_of 128 (many_in 176 128 (length s))) s 0 in
        take_at l (replicate (128 - length l) no_row) (many_in 176 128 (length s)) (length_run_at row_at 176 _ s 0 ∙ all-counted ∙ is)
        ∙ ap (λ m. run_at row_at 176 m s 0) all-counted

    pub row_inside : (i : ℕ) → i < n → i * 176 + 176 ≤ length s
    row_inside i h = records_inside 176 128 (length s) i (omega arith) (rw all-counted h)

    pub rows_inside : n * 176 ≤ length s
    rows_inside = go n refl
      where
        go : (m : ℕ) → m ≡ n → m * 176 ≤ length s
        go zero e = omega arith
        go (suc m) e = omega (arith, row_inside m (omega arith))

    -- what is told of the rows is told of the table
    pub whole : (r : Result Admitted Rejected) (nums : List ℤ) (dens : List ℕ) (scales : List Float) (ranks : List ℕ) (based : List Bool)
        → Tells (slots (run_at row_at 176 n s 0)) (admit_from (slots (run_at row_at 176 n s 0)) [] (run_at row_at 176 n s 0)) r nums dens scales ranks based
        → Tells (slots (rows_of (table_from s))) (admit (table_from s)) r nums dens scales ranks based
    whole r nums dens scales ranks based t =
        subst (λ (a : Admission). Tells (slots (rows_of (table_from s))) a r nums dens scales ranks based) (sym (within (table_from s) (subst (λ (m : ℕ). m ≤ 128) len_is small)))
        (subst (λ (rs : List Row). Tells (slots rs) (admit_from (slots rs) [] rs) r nums dens scales ranks based) (sym rows_are) t)

  pub too_many : 128 < n → admit (table_from s) ≡ stopped TABLE []
  too_many h = over (table_from s) (subst (λ (m : ℕ). 128 < m) len_is h)

module _ (s : List ℕ) where
  pub row_here : (n i : ℕ) → i < n → drop i (run_at row_at 176 n s 0) ≡ row_at s (i * 176) ∷ drop (i + 1) (run_at row_at 176 n s 0)
  row_here n i h = let e : 0 + i * 176 ≡ i * 176 = omega arith in run_here row_at 176 n s 0 i h ∙ ap (λ k. row_at s k ∷ drop (i + 1) (run_at row_at 176 n s 0)) e

  -- ---- the kind of the row at byte i, by its number: of a row that is not base the slots have nothing
  module _ (i : ℕ) where
    pub slot_base : le 2 s (i + 2) ≡ 0 → (row rank : ℕ) → rank ≡ le 2 s i → (l : List Slot) → slotted Base (record { row = row; rank = rank }) l ≡ slotted (row_at s i).kind (record { row = row; rank = (row_at s i).rank }) l
    unfolding row_at kind_of
    slot_base h row rank e l =
        ap₂ (λ (t : Bool) (n : ℕ). slotted (pick t Base (pick (eqb (le 2 s (i + 2)) 1) (Derived (of_bits binary64 (le 8 s (i + 8)))) (Derived (of_bits binary64 0)))) (record { row = row; rank = n }) l)
        (sym (eq-eqb (le 2 s (i + 2)) 0 h)) e

    pub slot_derived : (le 2 s (i + 2) ≡ 0 → ⊥) → (t : Slot) (l : List Slot) → slotted (row_at s i).kind t l ≡ l
    unfolding row_at kind_of slotted
    slot_derived h t l =
        ap (λ b. slotted (pick b Base (pick (eqb (le 2 s (i + 2)) 1) (Derived (of_bits binary64 (le 8 s (i + 8)))) (Derived (of_bits binary64 0)))) t l) (ne_eqb (le 2 s (i + 2)) 0 h)
        ∙ go (eqb (le 2 s (i + 2)) 1) (of_bits binary64 (le 8 s (i + 8)))
      where
        go : (b : Bool) (x : Float) → slotted (pick b (Derived x) (Derived (of_bits binary64 0))) t l ≡ l
        go true x = refl
        go false x = refl
