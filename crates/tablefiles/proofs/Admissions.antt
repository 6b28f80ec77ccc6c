-- What code holds of an admission tells the table's refusal, and how many rows stand before the first fault.
use mathlib.Core.Path.{◌≡◌, refl, ap, ◌∙◌}
use mathlib.Core.Bool.{Bool, true, false}
use mathlib.Core.List.{List, []}
use Prim.Native.Nat.{ℕ, ◌≤◌}
use native.Mathlib.Omega.{arith}
use borrow.Author.Tests.{le-ltb, ltb-false}
use lib.Dec.{ltb}
use lib.ListN.{length, replicate, length-replicate}
use Rattle.std.specs.Prelude.{Result}
use Rattle.exponents.specs.Words.{pick, All}
use Rattle.exponents.specs.Outcome.{TABLE, Ok, Err, apply}
use Rattle.exponents.proofs.Each.{all_imp}
use Rattle.units.specs.declared.Row.{Row}
use Rattle.units.specs.declared.Rows.{Rows}
use Rattle.lent.specs.Lent.{no_row, lent_rows_lem}
use Rattle.lent.proofs.Laws.{over_back}
use Rattle.tables.specs.declared.Slot.{Slot}
use Rattle.tables.specs.declared.Admitted.{Admitted}
use Rattle.tables.specs.declared.Rejected.{Rejected}
use Rattle.tables.specs.Rows.{Facts, Admission, admitted, stopped, admit, known, table, rows_of, base_rows}
use Rattle.tables.specs.Held.{admitted_of}
use Rattle.beginnings.specs.Beginnings.{admitting, before}
use Rattle.filelaws.proofs.Admitted.{admitted_all}

-- ---- lent rows: a slice of at most 128 rows is the table's rows

pub rows_back : (rs : List Row) → length rs ≤ 128 → rows_of (lent_rows_lem rs) ≡ rs
unfolding lent_rows_lem
rows_back rs h = over_back rs (replicate 128 no_row) (omega (arith, length-replicate {A = Row} 128 no_row))

pub rows-length : (rs : List Row) → (lent_rows_lem rs).len ≡ length rs
unfolding lent_rows_lem
rows-length rs = refl

-- at most 128 rows are admitted from the first on
pub admit_is : (rs : List Row) → length rs ≤ 128 → admit (lent_rows_lem rs) ≡ admitting rs
unfolding admit
admit_is rs h =
    let n : (lent_rows_lem rs).len ≤ 128 = omega (arith, rows-length rs) in
    rw (le-ltb 128 (lent_rows_lem rs).len n, rows_back rs h)

-- ---- what code holds of an admission

admitted_on : (ss : List Slot) (a : Admission) (t : Admitted) → admitted_of ss a ≡ Ok t → (ks : List Facts) × (a ≡ admitted ks)
admitted_on ss (admitted ks) t e = (ks, refl)
admitted_on ss (stopped r ks) t e = let z : ◌≡◌ {A = ℕ} 0 1 = cc in absurd (omega arith)

stopped_on : (ss : List Slot) (a : Admission) (x : Rejected) → admitted_of ss a ≡ Err x → known a ≡ Err x.refusal
stopped_on ss (admitted ks) x e = let z : ◌≡◌ {A = ℕ} 0 1 = cc in absurd (omega arith)
stopped_on ss (stopped r ks) x e =
    let z : record { refusal = r; len = length ks } ≡ x = cc in
    ap (λ (y : Rejected). Err y.refusal) z

-- how many rows it says that there are: all of them, or those before the fault
abbrev pub held_rows : Result Admitted Rejected → ℕ
held_rows (Ok t) = t.len
held_rows (Err x) = x.len

held_before : (ss : List Slot) (a : Admission) → held_rows (admitted_of ss a) ≡ before a
held_before ss (admitted ks) = refl
held_before ss (stopped r ks) = refl

module _ (rows : Rows) where
  pub all_admitted : (t : Admitted) → admitted_of (base_rows rows) (admit rows) ≡ Ok t → (ks : List Facts) × (admit rows ≡ admitted ks)
  all_admitted t e = admitted_on (base_rows rows) (admit rows) t e

  -- what is made of an admitted table
  pub table_keeps : {A : Type 0} (a : A) (t : Admitted) → admitted_of (base_rows rows) (admit rows) ≡ Ok t → apply (λ ks. a) (table rows) ≡ Ok a
  table_keeps a t e = let k = all_admitted t e in ap (λ o. apply (λ ks. a) (known o)) k.1

  pub table_stops : (x : Rejected) → admitted_of (base_rows rows) (admit rows) ≡ Err x → table rows ≡ Err x.refusal
  table_stops x e = stopped_on (base_rows rows) (admit rows) x e

  pub rows_before : (t : Result Admitted Rejected) → t ≡ admitted_of (base_rows rows) (admit rows) → held_rows t ≡ before (admit rows)
  rows_before t e = ap held_rows e ∙ held_before (base_rows rows) (admit rows)

-- ---- an admitted table has at most 128 rows, each of at most 8 factors

pub not_over : (t : Rows) (ks : List Facts) → table t ≡ Ok ks → t.len ≤ 128
unfolding admit
not_over t ks e = go (ltb 128 t.len) refl _ e
  where
    go : (b : Bool) → ltb 128 t.len ≡ b → (a : Admission) → known (pick b (stopped TABLE []) a) ≡ Ok ks → t.len ≤ 128
    go true p a e = absurd (let z : ◌≡◌ {A = ℕ} 0 1 = cc in omega arith)
    go false p a e = ltb-false 128 t.len p

pub rows_short : (t : Rows) (ks : List Facts) → table t ≡ Ok ks → (t.len ≤ 128) × All (λ r. r.len ≤ 8) (rows_of t)
rows_short t ks e = (not_over t ks e, all_imp (rows_of t) (λ r k. k.few) (admitted_all t ks e))

pub few_rows : (t : Rows) (a : Admitted) → admitted_of (base_rows t) (admit t) ≡ Ok a → (t.len ≤ 128) × All (λ r. r.len ≤ 8) (rows_of t)
few_rows t a e = let k = all_admitted t a e in rows_short t k.0 (ap known k.1)
