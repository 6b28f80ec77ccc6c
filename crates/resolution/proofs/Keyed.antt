-- An admitted table has few rows, each with its key: what resolving a list asks of it.
use mathlib.Core.Path.{◌≡◌, refl, ap}
use mathlib.Core.Bool.{Bool, true, false}
use mathlib.Core.List.{List, []}
use Prim.Native.Nat.{ℕ, ◌≤◌}
use native.Mathlib.Omega.{arith}
use lib.Dec.{ltb}
use lib.ListN.{length, length-take}
use borrow.Author.Tests.{ltb-false}
use Rattle.exponents.specs.Outcome.{Ok, TABLE}
use Rattle.units.specs.declared.Row.{Row}
use Rattle.units.specs.declared.Rows.{Rows}
use Rattle.tables.specs.declared.Slot.{Slot}
use Rattle.exponents.specs.Words.{pick}
use Rattle.tables.specs.Rows.{Facts, slots, Admission, admitted, stopped, admit_from, rows_of, admit, known, table}
use Rattle.resolution.specs.Held.{Keyed}
use Rattle.tables.proofs.Filled.{admit-rows, table-length, row_known}
use Rattle.tables.proofs.Terms.{nil_row}

pub admitted_keyed : (ss : List Slot) (rs : List Row) (ks : List Facts) → admit_from ss [] rs ≡ admitted ks → length rs ≤ 128 → Keyed ks
admitted_keyed ss rs ks h few = record {
  few = omega (arith, table-length ss rs ks h);
  keys = λ i p. (row_known ss rs ks h nil_row i (omega (arith, table-length ss rs ks h))).key;
}

few_rows : (r : Rows) (ks : List Facts) → admit r ≡ admitted ks → length (rows_of r) ≤ 128
unfolding admit
few_rows r ks e = let n = ltb-false 128 r.len (go (ltb 128 r.len) _ e) in simp length-take (omega arith)
  where
    go : (t : Bool) (a : Admission) → pick t (stopped TABLE []) a ≡ admitted ks → t ≡ false
    go true a e = absurd (let z : ◌≡◌ {A = ℕ} 0 1 = cc in omega arith)
    go false a e = refl

-- a table that is known is admitted
pub admits : (t : Rows) (ks : List Facts) → table t ≡ Ok ks → admit t ≡ admitted ks
admits t ks = go (admit t)
  where
    go : (a : Admission) → known a ≡ Ok ks → a ≡ admitted ks
    go (admitted js) e = let p : js ≡ ks = cc in ap admitted p
    go (stopped r js) e = absurd (let z : ◌≡◌ {A = ℕ} 0 1 = cc in omega arith)

pub admit_keyed : (r : Rows) (ks : List Facts) → admit r ≡ admitted ks → Keyed ks
admit_keyed r ks e = admitted_keyed (slots (rows_of r)) (rows_of r) ks (admit-rows r ks e) (few_rows r ks e)
