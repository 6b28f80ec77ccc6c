-- What can be kept of a file, as code finds it: the count, the whole rows, and of these those before the first that isn't admitted.
use mathlib.Core.Path.{◌≡◌, refl, sym, ap, ◌∙◌}
use mathlib.Core.Bool.{Bool, true, false}
use mathlib.Core.List.{List, []}
use Prim.Native.Nat.{ℕ, ◌-◌, ◌≤◌, min}
use native.Mathlib.Omega.{arith}
use borrow.Author.Tests.{leb-true, leb-false}
use lib.Dec.{leb}
use lib.ListN.{length, drop}
use Rattle.exponents.specs.Words.{pick}
use Rattle.exponents.specs.Outcome.{Ok, Err}
use Rattle.units.specs.declared.Row.{Row}
use Rattle.lent.specs.Lent.{lent_rows_lem}
use Rattle.tables.specs.declared.Admitted.{Admitted}
use Rattle.tables.specs.declared.Rejected.{Rejected}
use Rattle.tables.specs.Rows.{admit, base_rows}
use Rattle.tables.specs.Held.{admitted_of}
use Rattle.beginnings.specs.Beginnings.{admitting, before}
use Rattle.beginnings.proofs.Counted.{whole_before}
use Rattle.groups.specs.Taken.{nothing, taken}
use Rattle.groups.specs.Numbers.{up_to?}
use Rattle.files.specs.Records.{front}
use Rattle.filereads.specs.declared.Front.{Front}
use Rattle.filereads.specs.Held.{front_of}
use Rattle.filelaws.proofs.Beginnings.{front_bound, front_same}
use Rattle.tablefiles.specs.Calls.{least, kept_from, salvage_on, salvage}
use Rattle.tablefiles.specs.Held.{salvaged_of}
use Rattle.tablefiles.proofs.Admissions.{admit_is, all_admitted, rows_before}

pub least-left : (a b : ℕ) → least a b ≤ a
least-left a b = go (leb a b) refl
  where
    go : (t : Bool) → leb a b ≡ t → pick t a b ≤ a
    go true e = omega arith
    go false e = omega (arith, leb-false a b e)

pub least_right : (a b : ℕ) → least a b ≤ b
least_right a b = go (leb a b) refl
  where
    go : (t : Bool) → leb a b ≡ t → pick t a b ≤ b
    go true e = leb-true a b e
    go false e = omega arith

pub least-is_min : (a b : ℕ) → least a b ≡ min a b
least-is_min a b = go (leb a b) refl
  where
    go : (t : Bool) → leb a b ≡ t → pick t a b ≡ min a b
    go true e = omega (arith, leb-true a b e)
    go false e = omega (arith, leb-false a b e)

module _ (places : ℕ) (s : List ℕ) where
  pub no_kept : up_to? 4294967295 s ≡ nothing → record { rows = lent_rows_lem []; told = record { rows = (lent_rows_lem []).len; byte = 0 } } ≡ salvaged_of (salvage places s)
  unfolding salvage lent_rows_lem
  no_kept e = rw e

  module _ (n at : ℕ) (p : up_to? 4294967295 s ≡ taken n (drop at s)) (m : ℕ) (q : m ≡ min n (min places 128)) where
    found : salvage places s ≡ ((kept_from m (drop at s)).0, length s - length (kept_from m (drop at s)).1)
    unfolding salvage
    found = ap (salvage_on places (length s)) p ∙ ap (λ k. ((kept_from k (drop at s)).0, length s - length (kept_from k (drop at s)).1)) (least-is_min n (least places 128) ∙ ap (min n) (least-is_min places 128) ∙ sym q)

    -- what the code hands over
    handed : (x : Front) (y : List Row × List ℕ) → x ≡ front_of (length s) y → y ≡ kept_from m (drop at s) → record { rows = x.rows; told = record { rows = x.rows.len; byte = x.next } } ≡ salvaged_of (salvage places s)
    unfolding lent_rows_lem
    handed x y e k =
        ap (λ (z : Front). record { rows = z.rows; told = record { rows = z.rows.len; byte = z.next } }) e
        ∙ ap salvaged_of (ap (λ (z : List Row × List ℕ). (z.0, length s - length z.1)) k ∙ sym found)

    module _ (f : Front) (e : f ≡ front_of (length s) (front m (drop at s))) where
      own : admit f.rows ≡ admitting (front m (drop at s)).0
      own = ap (λ (x : Front). admit x.rows) e ∙ admit_is (front m (drop at s)).0 (omega (arith, front_bound m (drop at s)))

      -- all that are whole
      pub all_kept : (t : Admitted) → admitted_of (base_rows f.rows) (admit f.rows) ≡ Ok t → record { rows = f.rows; told = record { rows = f.rows.len; byte = f.next } } ≡ salvaged_of (salvage places s)
      unfolding kept_from
      all_kept t a =
          let k = all_admitted f.rows t a in
          let l = whole_before (front m (drop at s)).0 (record { known = k.0; is = sym own ∙ k.1 }) in
          handed f (front m (drop at s)) e (sym (ap (λ i. front i (drop at s)) l ∙ front_same m (drop at s)))

      -- those before the first that isn't admitted
      pub some_kept : (x : Rejected) → admitted_of (base_rows f.rows) (admit f.rows) ≡ Err x → (g : Front) → g ≡ front_of (length s) (front x.len (drop at s))
          → record { rows = g.rows; told = record { rows = g.rows.len; byte = g.next } } ≡ salvaged_of (salvage places s)
      unfolding kept_from
      some_kept x a g y = handed g (front x.len (drop at s)) y (ap (λ i. front i (drop at s)) (rows_before f.rows (Err x) (sym a) ∙ ap before own))
