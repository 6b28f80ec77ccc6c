-- Rows handed over as a table: it is admitted exactly if the rows are, from the first on.
use mathlib.Core.Path.{◌≡◌, refl, sym, ap, ◌∙◌}
use mathlib.Core.List.{List, [], ◌++◌}
use Prim.Native.Nat.{ℕ, ◌≤◌}
use native.Mathlib.Omega.{arith}
use lib.ListN.{length}
use Rattle.exponents.specs.Outcome.{Refusal, Ok, Err}
use Rattle.units.specs.declared.Row.{Row}
use Rattle.lent.specs.Lent.{lent_rows_lem}
use Rattle.tables.specs.Rows.{Facts, Admission, admitted, stopped, admit_from, known, table}
use Rattle.beginnings.specs.Beginnings.{admitting}
use Rattle.beginnings.proofs.Counted.{Whole}
use Rattle.beginnings.proofs.Later.{later_stopped}
use Rattle.tablefiles.proofs.Admissions.{admit_is}

pub known_given : (a : Admission) (ks : List Facts) → known a ≡ Ok ks → a ≡ admitted ks
known_given (admitted js) ks e = let z : js ≡ ks = cc in ap admitted z
known_given (stopped r js) ks e = absurd (let z : ◌≡◌ {A = ℕ} 0 1 = cc in omega arith)

pub known_refused : (a : Admission) (r : Refusal) → known a ≡ Err r → (js : List Facts) × (a ≡ stopped r js)
known_refused (admitted js) r e = absurd (let z : ◌≡◌ {A = ℕ} 0 1 = cc in omega arith)
known_refused (stopped w js) r e = let z : w ≡ r = cc in (js, ap (λ x. stopped x js) z)

pub none_whole : Whole []
unfolding admit_from
none_whole = record { known = []; is = refl }

-- so is each beginning of rows that are admitted
pub begin_whole : (rs qs : List Row) → Whole (rs ++ qs) → Whole rs
begin_whole rs qs w = go (admitting rs) refl
  where
    go : (a : Admission) → admitting rs ≡ a → Whole rs
    go (admitted ks) e = record { known = ks; is = e }
    go (stopped r ks) e = absurd (let p = sym (later_stopped rs qs r ks e).1 ∙ w.is in let z : ◌≡◌ {A = ℕ} 0 1 = cc in omega arith)

module _ (rs : List Row) (h : length rs ≤ 128) where
  pub table_is : table (lent_rows_lem rs) ≡ known (admitting rs)
  table_is = ap known (admit_is rs h)

  pub given_admitted : (ks : List Facts) → table (lent_rows_lem rs) ≡ Ok ks → admitting rs ≡ admitted ks
  given_admitted ks e = known_given (admitting rs) ks (sym table_is ∙ e)

  pub given_whole : (ks : List Facts) → table (lent_rows_lem rs) ≡ Ok ks → Whole rs
  given_whole ks e = record { known = ks; is = given_admitted ks e }

  pub whole_given : Whole rs → (ks : List Facts) × (table (lent_rows_lem rs) ≡ Ok ks)
  whole_given w = (w.known, table_is ∙ ap known w.is)
