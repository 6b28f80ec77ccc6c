-- How many rows stand before the first fault: no more than there are, and all of them exactly where the table is admitted.
use mathlib.Core.Path.{◌≡◌, refl, ◌∙◌}
use mathlib.Core.List.{List, [], ◌∷◌, ◌++◌}
use Prim.Native.Nat.{ℕ, suc, ◌+◌, ◌<◌, ◌≤◌}
use native.Mathlib.Omega.{arith}
use lib.ListN.{length, length-append}
use Rattle.exponents.specs.Outcome.{Refusal, Outcome, Ok, Err}
use Rattle.units.specs.declared.Row.{Row}
use Rattle.tables.specs.declared.Slot.{Slot}
use Rattle.tables.specs.Rows.{Facts, row_facts, Admission, admitted, stopped, admit_on, admit_from, slots}
use Rattle.beginnings.specs.Beginnings.{before, admitting}

-- an admission of n rows after m: all of them, or a row among them is the first fault
pub data Counts (m n : ℕ) : Admission → Type 0 where
  all : {ks : List Facts} → length ks ≡ m + n → Counts m n (admitted ks)
  part : {w : Refusal} {ks : List Facts} → m ≤ length ks → length ks < m + n → Counts m n (stopped w ks)

counts_on : (m n : ℕ) (o : Outcome Facts) (ks : List Facts) (next : Facts → Admission) → length ks ≡ m → ((k : Facts) → Counts (suc m) n (next k)) → Counts m (suc n) (admit_on o ks next)
counts_on m n (Err w) ks next e h = part {ks = ks} (omega arith) (omega arith)
counts_on m n (Ok k) ks next e h = go (next k) (h k)
  where
    go : (a : Admission) → Counts (suc m) n a → Counts m (suc n) a
    go a (all {ks = l} p) = all {ks = l} (omega arith)
    go a (part {ks = l} p q) = part {ks = l} (omega arith) (omega arith)

pub counts : (ss : List Slot) (m : ℕ) (js : List Facts) (rs : List Row) → length js ≡ m → Counts m (length rs) (admit_from ss js rs)
unfolding admit_from
counts ss m js [] e = all {ks = js} (omega arith)
counts ss m js (r ∷ rs) e = counts_on m (length rs) (row_facts ss js r) js _ e λ k. counts ss (suc m) (js ++ (k ∷ [])) rs (length-append js (k ∷ []) ∙ omega arith)

pub counts_least : {m n : ℕ} {a : Admission} → Counts m n a → m ≤ before a
counts_least (all e) = omega arith
counts_least (part p q) = p

-- ---- the rows rs, from the first on
module _ (rs : List Row) where
  own : Counts 0 (length rs) (admitting rs)
  own = counts (slots rs) 0 [] rs refl

  pub before-short : before (admitting rs) ≤ length rs
  before-short = go own
    where
      go : {a : Admission} → Counts 0 (length rs) a → before a ≤ length rs
      go (all e) = omega arith
      go (part p q) = omega arith

  -- all of them: the table is admitted
  pub record Whole : Type 0 where
    pub known : List Facts
    pub is : admitting rs ≡ admitted known

  pub whole_before : Whole → before (admitting rs) ≡ length rs
  whole_before w = go own w.is
    where
      go : {a : Admission} {ks : List Facts} → Counts 0 (length rs) a → a ≡ admitted ks → before a ≡ length rs
      go (all e) p = omega arith
      go (part p q) e = absurd (let z : ◌≡◌ {A = ℕ} 0 1 = cc in omega arith)

  pub before-whole : before (admitting rs) ≡ length rs → Whole
  before-whole e = go (admitting rs) refl own e
    where
      go : (a : Admission) → admitting rs ≡ a → Counts 0 (length rs) a → before a ≡ length rs → Whole
      go a p (all {ks = ks} q) e = record { known = ks; is = p }
      go a p (part h q) e = absurd (omega arith)

  -- a row is at fault: fewer
  pub stopped_before : (w : Refusal) (ks : List Facts) → admitting rs ≡ stopped w ks → before (admitting rs) < length rs
  stopped_before w ks e = go own e
    where
      go : {a : Admission} → Counts 0 (length rs) a → a ≡ stopped w ks → before a < length rs
      go (all p) e = absurd (let z : ◌≡◌ {A = ℕ} 0 1 = cc in omega arith)
      go (part p q) e = omega arith
