-- How code resolves two lists against an admitted table: what it hands over, and how it counts what comes before a factor.
use Rattle.std.specs.Prelude.{◌≡◌, Bool, List, ◌++◌, ℤ, pos, Float, length, take, drop, get_or, replicate}
use Prim.Native.Nat.{ℕ, ◌-◌, ◌*◌, ◌≤◌, ◌<◌, Ordering}
use Rattle.exponents.specs.Outcome.{Outcome, Ok, apply}
use Rattle.units.specs.declared.Factor.{Factor}
use Rattle.units.specs.declared.Factors.{Factors}
use Rattle.units.specs.Lists.{no_factor, list_of}
use Rattle.keys.specs.Orders.{then}
use Rattle.keys.specs.Held.{key_at}
use Rattle.tables.specs.Held.{Paged, Sized, Ranked, Basic, is_less, tally, before, view_of, pack_items, no_items_lem}
use Rattle.keys.specs.Key.{key}
use Rattle.tables.specs.Rows.{Facts, nobody}
use Rattle.tables.specs.Order.{key_order, row_order}
use Rattle.tables.specs.declared.pages.Columns.{Columns}
use Rattle.tables.specs.declared.Item.{Item}
use Rattle.tables.specs.declared.Items.{Items}
use Rattle.resolution.specs.declared.Count.{Count}
use Rattle.resolution.specs.declared.Resolved.{Resolved}

-- what admission leaves of a table: few rows, and each has its key
pub record Keyed (ks : List Facts) : Type 0 where
  pub few : length ks ≤ 128
  pub keys : (i : ℕ) → i < length ks → key (get_or ks i nobody).exps ≡ Ok (get_or ks i nobody).key

-- what resolving goes by: the rows that five arrays tell, as many as `len`, each with its key, and an empty list to fill
pub record Reads (ks : List Facts) (len : ℕ) (none : Items) (nums : List ℤ) (dens : List ℕ) (scales : List Float) (ranks : List ℕ) (based : List Bool) : Type 0 where
  pub all : len ≡ length ks
  pub empty : none ≡ no_items_lem
  pub paged : Paged ks nums dens scales ranks based
  pub keyed : Keyed ks

-- the same of the columns as code holds them
abbrev pub ReadsIn : List Facts → ℕ → Items → Columns → Type 0
ReadsIn ks len none c = Reads ks len none c.nums c.dens c.scales c.ranks c.based

-- ---- the answer

-- both lists are seen by way of their join
abbrev pub resolved_of : List Facts → Outcome (List Factor × List Factor) → Outcome Resolved
resolved_of ks = apply (λ p. record { a = pack_items (view_of ks (p.0 ++ p.1)) p.0; b = pack_items (view_of ks (p.0 ++ p.1)) p.1 })

-- ---- what code gathers on the way

unfoldable pub pack_key : List ℤ → List ℤ
pack_key k = k ++ replicate (16 - length k) (pos 0)

-- the rows and the keys of the first n factors of l, as code has gathered them
pub record Named (ks : List Facts) (l : List Factor) (n : ℕ) (rows : List ℕ) (keys : List ℤ) : Type 0 where
  pub few : n ≤ length l
  pub row : (j : ℕ) → j < n → get_or rows j 0 ≡ (get_or l j no_factor).row
  pub known : (j : ℕ) → j < n → (get_or l j no_factor).row < length ks
  pub key : (j : ℕ) → j < n → key_at (j * 16) keys ≡ pack_key (get_or ks (get_or l j no_factor).row nobody).key

-- those of all of l, with the ranks of the table's rows: what a count goes by
pub record Counts (ks : List Facts) (l : List Factor) (n : ℕ) (rows : List ℕ) (keys : List ℤ) (ranks : List ℕ) : Type 0 where
  pub all : n ≡ length l
  pub named : Named ks l n rows keys
  pub ranked : Ranked ks ranks

-- and what filling an empty list with the factors l goes by, which stand from place `start` on among fs
pub record Fills (ks : List Facts) (fs : List Factor) (n : ℕ) (l : Factors) (start : ℕ) (none : Items) (rows : List ℕ) (keys : List ℤ) (scales : List Float) (ranks : List ℕ) (based : List Bool) : Type 0 where
  pub counts : Counts ks fs n rows keys ranks
  pub empty : none ≡ no_items_lem
  pub part : list_of l ≡ take l.len (drop start fs)
  pub sized : Sized ks scales
  pub basic : Basic ks based

-- the same of the columns as code holds them
abbrev pub FillsIn : List Facts → List Factor → ℕ → Factors → ℕ → Items → List ℕ → List ℤ → Columns → Type 0
FillsIn ks fs n l start none rows keys c = Fills ks fs n l start none rows keys c.scales c.ranks c.based

-- the first n rows are rows that a table can have
abbrev pub Within : ℕ → List ℕ → Type 0
Within n rows = (j : ℕ) → j < n → get_or rows j 0 < 128

-- the arrays that rows and keys are gathered in, n of them so far
abbrev pub Space : ℕ → List ℕ → List ℤ → Type 0
Space n rows keys = (n ≤ 32) × (length rows ≡ 32) × (length keys ≡ 512) × Within n rows

-- the counts with one factor looked at, by the order of its key and by that of its rank and row
abbrev pub count_by : Count → Ordering → Ordering → Count
count_by c k rest = record { place = tally (is_less (then k rest)) c.place; class = tally (is_less k) c.class }

-- how many factors of l come before row r
abbrev pub count_of : List Facts → List Factor → ℕ → Count
count_of ks l r = record { place = before (row_order ks) l r; class = before (key_order ks) l r }

abbrev pub item_by : Float → Bool → Factor → Count → Item
item_by scale base f c = record { factor = f; scale = scale; place = c.place; class = c.class; base = base }
