-- How code opens a table and two lists: in 01's order the table's refusal, then the lists'.
use Rattle.std.specs.Prelude.{◌≡◌, List, ◌++◌, ℕ, ℤ, length}
use Rattle.exponents.specs.Outcome.{Outcome, Ok, apply, bind}
use Rattle.units.specs.declared.Factor.{Factor}
use Rattle.units.specs.declared.Factors.{Factors}
use Rattle.units.specs.declared.Rows.{Rows}
use Rattle.units.specs.Lists.{both}
use Rattle.tables.specs.declared.Slot.{Slot}
use Rattle.tables.specs.declared.pages.Bases.{Bases}
use Rattle.tables.specs.declared.pages.Columns.{Columns}
use Rattle.tables.specs.Rows.{Facts, table, base_rows}
use Rattle.tables.specs.Held.{view_of, Lends, pack_slots, pack_items}
use Rattle.lists.specs.declared.opening.Opened.{Opened}

-- a table's rows and two lists of it
pub record Opening : Type 0 where
  pub rows : List Facts
  pub first : List Factor
  pub second : List Factor

unfoldable pub opening : Rows → Factors → Factors → Outcome Opening
opening t a b = bind (table t) (λ ks. apply (λ p. record { rows = ks; first = p.0; second = p.1 }) (both (length ks) a b))

abbrev pub opened_of : List Slot → Outcome Opening → Outcome Opened
opened_of ss = apply (λ o. record {
  a = pack_items (view_of o.rows (o.first ++ o.second)) o.first;
  b = pack_items (view_of o.rows (o.first ++ o.second)) o.second;
  slots = pack_slots ss;
})

-- two arrays tell the base exponents of a table's rows, where it is admitted
abbrev pub Tells : Rows → List ℤ → List ℕ → Type 0
Tells t nums dens = (ks : List Facts) → table t ≡ Ok ks → (l : List Factor) → Lends (view_of ks l) (length (base_rows t)) nums dens

-- the table t and the lists a and b are opened: as x, with the base exponents of the table's rows in two arrays
pub record Opens (t : Rows) (a b : Factors) (x : Outcome Opened) (nums : List ℤ) (dens : List ℕ) : Type 0 where
  pub is : x ≡ opened_of (base_rows t) (opening t a b)
  pub tells : Tells t nums dens

-- the same of both arrays lent together, and of the columns that an opening fills
abbrev pub OpensIn : Rows → Factors → Factors → Outcome Opened → Bases → Type 0
OpensIn t a b x bases = Opens t a b x bases.nums.now bases.dens.now

abbrev pub OpensTo : Rows → Factors → Factors → Outcome Opened → Columns → Type 0
OpensTo t a b x columns = Opens t a b x columns.nums columns.dens
