-- How code holds the table and the lists while the candidates have their turns.
use Rattle.std.specs.Prelude.{◌≡◌, Bool, true, false, List, ℤ, Float, length, get_or}
use Prim.Native.Nat.{ℕ, compare}
use Rattle.exponents.specs.Outcome.{Outcome, Ok, apply}
use Rattle.exponents.specs.declared.Exponent.{Exponent}
use Rattle.units.specs.declared.Factor.{Factor}
use Rattle.units.specs.declared.Factors.{Factors}
use Rattle.units.specs.declared.Candidates.{Candidates}
use Rattle.units.specs.declared.Quantity.{Quantity}
use Rattle.units.specs.declared.Rows.{Rows}
use Rattle.units.specs.Lists.{checked}
use Rattle.tables.specs.Rows.{Facts, nobody, scale_at, admitted, admit, base_rows}
use Rattle.tables.specs.Order.{order}
use Rattle.tables.specs.Rules.{Rules, rules_in}
use Rattle.tables.specs.Held.{View, Paged, pack_exps}
use Rattle.tables.specs.declared.pages.Columns.{Columns}
use Rattle.simplification.specs.Steps.{Amount, quantity_of}
use Rattle.registry.specs.Registry.{Turn, wins, stays, candidate_lists}
use Rattle.registry.specs.declared.Choice.{Choice}

-- what is known of rows but for their order: all stand at one place
abbrev pub plain_view : List Facts → List Factor → View
plain_view ks l = record {
  order = order (λ r s. compare 0 0);
  alike = λ r s. true;
  exps = λ r. pack_exps (get_or ks r nobody).exps;
  scale = scale_at ks;
  base = λ r. (get_or ks r nobody).base;
  among = l;
  place = λ r. 0;
  class = λ r. 0;
}

-- ---- what is given

-- an admitted table, and what is known of its rows
pub record Table : Type 0 where
  pub rows : Rows
  pub known : List Facts
  pub admits : admit rows ≡ admitted known

-- the rules by which it is read
abbrev pub rules_of : Table → Rules Float
rules_of t = rules_in t.rows t.known

-- it is held in five arrays: `len` rows, n of them base
pub record Stored (t : Table) (len n : ℕ) (nums : List ℤ) (dens : List ℕ) (scales : List Float) (ranks : List ℕ) (based : List Bool) : Type 0 where
  pub long : len ≡ length t.known
  pub bases : n ≡ length (base_rows t.rows)
  pub paged : Paged t.known nums dens scales ranks based

-- the same of the columns as code holds them
abbrev pub StoredIn : Table → ℕ → ℕ → Columns → Type 0
StoredIn t len n c = Stored t len n c.nums c.dens c.scales c.ranks c.based

-- a list that passes its check
pub record Checks (t : Table) (l : Factors) : Type 0 where
  pub factors : List Factor
  pub is : checked (length t.known) l ≡ Ok factors

-- candidates that pass theirs
pub record Offers (t : Table) (c : Candidates) : Type 0 where
  pub lists : List (List Factor)
  pub are : candidate_lists (length t.known) c ≡ Ok lists

-- what the three steps left: its list passes again
pub record Left (t : Table) (rest : Quantity) : Type 0 where
  pub amount : Amount
  pub is : rest ≡ quantity_of amount
  pub passes : checked (length t.known) rest.unit ≡ Ok amount.1

-- base exponents, one for each base row
pub record BaseExps (t : Table) (xs : List Exponent) : Type 0 where
  pub exps : List Exponent
  pub are : xs ≡ pack_exps exps
  pub sized : length exps ≡ length (base_rows t.rows)

-- ---- how a turn is handed over

abbrev pub turn_of : Turn → Choice
turn_of (wins a) = record { best = quantity_of a; won = true }
turn_of (stays b) = record { best = quantity_of b; won = false }

abbrev pub choice_of : Outcome Turn → Outcome Choice
choice_of o = apply turn_of o
