-- What `full_simplify` answers (demand 3): in an admitted table a quantity with the base exponents of the given one, whatever the step that made it. It is refused by what leaves the range and by FRACTION alone, and whatever the table never by UNITS.
use mathlib.Core.Path.{◌≡◌, sym, ◌∙◌, subst}
use mathlib.Core.Bool.{Bool, true, false}
use mathlib.Core.List.{List}
use Prim.Native.Nat.{ℕ}
use native.Mathlib.Omega.{arith}
use lib.Ieee.{Float}
use lib.ListN.{length}
use Rattle.exponents.specs.Words.{pick}
use Rattle.exponents.specs.Outcome.{Refusal, FRACTION, SHAPE, UNKNOWN, UNITS, Ok, Err, apply}
use Rattle.exponents.proofs.Holds.{Holds, held, Only, fine, holds_map, only_map, only_bind, bind_given}
use Rattle.exponents.proofs.Halves.{OutOfRange}
use Rattle.exponents.proofs.Rationals.{value}
use Rattle.floats.specs.Values.{is_zero}
use Rattle.units.specs.declared.Factor.{Factor}
use Rattle.units.specs.declared.Factors.{Factors}
use Rattle.units.specs.declared.Quantity.{Quantity}
use Rattle.units.specs.declared.Rows.{Rows}
use Rattle.units.specs.Lists.{list_of, checked}
use Rattle.units.proofs.Laws.{list_pack}
use Rattle.tables.specs.Rows.{Facts, table}
use Rattle.tables.specs.Rules.{rules_in}
use Rattle.canonical.proofs.Bases.{Agree}
use Rattle.exponents.proofs.Words.{pick_is}
use Rattle.conversion.proofs.Refusals.{range_not_units}
use Rattle.values.specs.Quantities.{made}
use Rattle.simplification.specs.Steps.{quantity_of, simplify}
use Rattle.simplification.specs.Calls.{full_simplify}
use Rattle.simplification.proofs.Agreed.{agree_self}
use Rattle.simplification.proofs.NeverUnits.{NotUnits, never, fraction_not_units, either_only}
use Rattle.simplification.proofs.Kept.{simplify_only_in, simplified_keeps}
use Rattle.promises.proofs.Unadmitted.{checked_only, table_only}

-- q is a quantity of the admitted table t, fs its list
module _ (t : Rows) (ks : List Facts) (k : table t ≡ Ok ks) (q : Quantity) (fs : List Factor) (h : checked (length ks) q.unit ≡ Ok fs) where
  -- p has its base exponents
  abbrev pub KeepsBase : Quantity → Type 0
  KeepsBase p = Agree value (rules_in t ks).bases fs (list_of p.unit)

  goes : full_simplify t q ≡ pick q.mark (apply quantity_of (simplify (rules_in t ks) q.value fs)) (Ok (made false q.value fs))
  unfolding full_simplify
  goes = bind_given _ k ∙ bind_given _ h

  pub made_keeps : (mark : Bool) (v : Float) (m : List Factor) → Agree value (rules_in t ks).bases fs m → KeepsBase (made mark v m)
  made_keeps mark v m a = subst (λ l. Agree value (rules_in t ks).bases fs l) (sym (list_pack m)) a

  pub same : Holds KeepsBase (Ok (made false q.value fs))
  same = held {a = made false q.value fs} (made_keeps false q.value fs (agree_self value (rules_in t ks).bases fs))

  -- THEOREM: full simplification of a nonzero value, if it answers, keeps base exponents
  pub keeps_base : is_zero q.value ≡ false → Holds KeepsBase (full_simplify t q)
  keeps_base n =
      subst (λ o. Holds KeepsBase o) (sym goes)
      (pick_is (Holds KeepsBase) q.mark (holds_map quantity_of (simplified_keeps t ks k q.unit fs h q.value n) λ a e. made_keeps true a.0 a.1 e) same)

  -- THEOREM: it answers, or is refused by a step that leaves the range, or by FRACTION: a fractional scale
  pub refuses : (S : Refusal → Type 0) → ((r : Refusal) → OutOfRange r → S r) → S FRACTION → Only S (full_simplify t q)
  refuses S range fraction = subst (λ o. Only S o) (sym goes) (either_only S q.mark (only_map _ (simplify_only_in t ks k q.unit fs h q.value S range fraction)) fine)

  -- without the mark a quantity is unchanged, a zero too
  pub unmarked : q.mark ≡ false → full_simplify t q ≡ Ok (made false q.value fs)
  unmarked e = goes ∙ rw e

  pub unmarked_keeps : q.mark ≡ false → Holds KeepsBase (full_simplify t q)
  unmarked_keeps e = subst (λ o. Holds KeepsBase o) (sym (unmarked e)) same

-- ---- a table and a list are refused by others
pub shape_not_units : NotUnits SHAPE
shape_not_units e = let z : ◌≡◌ {A = ℕ} 0 1 = cc in omega arith

pub unknown_not_units : NotUnits UNKNOWN
unknown_not_units e = let z : ◌≡◌ {A = ℕ} 0 1 = cc in omega arith

pub table_not_units : (t : Rows) → Only NotUnits (table t)
table_not_units t = table_only NotUnits (λ e. let z : ◌≡◌ {A = ℕ} 0 1 = cc in omega arith) shape_not_units range_not_units fraction_not_units t

pub list_not_units : (rows : ℕ) (l : Factors) → Only NotUnits (checked rows l)
list_not_units = checked_only NotUnits shape_not_units unknown_not_units

-- THEOREM: never UNITS, whatever the rows and the quantity
module _ (t : Rows) (q : Quantity) where
  simplify_refuses : Only NotUnits (full_simplify t q)
  unfolding full_simplify
  simplify_refuses =
      only_bind (table t) _ (table_not_units t) λ ks k.
      only_bind (checked (length ks) q.unit) _ (list_not_units (length ks) q.unit) λ fs h.
      either_only NotUnits q.mark (only_map _ (simplify_only_in t ks k q.unit fs h q.value NotUnits range_not_units fraction_not_units)) fine

  pub never_units : full_simplify t q ≡ Err UNITS → ⊥
  never_units e = never simplify_refuses e
