-- What is handed over of a table and of two lists, and how a call goes on after them.
use mathlib.Core.Path.{◌≡◌, refl, sym, ap, ◌∙◌}
use mathlib.Core.List.{List, []}
use Prim.Native.Nat.{ℕ}
use native.Mathlib.Omega.{arith}
use lib.ListN.{length}
use Rattle.exponents.specs.Outcome.{Refusal, Outcome, Ok, Err, unless, apply, bind}
use Rattle.exponents.proofs.Holds.{bind_given, bind_refused, one_answer}
use Rattle.exponents.proofs.Following.{bind_apply}
use Rattle.exponents.proofs.Numbers.{clash}
use Rattle.units.specs.declared.Factor.{Factor}
use Rattle.units.specs.declared.Factors.{Factors}
use Rattle.units.specs.declared.Rows.{Rows}
use Rattle.units.specs.Lists.{pack, some, checked, both}
use Rattle.tables.specs.declared.Slot.{Slot}
use Rattle.tables.specs.declared.Slots.{Slots}
use Rattle.tables.specs.declared.Admitted.{Admitted}
use Rattle.tables.specs.declared.Rejected.{Rejected}
use Rattle.tables.specs.Rows.{Facts, Admission, admitted, stopped, known, table}
use Rattle.tables.specs.Held.{pack_slots, admitted_of}
use Rattle.resolution.specs.Held.{resolved_of}
use Rattle.resolution.specs.declared.Resolved.{Resolved}
use Rattle.lists.specs.declared.opening.Opened.{Opened}
use Rattle.lists.specs.Held.{Opening, opening, opened_of}

-- ---- a table

-- it isn't refused: what is known of its rows
pub record Accepted (ss : List Slot) (a : Admission) (x : Admitted) : Type 0 where
  pub rows : List Facts
  pub is : a ≡ admitted rows
  pub slots : x.slots ≡ pack_slots ss
  pub len : x.len ≡ length rows

module _ (ss : List Slot) where
  pub admitted_by : (a : Admission) (x : Admitted) → Ok x ≡ admitted_of ss a → Accepted ss a x
  admitted_by (admitted ks) x e = record { rows = ks; is = refl; slots = cc; len = cc }
  admitted_by (stopped r ks) x e = absurd (let z : ◌≡◌ {A = ℕ} 0 1 = cc in omega arith)

  pub table_refuses : (a : Admission) (x : Rejected) → Err x ≡ admitted_of ss a → known a ≡ Err x.refusal
  table_refuses (admitted ks) x e = absurd (let z : ◌≡◌ {A = ℕ} 0 1 = cc in omega arith)
  table_refuses (stopped r ks) x e = let h : x.refusal ≡ r = cc in ap Err (sym h)

-- ---- two lists resolved

abbrev pub Pair : Type 0
Pair = List Factor × List Factor

abbrev pub lay : List Facts → Pair → Opening
lay ks p = record { rows = ks; first = p.0; second = p.1 }

-- as they are opened, with the table's base rows
laid : (ks : List Facts) (ss : List Slot) (o : Outcome Pair) (x : Resolved) (s : Slots) → Ok x ≡ resolved_of ks o → s ≡ pack_slots ss
    → ◌≡◌ {A = Outcome Opened} (Ok record { a = x.a; b = x.b; slots = s }) (opened_of ss (apply (lay ks) o))
laid ks ss (Ok p) x s e q = let h = one_answer e in λ i. Ok record { a = (h i).a; b = (h i).b; slots = q i }
laid ks ss (Err r) x s e q = absurd (clash e)

-- ---- how the opening ends
module _ (t : Rows) (a b : Factors) where
  pub table_stops : (ss : List Slot) (r : Refusal) → table t ≡ Err r → Err r ≡ opened_of ss (opening t a b)
  unfolding opening
  table_stops ss r e = sym (ap (opened_of ss) (bind_refused _ e))

  module _ (ks : List Facts) (k : table t ≡ Ok ks) where
    pub lists-next : apply (lay ks) (both (length ks) a b) ≡ opening t a b
    unfolding opening
    lists-next = sym (bind_given _ k)

    pub lists_stop : (ss : List Slot) (r : Refusal) → both (length ks) a b ≡ Err r → Err r ≡ opened_of ss (opening t a b)
    lists_stop ss r e = ap (λ o. opened_of ss (apply (lay ks) o)) (sym e) ∙ ap (opened_of ss) lists-next

    pub opens : (ss : List Slot) (x : Resolved) (s : Slots) → Ok x ≡ resolved_of ks (both (length ks) a b) → s ≡ pack_slots ss
        → ◌≡◌ {A = Outcome Opened} (Ok record { a = x.a; b = x.b; slots = s }) (opened_of ss (opening t a b))
    opens ss x s e q = laid ks ss (both (length ks) a b) x s e q ∙ ap (opened_of ss) lists-next

-- ---- how a call goes on

-- a call on two lists: W is its own work
module _ {A : Type 0} (t : Rows) (a b : Factors) (W : List Facts → List Factor → List Factor → Outcome A) where
  abbrev pub Call : Outcome A
  Call = bind (table t) (λ ks. bind (both (length ks) a b) (λ p. W ks p.0 p.1))

  through : (k : Outcome (List Facts)) → bind k (λ ks. bind (both (length ks) a b) (λ p. W ks p.0 p.1)) ≡ bind (bind k (λ ks. apply (lay ks) (both (length ks) a b))) (λ o. W o.rows o.first o.second)
  unfolding bind
  through (Ok ks) = go (both (length ks) a b)
    where
      go : (o : Outcome Pair) → bind o (λ p. W ks p.0 p.1) ≡ bind (apply (lay ks) o) (λ o. W o.rows o.first o.second)
      go (Ok p) = refl
      go (Err r) = refl
  through (Err r) = refl

  as_opened : Call ≡ bind (opening t a b) (λ o. W o.rows o.first o.second)
  unfolding opening
  as_opened = through (table t)

  pub call_refuses : (r : Refusal) → opening t a b ≡ Err r → Call ≡ Err r
  call_refuses r e = as_opened ∙ bind_refused _ e

  pub call_goes : (o : Opening) → opening t a b ≡ Ok o → Call ≡ W o.rows o.first o.second
  call_goes o e = as_opened ∙ bind_given _ e

none_checked : (n : ℕ) → checked n (pack []) ≡ Ok []
unfolding checked unless pack some
none_checked n = refl

-- a list before others
abbrev before : List Factor → List Factor → Pair
before fs gs = (fs, gs)

-- and beside the empty one
abbrev pub alone : List Factor → Pair
alone fs = (fs, [])

pub both_none : (n : ℕ) (a : Factors) → both n a (pack []) ≡ apply alone (checked n a)
unfolding both bind
both_none n a = go (checked n a)
  where
    go : (o : Outcome (List Factor)) → bind o (λ fs. apply (before fs) (checked n (pack []))) ≡ apply alone o
    go (Ok fs) = ap (apply (before fs)) (none_checked n)
    go (Err r) = refl

-- a call on one list
module _ {A : Type 0} (t : Rows) (a : Factors) (W : List Facts → List Factor → Outcome A) where
  abbrev pub Call1 : Outcome A
  Call1 = bind (table t) (λ ks. bind (checked (length ks) a) (λ fs. W ks fs))

  single : (ks : List Facts) → bind (both (length ks) a (pack [])) (λ p. W ks p.0) ≡ bind (checked (length ks) a) (λ fs. W ks fs)
  single ks = ap (λ o. bind o (λ p. W ks p.0)) (both_none (length ks) a) ∙ bind_apply (checked (length ks) a) alone (λ p. W ks p.0)

  pub with_none : Call1 ≡ Call t a (pack []) (λ ks fs gs. W ks fs)
  with_none = sym (ap (bind (table t)) (λ i ks. single ks i))
