-- From the theorems to the calls that ship: what holds of a call's outcome holds of what a caller over lent rows is handed, and of what a caller of the exported function reads in the room.
use mathlib.Core.Path.{◌≡◌, refl, sym, ◌∙◌, ap, ap₂, subst}
use mathlib.Core.List.{List, ◌++◌}
use Prim.Native.Nat.{ℕ, ◌≤◌}
use native.Mathlib.Omega.{arith}
use borrow.Author.Tests.{le-ltb, ne_eqb}
use lib.ListN.{length, drop}
use Rattle.exponents.specs.declared.refusals.Refusal.TheVariants.{Table, Shape, Unknown, Room, Range, Units, Fraction, DivZero, ZeroNeg, NonWhole, Nan, Format, Denominator, Order, Multiple, Argument}
use Rattle.exponents.specs.Outcome.{Refusal, number, Outcome, Ok, Err, unless, apply, bind}
use Rattle.exponents.proofs.Numbers.{number-pos}
use Rattle.exponents.proofs.Holds.{Holds, held, holds_imp}
use Rattle.units.specs.declared.Quantity.{Quantity}
use Rattle.wire.specs.Records.{quantity_at, quantity_bytes}
use Rattle.wire.proofs.Round.{QuantityFits, quantity_form}
use Rattle.replies.specs.Replies.{sent}
use Rattle.demsharin.specs.Exports.{Exported}
use Rattle.promises.specs.Shipped.{named, heard, outcome_from}
use Rattle.promises.proofs.Fitting.{read_back}

-- ---- a number that is told is its refusal's

pub named-number : (r : Refusal) → named (number r) ≡ r
unfolding named
named-number Table = refl
named-number Shape = refl
named-number Unknown = refl
named-number Room = refl
named-number Range = refl
named-number Units = refl
named-number Fraction = refl
named-number DivZero = refl
named-number ZeroNeg = refl
named-number NonWhole = refl
named-number Nan = refl
named-number Format = refl
named-number Denominator = refl
named-number Order = refl
named-number Multiple = refl
named-number Argument = refl

pub heard_answer : {A : Type 0} (a : A) → heard 0 a ≡ Ok a
unfolding heard
heard_answer a = refl

pub heard_refusal : {A : Type 0} (r : Refusal) (a : A) → heard (number r) a ≡ Err r
unfolding heard
heard_refusal r a = rw (ne_eqb (number r) 0 (λ e. omega (arith, number-pos r, e))) (ap Err (named-number r))

-- ---- what a caller makes of the answer is the call's outcome

-- the room has place for the bytes
sent-whole : (room bs : List ℕ) → length bs ≤ length room → sent room (Ok bs) ≡ Ok bs
unfolding sent bind unless
sent-whole room bs h = rw (le-ltb (length room) (length bs) h)

sent_refused : (room : List ℕ) (r : Refusal) → sent room (Err r) ≡ Err r
unfolding sent bind
sent_refused room r = refl

-- a's bytes fit the room, and are read as a, whatever stands behind them
abbrev pub Readable : {A : Type 0} → (List ℕ → A) → (A → List ℕ) → List ℕ → A → Type 0
Readable read bytes room a = (length (bytes a) ≤ length room) × ((s : List ℕ) → read (bytes a ++ s) ≡ a)

-- an exported call with room for its answer: what it writes, read back
pub from_room : {A : Type 0} (read : List ℕ → A) (bytes : A → List ℕ) (room : List ℕ) (o : Outcome A) → Holds (Readable read bytes room) o → (n : ℕ) (end : List ℕ) → Exported room (apply bytes o) n end → heard n (read end) ≡ o
from_room read bytes room (Err r) h n end e = rw (e.0, sent_refused room r) (heard_refusal r _)
from_room read bytes room (Ok a) (held f) n end e =
    ap₂ (λ k l. heard k (read l)) e.0 e.1 ∙ rw (sent-whole room (bytes a) f.0) (heard_answer _ ∙ ap Ok (f.1 (drop (length (bytes a)) room)))

-- ---- THE TRANSPORT: a theorem P on the outcome o of a call
module _ (P : Outcome Quantity → Type 0) (o : Outcome Quantity) (h : P o) where
  -- holds of what the call over lent rows hands over
  pub over-rows : (r : Outcome Quantity) → r ≡ o → P r
  over-rows r e = subst P (sym e) h

  -- and of what the exported call returns and leaves in a room of 336 bytes or more, read back
  pub over_bytes : Holds QuantityFits o → (room : List ℕ) → 336 ≤ length room → (n : ℕ) (end : List ℕ) → Exported room (apply quantity_bytes o) n end → P (outcome_from n end)
  over_bytes f room l n end e =
      subst P (sym (from_room (λ s. quantity_at s 0) quantity_bytes room o (holds_imp f λ q k. (omega (arith, quantity_form.sized q k), read_back q k)) n end e)) h
