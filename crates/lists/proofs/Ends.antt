-- Which of two lists is chosen, and what is told of the base rows.
use mathlib.Core.Path.{◌≡◌, refl, sym, ap, subst}
use mathlib.Core.Bool.{Bool, true, false}
use mathlib.Core.List.{List}
use Prim.Native.Nat.{ℕ}
use native.Mathlib.Omega.{arith}
use lib.IntN.{ℤ}
use lib.Ieee.{Float}
use lib.ListN.{length}
use Rattle.exponents.specs.Outcome.{Refusal, Outcome, Ok, Err, apply}
use Rattle.exponents.proofs.Numbers.{apply_refuses}
use Rattle.units.specs.declared.Factor.{Factor}
use Rattle.units.specs.declared.Rows.{Rows}
use Rattle.tables.specs.declared.Slot.{Slot}
use Rattle.tables.specs.declared.Slots.{Slots}
use Rattle.exponents.specs.Words.{pick}
use Rattle.tables.specs.Rows.{Admission, admit, rows_of}
use Rattle.tables.specs.Held.{pack_slots, Pages}
use Rattle.tables.proofs.Slotting.{slots_few}
use Rattle.tables.proofs.Telling.{lent_view}
use Rattle.resolution.proofs.Keyed.{admits}
use Rattle.resolution.proofs.Viewed.{view_short}
use Rattle.reduction.specs.Held.{smaller_of}
use Rattle.reduction.specs.declared.reduce.Smaller.TheVariants as smaller
use Rattle.lists.specs.Held.{Tells}

-- ---- which of two lists is chosen
module _ (o : Outcome Bool) (fs gs : List Factor) where
  abbrev chosen : Outcome (List Factor)
  chosen = apply (λ first. pick first fs gs) o

  pub first_chosen : Ok smaller.First ≡ smaller_of o → chosen ≡ Ok fs
  first_chosen w = go o w
    where
      go : (o : Outcome Bool) → Ok smaller.First ≡ smaller_of o → apply (λ first. pick first fs gs) o ≡ Ok fs
      go (Ok true) e = refl
      go (Ok false) e = absurd (let z : ◌≡◌ {A = ℕ} 0 1 = cc in omega arith)
      go (Err r) e = absurd (let z : ◌≡◌ {A = ℕ} 0 1 = cc in omega arith)

  pub second_chosen : Ok smaller.Second ≡ smaller_of o → chosen ≡ Ok gs
  second_chosen w = go o w
    where
      go : (o : Outcome Bool) → Ok smaller.Second ≡ smaller_of o → apply (λ first. pick first fs gs) o ≡ Ok gs
      go (Ok true) e = absurd (let z : ◌≡◌ {A = ℕ} 0 1 = cc in omega arith)
      go (Ok false) e = refl
      go (Err r) e = absurd (let z : ◌≡◌ {A = ℕ} 0 1 = cc in omega arith)

  pub neither_chosen : (r : Refusal) → Err r ≡ smaller_of o → chosen ≡ Err r
  neither_chosen r w = ap (apply (λ first. pick first fs gs)) (apply_refuses _ o r (sym w))

-- ---- what the arrays of an admission tell

pub tells_of : (t : Rows) (nums : List ℤ) (dens : List ℕ) (scales : List Float) (ranks : List ℕ) (based : List Bool) → Pages (admit t) nums dens scales ranks based → Tells t nums dens
tells_of t nums dens scales ranks based p ks e l = record {
  lent = lent_view ks l nums dens scales ranks based (subst (λ (a : Admission). Pages a nums dens scales ranks based) (admits t ks e) p);
  short = view_short t ks e l;
  few = slots_few (rows_of t);
}

-- ---- the base rows

pub slots_len : (s : Slots) (ss : List Slot) → s ≡ pack_slots ss → s.len ≡ length ss
unfolding pack_slots
slots_len s ss e = ap (λ (y : Slots). y.len) e
