-- The base rows that are gathered from a list of rows are base rows of that list, and no two of them are of one number.
use mathlib.Core.Path.{◌≡◌, refl, sym, subst}
use mathlib.Core.List.{List, [], ◌∷◌}
use Prim.Native.Nat.{ℕ, suc, ◌+◌, ◌<◌}
use native.Mathlib.Nat as nat
use native.Mathlib.Omega.{arith}
use lib.Dec.{ltb}
use lib.ListN.{length, get_or}
use Rattle.units.specs.declared.Kind.{Kind}
use Rattle.units.specs.declared.Kind.TheVariants.{Base, Derived}
use Rattle.units.specs.declared.Row.{Row}
use Rattle.tables.specs.declared.Slot.{Slot}
use Rattle.tables.specs.Rows.{placed, slotted, slots_from, slots}
use Rattle.exponents.proofs.Each.{all_imp}
use Rattle.exponents.specs.Words.{All}
use Rattle.exponents.proofs.Words.{pick_is}

-- ---- what holds of each that is put in
module _ (P : Slot → Type 0) where
  pub placed-all : (s : Slot) (l : List Slot) → P s → All P l → All P (placed s l)
  unfolding placed
  placed-all s [] p h = (p, tt)
  placed-all s (t ∷ l) p h = pick_is (All P) (ltb s.rank t.rank) (p, placed-all t l h.0 h.1) (h.0, placed-all s l p h.1)

  pub slotted-all : (k : Kind) (s : Slot) (l : List Slot) → P s → All P l → All P (slotted k s l)
  unfolding slotted
  slotted-all (Derived f) s l p h = h
  slotted-all Base s l p h = pick_is (All P) (ltb (length l) 16) (placed-all s l p h) h

-- ---- no two are of one number

abbrev pub Other : Slot → Slot → Type 0
Other s u = u.row ≡ s.row → ⊥

abbrev pub Apart : List Slot → Type 0
Apart [] = Unit {0}
Apart (s ∷ ss) = All (Other s) ss × Apart ss

placed_apart : (s : Slot) (l : List Slot) → All (Other s) l → Apart l → Apart (placed s l)
unfolding placed
placed_apart s [] h a = (tt, tt)
placed_apart s (u ∷ l) h a =
    pick_is Apart (ltb s.rank u.rank)
    (placed-all (Other s) u l h.0 h.1, placed_apart u l a.0 a.1)
    (placed-all (Other u) s l (λ e. h.0 (sym e)) a.0, placed_apart s l h.1 a.1)

slotted_apart : (k : Kind) (s : Slot) (l : List Slot) → All (Other s) l → Apart l → Apart (slotted k s l)
unfolding slotted
slotted_apart (Derived f) s l h a = a
slotted_apart Base s l h a = pick_is Apart (ltb (length l) 16) (placed_apart s l h a) a

slots_from_apart : (i : ℕ) (l : List Slot) (rs : List Row) → All (λ s. s.row < i) l → Apart l → Apart (slots_from i l rs)
unfolding slots_from
slots_from_apart i l [] h a = a
slots_from_apart i l (r ∷ rs) h a =
    let own : Slot = record { row = i; rank = r.rank } in
    slots_from_apart (suc i) (slotted r.kind own l) rs
    (slotted-all (λ s. s.row < suc i) r.kind own l (omega arith) (all_imp l (λ s p. omega arith) h))
    (slotted_apart r.kind own l (all_imp l (λ s p e. omega arith) h) a)

pub slots_apart : (rs : List Row) → Apart (slots rs)
slots_apart rs = slots_from_apart 0 [] rs tt tt

-- ---- they are base rows: P holds of each base row's number and rank
module _ (P : Slot → Type 0) (d : Row) where
  slots_from_base : (i : ℕ) (l : List Slot) (rs : List Row) → All P l → ((j : ℕ) → j < length rs → (get_or rs j d).kind ≡ Base → P (record { row = i + j; rank = (get_or rs j d).rank })) → All P (slots_from i l rs)
  unfolding slots_from slotted
  slots_from_base i l [] h f = h
  slots_from_base i l (r ∷ rs) h f =
      slots_from_base (suc i) (slotted r.kind own l) rs (here r.kind refl) (λ j p e. subst (λ n. P (record { row = n; rank = (get_or rs j d).rank })) (omega arith) (f (suc j) (omega arith) e))
    where
      own : Slot
      own = record { row = i; rank = r.rank }

      here : (k : Kind) → r.kind ≡ k → All P (slotted k own l)
      here (Derived x) e = h
      here Base e = slotted-all P Base own l (subst (λ n. P (record { row = n; rank = r.rank })) (omega arith) (f 0 (omega arith) e)) h

pub slots-base : (rs : List Row) (d : Row) → All (λ s. (s.row < length rs) × ((get_or rs s.row d).kind ≡ Base) × ((get_or rs s.row d).rank ≡ s.rank)) (slots rs)
slots-base rs d = slots_from_base (λ s. (s.row < length rs) × ((get_or rs s.row d).kind ≡ Base) × ((get_or rs s.row d).rank ≡ s.rank)) d 0 [] rs tt (λ j h e. rw (nat.zero-add j) (h, e, refl))
