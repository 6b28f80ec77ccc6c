-- Base rows in rank order, and later ones put in between: the others keep their order, whatever ranks the later ones have.
use mathlib.Core.Path.{◌≡◌, refl, ap, subst}
use mathlib.Core.List.{List, [], ◌∷◌}
use Prim.Native.Nat.{ℕ, suc, ◌<◌, ◌≤◌}
use native.Mathlib.Omega.{arith}
use lib.Dec.{ltb}
use lib.ListN.{length}
use borrow.Author.Tests.{ltb-true, ltb-false, lt-ltb}
use Rattle.exponents.specs.Words.{pick}
use Rattle.exponents.proofs.Words.{pick_is, pick_by}
use Rattle.units.specs.declared.Kind.{Kind}
use Rattle.units.specs.declared.Kind.TheVariants.{Base, Derived}
use Rattle.units.specs.declared.Row.{Row}
use Rattle.tables.specs.declared.Slot.{Slot}
use Rattle.tables.specs.Rows.{placed, slotted, slots_from}

-- the ranks rise from a on, and P holds of each
pub data Rise (P : ℕ → Type 0) : ℕ → List Slot → Type 0 where
  end : {a : ℕ} → Rise P a []
  step : {a : ℕ} {s : Slot} {l : List Slot} → a ≤ s.rank → P s.rank → Rise P (suc s.rank) l → Rise P a (s ∷ l)

module _ {P : ℕ → Type 0} where
  -- a lower one goes first
  placed_first : (s : Slot) (l : List Slot) → Rise P (suc s.rank) l → placed s l ≡ s ∷ l
  unfolding placed
  placed_first s l end = refl
  placed_first s l (step {s = t} {l = m} h p r) = rw (lt-ltb s.rank t.rank h) (ap (λ k. s ∷ k) (placed_first t m r))

  module _ {Q : ℕ → Type 0} (to : (x : ℕ) → P x → Q x) where
    rise_imp : {a : ℕ} {l : List Slot} → Rise P a l → Rise Q a l
    rise_imp end = end
    rise_imp (step h p r) = step h (to _ p) (rise_imp r)

    -- one more, whose rank is none of theirs
    placed_rise : (s : Slot) → (P s.rank → ⊥) → Q s.rank → (a : ℕ) (l : List Slot) → a ≤ s.rank → Rise P a l → Rise Q a (placed s l)
    unfolding placed
    placed_rise s new q a l h end = step h q end
    placed_rise s new q a l h (step {s = t} {l = m} k p r) =
        let next : t.rank < s.rank → Rise Q (suc t.rank) (placed s m) = λ b. placed_rise s new q (suc t.rank) m b r in
        pick_by (Rise Q a) (ltb s.rank t.rank)
        (λ e. step h q (rw (placed_first t m r) (step (ltb-true s.rank t.rank e) (to _ p) (rise_imp r))))
        (λ e. step k (to _ p) (next (apart (ltb-false s.rank t.rank e) (λ z. new (subst P z p)))))
      where
        apart : {x y : ℕ} → x ≤ y → (x ≡ y → ⊥) → x < y
        apart u v = omega arith

    pub slotted_rise : (k : Kind) (s : Slot) → (P s.rank → ⊥) → Q s.rank → (l : List Slot) → Rise P 0 l → Rise Q 0 (slotted k s l)
    unfolding slotted
    slotted_rise (Derived f) s new q l r = rise_imp r
    slotted_rise Base s new q l r = pick_is (Rise Q 0) (ltb (length l) 16) (placed_rise s new q 0 l (omega arith) r) (rise_imp r)

-- the base rows l, with rows from n on put in between
pub data Between (n : ℕ) : List Slot → List Slot → Type 0 where
  none : Between n [] []
  same : {s : Slot} {l m : List Slot} → Between n l m → Between n (s ∷ l) (s ∷ m)
  late : {s : Slot} {l m : List Slot} → n ≤ s.row → Between n l m → Between n l (s ∷ m)

between_same : {n : ℕ} (l : List Slot) → Between n l l
between_same [] = none
between_same (s ∷ l) = same (between_same l)

module _ {n : ℕ} {P : ℕ → Type 0} where
  -- put in by exchanges: a later one, or one that comes before all of l
  puts : {l m : List Slot} → Between n l m → (a : ℕ) → Rise P a l
      → ((s : Slot) → n ≤ s.row → Between n l (placed s m)) × ((s : Slot) → Rise P (suc s.rank) l → Between n (s ∷ l) (placed s m))
  unfolding placed
  puts none a r = (λ s h. late h none, λ s q. same none)
  puts (same {s = t} {l = l} {m = m} b) a (step k p r) =
      let both = puts b (suc t.rank) r in
      (λ s h. pick_is (Between n (t ∷ l)) (ltb s.rank t.rank) (late h (both.1 t r)) (same (both.0 s h)), λ s q. first s q (both.1 t r))
    where
      first : (s : Slot) → Rise P (suc s.rank) (t ∷ l) → Between n (t ∷ l) (placed t m) → Between n (s ∷ t ∷ l) (pick (ltb s.rank t.rank) (s ∷ placed t m) (t ∷ placed s m))
      first s (step h q u) c = rw (lt-ltb s.rank t.rank h) (same c)
  puts (late {s = u} {l = l} {m = m} g b) a r =
      let both = puts b a r in (
        λ s h. pick_is (Between n l) (ltb s.rank u.rank) (late h (both.0 u g)) (late g (both.0 s h)),
        λ s q. pick_is (Between n (s ∷ l)) (ltb s.rank u.rank) (same (both.0 u g)) (late g (both.1 s q)),
      )

  slotted_between : (k : Kind) (s : Slot) → n ≤ s.row → (l m : List Slot) → Rise P 0 l → Between n l m → Between n l (slotted k s m)
  unfolding slotted
  slotted_between (Derived f) s h l m r b = b
  slotted_between Base s h l m r b = pick_is (Between n l) (ltb (length m) 16) ((puts b 0 r).0 s h) b

  from_between : (i : ℕ) → n ≤ i → (l m : List Slot) → Rise P 0 l → (rs : List Row) → Between n l m → Between n l (slots_from i m rs)
  unfolding slots_from
  from_between i h l m r [] b = b
  from_between i h l m r (q ∷ rs) b =
      from_between (suc i) (omega arith) l (slotted q.kind (record { row = i; rank = q.rank }) m) r rs
      (slotted_between q.kind (record { row = i; rank = q.rank }) h l m r b)

-- the base rows of a table are those of its first n rows, with later ones put in between
pub slots_between : {P : ℕ → Type 0} (n : ℕ) (l : List Slot) → Rise P 0 l → (rs : List Row) → Between n l (slots_from n l rs)
slots_between n l r rs = from_between n (omega arith) l l r rs (between_same l)
