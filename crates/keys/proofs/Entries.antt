-- Keys that compare as equal, by their (place, number), are equal.
use mathlib.Core.Path.{◌≡◌, refl, sym, ap, ap₂}
use mathlib.Core.List.{List, [], ◌∷◌}
use Prim.Native.Nat.{ℕ, zero, suc, ◌<◌}
use native.Mathlib.Omega.{arith}
use lib.IntN.{ℤ, pos, negsuc}
use lib.ListN.{length}
use Rattle.keys.specs.Key.{entry, entries}

abbrev Entries : Type 0
Entries = List (ℕ × ℤ)

abbrev place_of : Entries → ℕ
place_of [] = 0
place_of (x ∷ l) = x.0

abbrev number_of : Entries → ℤ
number_of [] = pos 0
number_of (x ∷ l) = x.1

abbrev rest_of : Entries → Entries
rest_of [] = []
rest_of (x ∷ l) = l

-- the list does not begin with the place p
abbrev Without : ℕ → Entries → Type 0
Without p l = (z : ℤ) (m : Entries) → l ≡ (p, z) ∷ m → ⊥

entry_without : (p q : ℕ) (z : ℤ) (l : Entries) → p < q → Without p l → Without p (entry z q l)
unfolding entry
entry_without p q (pos zero) l h w x m e = w x m e
entry_without p q (pos (suc n)) l h w x m e = let i : q ≡ p = ap place_of e in omega arith
entry_without p q (negsuc n) l h w x m e = let i : q ≡ p = ap place_of e in omega arith

without : (p q : ℕ) (k : List ℤ) → p < q → Without p (entries q k)
unfolding entries
without p q [] h = λ x m e. let i : 0 ≡ suc (length m) = ap length e in omega arith
without p q (z ∷ k) h = entry_without p q z (entries (suc q) k) h (without p (suc q) k (omega arith))

step : (p : ℕ) (l m : Entries) (z y : ℤ) → Without p l → Without p m → entry z p l ≡ entry y p m → (z ≡ y) × (l ≡ m)
unfolding entry
step p l m (pos zero) (pos zero) v w e = (refl, e)
step p l m (pos zero) (pos (suc n)) v w e = absurd (v _ _ e)
step p l m (pos zero) (negsuc n) v w e = absurd (v _ _ e)
step p l m (pos (suc a)) (pos zero) v w e = absurd (w _ _ (sym e))
step p l m (pos (suc a)) (pos (suc n)) v w e = (ap number_of e, ap rest_of e)
step p l m (pos (suc a)) (negsuc n) v w e = (ap number_of e, ap rest_of e)
step p l m (negsuc a) (pos zero) v w e = absurd (w _ _ (sym e))
step p l m (negsuc a) (pos (suc n)) v w e = (ap number_of e, ap rest_of e)
step p l m (negsuc a) (negsuc n) v w e = (ap number_of e, ap rest_of e)

pub entries-one : (p : ℕ) (k j : List ℤ) → length k ≡ length j → entries p k ≡ entries p j → k ≡ j
unfolding entries
entries-one p [] [] h e = refl
entries-one p [] (y ∷ j) h e = absurd (omega arith)
entries-one p (z ∷ k) [] h e = absurd (omega arith)
entries-one p (z ∷ k) (y ∷ j) h e =
    let s = step p (entries (suc p) k) (entries (suc p) j) z y (without p (suc p) k (omega arith)) (without p (suc p) j (omega arith)) e in
    ap₂ (λ (a : ℤ) (l : List ℤ). a ∷ l) s.0 (entries-one (suc p) k j (omega arith) s.1)
