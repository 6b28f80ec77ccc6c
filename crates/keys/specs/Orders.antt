-- Comparisons built from others, and the order of keys (01, "Canonical form"): as lists of (place, number), a shorter beginning first.
use Rattle.std.specs.Prelude.{Bool, true, false, List, [], ◌∷◌, ℤ, pos, negsuc}
use Prim.Native.Nat.{ℕ, compare, Ordering}

-- by the first, then by the second
abbrev pub then : Ordering → Ordering → Ordering
then Ordering.lt p = Ordering.lt
then Ordering.eq p = p
then Ordering.gt p = Ordering.gt

-- lists, a shorter beginning first
abbrev pub lists : {A : Type 0} → (A → A → Ordering) → List A → List A → Ordering
lists c [] [] = Ordering.eq
lists c [] (y ∷ m) = Ordering.lt
lists c (x ∷ l) [] = Ordering.gt
lists c (x ∷ l) (y ∷ m) = then (c x y) (lists c l m)

abbrev pub compare_z : ℤ → ℤ → Ordering
compare_z (pos a) (pos b) = compare a b
compare_z (pos a) (negsuc b) = Ordering.gt
compare_z (negsuc a) (pos b) = Ordering.lt
compare_z (negsuc a) (negsuc b) = compare b a

-- two entries of keys: by the place, then by the number
abbrev pub pairs : ℕ × ℤ → ℕ × ℤ → Ordering
pairs x y = then (compare x.0 y.0) (compare_z x.1 y.1)

unfoldable pub is_eq : Ordering → Bool
is_eq Ordering.lt = false
is_eq Ordering.eq = true
is_eq Ordering.gt = false
