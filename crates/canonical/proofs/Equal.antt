-- `same_list` decides whether two lists are equal; of canonical forms that is 01's equality of lists ("Canonical form").
use mathlib.Core.Path.{◌≡◌, refl, ap, ◌∙◌}
use mathlib.Core.List.{List, [], ◌∷◌}
use Prim.Native.Nat.{ℕ, Ordering}
use native.Mathlib.Omega.{arith}
use lib.ListN.{length}
use Rattle.exponents.proofs.Equality.{same_is, same_not}
use Rattle.units.specs.declared.Factor.{Factor}
use Rattle.tables.proofs.Total.{Total, swap}
use Rattle.tables.specs.Order.{Atom, atom}
use Rattle.keys.specs.Orders.{is_eq}
use Rattle.canonical.specs.Canonical.{same_list}
use Rattle.canonical.proofs.Decides.{Decides, decides_imp, always, never, and_decides}

pub is_eq_decides : (o : Ordering) → Decides (o ≡ Ordering.eq) (is_eq o)
unfolding is_eq
is_eq_decides Ordering.lt = never λ e. let z : ◌≡◌ {A = ℕ} 0 1 = cc in omega arith
is_eq_decides Ordering.eq = always refl
is_eq_decides Ordering.gt = never λ e. let z : ◌≡◌ {A = ℕ} 0 1 = cc in omega arith

swap_self : (o : Ordering) → o ≡ swap o → o ≡ Ordering.eq
swap_self Ordering.lt e = cc
swap_self Ordering.eq e = refl
swap_self Ordering.gt e = cc

module _ (cmp : Atom → Atom → Ordering) (O : Total cmp) where
  atom_decides : (u v : Atom) → Decides (u ≡ v) (is_eq (cmp u v))
  atom_decides u v = decides_imp (is_eq_decides (cmp u v)) (O.equal u v) λ e. ap (λ w. cmp w v) e ∙ swap_self (cmp v v) (O.swaps v v)

  pub same_list_lem : (l m : List Factor) → Decides (l ≡ m) (same_list cmp l m)
  unfolding same_list
  same_list_lem [] [] = always refl
  same_list_lem [] (g ∷ m) = never λ e. let z = ap length e in omega arith
  same_list_lem (f ∷ l) [] = never λ e. let z = ap length e in omega arith
  same_list_lem (f ∷ l) (g ∷ m) =
      decides_imp
      (and_decides _ _ (atom_decides (atom f) (atom g)) (and_decides _ _ (record { yea = same_is f.exponent g.exponent; nay = same_not f.exponent g.exponent }) (same_list_lem l m)))
      (λ h. λ i. record { row = (h.0 i).row; prefix = (h.0 i).prefix; exponent = h.1.0 i } ∷ h.1.1 i)
      (λ e. let p : f ≡ g = cc in let q : l ≡ m = cc in (ap atom p, (ap (λ (x : Factor). x.exponent) p, q)))
