-- Orders that agree on the atoms of two lists give the same common factors, and the same list over them; neither has other atoms than the given lists.
use mathlib.Core.Path.{◌≡◌, refl, ap₂}
use mathlib.Core.List.{List, [], ◌∷◌, map}
use Prim.Native.Nat.{Ordering}
use Rattle.exponents.specs.Outcome.{apply}
use Rattle.exponents.specs.declared.Exponent.{Exponent}
use Rattle.exponents.specs.Fractions.{nought, same}
use Rattle.exponents.proofs.Holds.{Holds}
use Rattle.units.specs.declared.Factor.{Factor}
use Rattle.units.specs.Lists.{with_exponent, inverted}
use Rattle.tables.specs.Order.{Atom, atom, of}
use Rattle.canonical.specs.Canonical.{drop_if}
use Rattle.canonical.proofs.Keeping.{all_append}
use Rattle.canonical.proofs.Agree.{Atoms, AgreeOn}
use Rattle.std.specs.declared.option.Option.{Option}
use Rattle.std.specs.declared.option.Option.TheVariants.{Some, None}
use Rattle.common.specs.Common.{meet, if_same, with_shared, shared_with_lem, common, over}
use Rattle.common.specs.Held.{taken, lessen}
use Rattle.common.proofs.Shaped.{lessen_keeps}

-- ---- only atoms of the given lists
module _ (P : Atom → Type 0) where
  shared_atoms : (s : Option Exponent) (f : Factor) (l : List Factor) → P (atom f) → Atoms P l → Atoms P (with_shared s f l)
  unfolding with_shared
  shared_atoms (Some e) f l p h = (p, h)
  shared_atoms None f l p h = h

  pub common_atoms : (cmp : Atom → Atom → Ordering) (l m : List Factor) → Atoms P l → Atoms P (common cmp l m)
  unfolding common
  common_atoms cmp [] m h = tt
  common_atoms cmp (f ∷ l) m h = shared_atoms (shared_with_lem cmp f m) f (common cmp l m) h.0 (common_atoms cmp l m h.1)

  pub inverted_atoms : (l : List Factor) → Atoms P l → Atoms P (map inverted l)
  unfolding inverted with_exponent
  inverted_atoms [] h = tt
  inverted_atoms (f ∷ l) h = (h.0, inverted_atoms l h.1)

  pub over_atoms : (l c : List Factor) → Atoms P l → Atoms P c → Atoms P (over l c)
  over_atoms l c h k = all_append (λ f. P (atom f)) l (map inverted c) h (inverted_atoms c k)

  pub lessen_atoms : (cmp : Atom → Atom → Ordering) (l cs : List Factor) → Atoms P l → Holds (Atoms P) (lessen cmp l cs)
  lessen_atoms cmp = lessen_keeps cmp (λ f. P (atom f)) λ f e p _. p

-- ---- orders that agree where P holds
module _ (P : Atom → Type 0) (cmp cmp' : Atom → Atom → Ordering) (A : AgreeOn P cmp cmp') where
  shared_agrees : (f : Factor) (m : List Factor) → P (atom f) → Atoms P m → shared_with_lem cmp f m ≡ shared_with_lem cmp' f m
  unfolding shared_with_lem
  shared_agrees f [] p k = refl
  shared_agrees f (g ∷ m) p k = ap₂ (λ o s. if_same o (meet f.exponent g.exponent) s) (A (atom f) (atom g) p k.0) (shared_agrees f m p k.1)

  pub common_agrees : (l m : List Factor) → Atoms P l → Atoms P m → common cmp l m ≡ common cmp' l m
  unfolding common
  common_agrees [] m h k = refl
  common_agrees (f ∷ l) m h k = ap₂ (λ s r. with_shared s f r) (shared_agrees f m h.0 k) (common_agrees l m h.1 k)

  pub lessen_agrees : (l cs : List Factor) → Atoms P l → Atoms P cs → lessen cmp l cs ≡ lessen cmp' l cs
  unfolding lessen
  lessen_agrees [] cs h k = refl
  lessen_agrees (g ∷ m) [] h k = refl
  lessen_agrees (g ∷ m) (c ∷ cs) h k =
      let p = lessen_agrees m cs h.1 k.1 in
      let q = lessen_agrees m (c ∷ cs) h.1 k in
      λ i. taken (A (atom c) (atom g) k.0 h.0 i) g c (λ e. apply (drop_if (same e nought) (of (atom g) e)) (p i)) (q i)
