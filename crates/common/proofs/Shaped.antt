-- What is made of lists whose factors keep their rule keeps it: common factors, what is left over those; and none is longer than its list.
use mathlib.Core.Path.{◌≡◌, subst}
use mathlib.Core.Bool.{false, ◌&&◌}
use mathlib.Core.List.{List, [], ◌∷◌, map}
use Prim.Native.Nat.{ℕ, suc, ◌≤◌, Ordering}
use native.Mathlib.Omega.{arith}
use lib.ListN.{length}
use Rattle.exponents.specs.Outcome.{Outcome}
use Rattle.exponents.specs.Fractions.{nought, neg, less, faulty, same}
use Rattle.exponents.specs.declared.Exponent.{Exponent}
use Rattle.exponents.proofs.Holds.{Holds, held, holds_imp, holds_map, holds_bind}
use Rattle.exponents.proofs.Exact.{neg_low}
use Rattle.exponents.proofs.InRange.{sound, neg_in_range, keeps_rule}
use Rattle.exponents.proofs.Sound.{add_sound}
use Rattle.units.specs.declared.Factor.{Factor}
use Rattle.units.specs.Lists.{some, factor_fault, with_exponent, inverted}
use Rattle.units.proofs.Sound.{exponent_sound}
use Rattle.exponents.specs.Words.{All}
use Rattle.tables.specs.Order.{Atom, atom, of}
use Rattle.exponents.proofs.Words.{pick_is}
use Rattle.canonical.proofs.Keeping.{each_faultless, none_faulty, Kept, kept_with, drop_keeps, drop-short}
use Rattle.std.specs.declared.option.Option.{Option}
use Rattle.std.specs.declared.option.Option.TheVariants.{Some, None}
use Rattle.common.specs.Common.{meet, if_same, with_shared, shared_with_lem, common}
use Rattle.common.specs.Held.{taken, lessen}

-- ---- what two factors share is one of their exponents: E holds of exponents
module _ (E : Exponent → Type 0) where
  abbrev pub Has : Option Exponent → Type 0
  Has (Some e) = E e
  Has None = Unit {0}

  pub meet_has : (x y : Exponent) → E x → E y → Has (meet x y)
  unfolding meet
  meet_has x y p q =
      pick_is Has (less nought x && less nought y) (pick_is Has (less x y) {a = Some x} {b = Some y} p q)
      (pick_is Has (less x nought && less y nought) (pick_is Has (less x y) {a = Some y} {b = Some x} q p) tt)

  if_has : (o : Ordering) (a b : Option Exponent) → Has a → Has b → Has (if_same o a b)
  unfolding if_same
  if_has Ordering.lt a b p q = q
  if_has Ordering.eq a b p q = p
  if_has Ordering.gt a b p q = q

  -- P holds of factors: their exponents have E, and any other with E keeps P
  module _ (P : Factor → Type 0) (exponent : (f : Factor) → P f → E f.exponent) (other : (f : Factor) (e : Exponent) → P f → E e → P (of (atom f) e)) where
    with_all : (s : Option Exponent) (f : Factor) (l : List Factor) → Has s → P f → All P l → All P (with_shared s f l)
    unfolding with_shared
    with_all (Some e) f l p h k = (other f e h p, k)
    with_all None f l p h k = k

    module _ (cmp : Atom → Atom → Ordering) where
      shared_has : (f : Factor) (m : List Factor) → E f.exponent → All P m → Has (shared_with_lem cmp f m)
      unfolding shared_with_lem
      shared_has f [] p h = tt
      shared_has f (g ∷ m) p h = if_has _ _ _ (meet_has f.exponent g.exponent p (exponent g h.0)) (shared_has f m p h.1)

      -- so P holds of the common factors
      pub common_all : (l m : List Factor) → All P l → All P m → All P (common cmp l m)
      unfolding common
      common_all [] m h k = tt
      common_all (f ∷ l) m h k = with_all _ f (common cmp l m) (shared_has f m (exponent f h.0) k) h.0 (common_all l m h.1 k)

with_short : (s : Option Exponent) (f : Factor) (l : List Factor) (n : ℕ) → length l ≤ n → length (with_shared s f l) ≤ suc n
unfolding with_shared
with_short (Some e) f l n h = omega arith
with_short None f l n h = omega arith

-- ---- inverted
inverted_keeps : (f : Factor) → Kept f → Kept (inverted f)
unfolding inverted with_exponent
inverted_keeps f h = let s = sound f.exponent (exponent_sound f h) in kept_with f (neg f.exponent) h (keeps_rule (neg f.exponent) (neg_in_range f.exponent s.0) (neg_low s.1))

inverted-all : (l : List Factor) → All Kept l → All Kept (map inverted l)
inverted-all [] h = tt
inverted-all (f ∷ l) h = (inverted_keeps f h.0, inverted-all l h.1)

pub inverted-kept : (l : List Factor) → some factor_fault l ≡ false → some factor_fault (map inverted l) ≡ false
inverted-kept l h = none_faulty factor_fault (map inverted l) (inverted-all l (each_faultless factor_fault l h))

-- `cmp` is the order of factors
module _ (cmp : Atom → Atom → Ordering) where
  -- ---- common factors

  -- an exponent that keeps its rule
  abbrev Fine : Exponent → Type 0
  Fine e = faulty e ≡ false

  pub taken_sound : (f : Factor) (m : List Factor) (e : Exponent) → faulty f.exponent ≡ false → some factor_fault m ≡ false → shared_with_lem cmp f m ≡ Some e → faulty e ≡ false
  taken_sound f m e p h t = subst (Has Fine) t (shared_has Fine Kept exponent_sound kept_with cmp f m p (each_faultless factor_fault m h))

  pub common_kept : (l m : List Factor) → some factor_fault l ≡ false → some factor_fault m ≡ false → some factor_fault (common cmp l m) ≡ false
  common_kept l m h k = none_faulty factor_fault (common cmp l m) (common_all Fine Kept exponent_sound kept_with cmp l m (each_faultless factor_fault l h) (each_faultless factor_fault m k))

  pub common_short : (l m : List Factor) → length (common cmp l m) ≤ length l
  unfolding common
  common_short [] m = omega arith
  common_short (f ∷ l) m = with_short _ f (common cmp l m) (length l) (common_short l m)

  -- ---- a list over them: what holds of the factors and of those with a sum for exponent
  taken_holds : (P : List Factor → Type 0) (o : Ordering) (g c : Factor) (merged : Exponent → Outcome (List Factor)) (rest : Outcome (List Factor)) →
      ((e : Exponent) → faulty e ≡ false → Holds P (merged e)) → Holds (λ r. P (g ∷ r)) rest → Holds P (taken o g c merged rest)
  unfolding taken
  taken_holds P Ordering.lt g c merged rest h k = holds_map _ k λ r p. p
  taken_holds P Ordering.eq g c merged rest h k = holds_bind _ (add_sound g.exponent c.exponent) h
  taken_holds P Ordering.gt g c merged rest h k = holds_map _ k λ r p. p

  -- P stays with another exponent
  module _ (P : Factor → Type 0) (any : (f : Factor) (e : Exponent) → P f → faulty e ≡ false → P (of (atom f) e)) where
    pub lessen_keeps : (l cs : List Factor) → All P l → Holds (All P) (lessen cmp l cs)
    unfolding lessen
    lessen_keeps [] cs h = held {a = []} tt
    lessen_keeps (g ∷ m) [] h = held {a = g ∷ m} h
    lessen_keeps (g ∷ m) (c ∷ cs) h =
        taken_holds (All P) _ g c _ _
        (λ e s. holds_map _ (lessen_keeps m cs h.1) λ r k. drop_keeps P (same e nought) (of (atom g) e) r (any g e h.0 s) k)
        (holds_imp (lessen_keeps m (c ∷ cs) h.1) λ r k. (h.0, k))

  pub lessen_kept : (l cs : List Factor) → some factor_fault l ≡ false → Holds (λ r. some factor_fault r ≡ false) (lessen cmp l cs)
  lessen_kept l cs h = holds_imp (lessen_keeps Kept kept_with l cs (each_faultless factor_fault l h)) (none_faulty factor_fault)

  pub lessen_short : (l cs : List Factor) → Holds (λ r. length r ≤ length l) (lessen cmp l cs)
  unfolding lessen
  lessen_short [] cs = held {a = []} (omega arith)
  lessen_short (g ∷ m) [] = held {a = g ∷ m} (omega arith)
  lessen_short (g ∷ m) (c ∷ cs) =
      taken_holds (λ r. length r ≤ suc (length m)) _ g c _ _
      (λ e s. holds_map _ (lessen_short m cs) λ r k. drop-short (same e nought) (of (atom g) e) r (length m) k)
      (holds_imp (lessen_short m (c ∷ cs)) λ r k. omega arith)
