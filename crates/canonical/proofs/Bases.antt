-- The base exponents that 01 works out are the exact ones, and comparing lists of them decides whether the units agree.
use mathlib.Core.Path.{◌≡◌, sym, ◌∙◌, ap}
use mathlib.Core.List.{List, [], ◌∷◌}
use Prim.Native.Nat.{ℕ}
use Rattle.exponents.specs.Outcome.{Ok}
use Rattle.exponents.specs.Fractions.{nought, same}
use Rattle.exponents.specs.declared.Exponent.{Exponent}
use Rattle.exponents.proofs.Holds.{Holds, take_out, holds_by}
use Rattle.exponents.proofs.Value.{Value}
use Rattle.exponents.proofs.Totals.{worth, total}
use Rattle.units.specs.declared.Factor.{Factor}
use Rattle.tables.specs.Lists.{base_at, base}
use Rattle.exponents.proofs.Each.{Along, done, next, each_holds}
use Rattle.canonical.specs.Canonical.{same_all, all_nought}
use Rattle.canonical.proofs.Algebra.{exact}
use Rattle.canonical.proofs.Sums.{has_worth, has_low}
use Rattle.canonical.proofs.Decides.{Decides, always, and_decides}

module _ (W : Value) where
  -- the same exact base exponents at each of the base rows
  abbrev pub Agree : List (ℕ → Exponent) → List Factor → List Factor → Type 0
  Agree [] l m = Unit {0}
  Agree (b ∷ bs) l m = (exact W l b ≡ exact W m b) × Agree bs l m

  -- x is the exact base exponent of l at b, in lowest terms
  pub record Exactly (l : List Factor) (b : ℕ → Exponent) (x : Exponent) : Type 0 where
    pub is : exact W l b ≡ worth W x
    pub low : W.Low x

  -- what `base` answers is exact
  pub base_exact : (bs : List (ℕ → Exponent)) (l : List Factor) → Holds (Along (Exactly l) bs) (base bs l)
  unfolding base
  base_exact bs l = each_holds (base_at l) (λ b. holds_by _ _ λ x e. record { is = sym (has_worth W b l x e); low = has_low W b l x e }) bs

  one_decides : (l m : List Factor) {b : ℕ → Exponent} (x y : Exponent) → Exactly l b x → Exactly m b y → Decides (exact W l b ≡ exact W m b) (same x y)
  one_decides l m x y p q = record {
    yea = λ e. p.is ∙ ap (worth W) (W.same_is x y e) ∙ sym q.is;
    nay = λ e h. W.same_not x y e (W.low_same x y p.low q.low (sym p.is ∙ h ∙ q.is));
  }

  pub same_decides : (l m : List Factor) {bs : List (ℕ → Exponent)} {xs ys : List Exponent} →
      Along (Exactly l) bs xs → Along (Exactly m) bs ys → Decides (Agree bs l m) (same_all xs ys)
  unfolding same_all
  same_decides l m done done = always tt
  same_decides l m (next p ps) (next q qs) = and_decides _ _ (one_decides l m _ _ p q) (same_decides l m ps qs)

  -- the empty list has zeros
  none_exactly : (b : ℕ → Exponent) → Exactly [] b nought
  unfolding exact total
  none_exactly b = record { is = sym (W.nil_act _); low = W.nil_low }

  pub nought_decides : (l : List Factor) {bs : List (ℕ → Exponent)} {xs : List Exponent} → Along (Exactly l) bs xs → Decides (Agree bs l []) (all_nought xs)
  unfolding all_nought
  nought_decides l done = always tt
  nought_decides l (next p ps) = and_decides _ _ (one_decides l [] _ nought p (none_exactly _)) (nought_decides l ps)

  -- the lists of two answers are the same exactly where the units agree
  pub base_decides : (bs : List (ℕ → Exponent)) (l m : List Factor) (xs ys : List Exponent) → base bs l ≡ Ok xs → base bs m ≡ Ok ys → Decides (Agree bs l m) (same_all xs ys)
  base_decides bs l m xs ys p q = same_decides l m (take_out (base_exact bs l) p) (take_out (base_exact bs m) q)

  -- and all zero exactly where the unit agrees with the scalar
  pub base-nought : (bs : List (ℕ → Exponent)) (l : List Factor) (xs : List Exponent) → base bs l ≡ Ok xs → Decides (Agree bs l []) (all_nought xs)
  base-nought bs l xs p = nought_decides l (take_out (base_exact bs l) p)

  pub agree_map : (bs : List (ℕ → Exponent)) (l m k n : List Factor) → ((b : ℕ → Exponent) → exact W l b ≡ exact W m b → exact W k b ≡ exact W n b) → Agree bs l m → Agree bs k n
  agree_map [] l m k n f a = tt
  agree_map (b ∷ bs) l m k n f a = (f b a.0, agree_map bs l m k n f a.1)

  pub agree_all : (bs : List (ℕ → Exponent)) (l m : List Factor) → ((b : ℕ → Exponent) → exact W l b ≡ exact W m b) → Agree bs l m
  agree_all [] l m f = tt
  agree_all (b ∷ bs) l m f = (f b, agree_all bs l m f)
