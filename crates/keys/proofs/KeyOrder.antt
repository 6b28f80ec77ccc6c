-- The order of keys as the code walks them: the places passed are the same, and the first that differs decides.
use mathlib.Core.Path.{◌≡◌, refl, sym, ◌∙◌, ap, ap₂}
use mathlib.Core.Bool.{Bool, true, false, true≢false}
use mathlib.Core.List.{List, [], ◌∷◌}
use Prim.Native.Nat.compare
use Prim.Native.Nat.{ℕ, zero, suc, ◌+◌, ◌<◌, compare, Ordering}
use native.Mathlib.Numerals.{add-one}
use native.Mathlib.Omega.{arith}
use lib.IntN.{ℤ, pos, negsuc}
use lib.ListN.{length, drop, get_or}
use lib.Signed.{lt_z}
use mir.Syntax.{w64}
use mir.Val.{SFits, to_z, of_z}
use mir.Facts.{to_z-of_z}
use borrow.Author.Tests.{ltb-true, ltb-false, lt-ltb}
use Rattle.std.specs.Ordering.{int_cmp}
use Rattle.keys.specs.Key.{entry, entries}
use Rattle.keys.specs.Orders.{then, lists, compare_z, pairs}
use Rattle.keys.specs.Held.{sense_of, more}
use Rattle.exponents.proofs.Places.{rest}

-- ---- numbers

pub same_nat : (n : ℕ) → compare n n ≡ Ordering.eq
same_nat zero = compare.zero-zero
same_nat (suc n) = compare.suc-suc n n ∙ same_nat n

pub less_nat : (k m : ℕ) → k < m → compare k m ≡ Ordering.lt
less_nat k zero h = absurd (omega arith)
less_nat zero (suc m) h = compare.zero-suc m
less_nat (suc k) (suc m) h = compare.suc-suc k m ∙ less_nat k m (omega arith)

pub more_nat : (k m : ℕ) → m < k → compare k m ≡ Ordering.gt
more_nat zero m h = absurd (omega arith)
more_nat (suc k) zero h = compare.suc-zero k
more_nat (suc k) (suc m) h = compare.suc-suc k m ∙ more_nat k m (omega arith)

pub less_z : (x y : ℤ) → lt_z x y ≡ true → compare_z x y ≡ Ordering.lt
less_z (pos a) (pos b) e = less_nat a b (ltb-true a b e)
less_z (pos a) (negsuc b) e = absurd (true≢false (sym e))
less_z (negsuc a) (pos b) e = refl
less_z (negsuc a) (negsuc b) e = less_nat b a (ltb-true b a e)

more_z : (x y : ℤ) → lt_z x y ≡ false → (x ≡ y → ⊥) → (lt_z y x ≡ true) × (compare_z x y ≡ Ordering.gt)
more_z (pos a) (pos b) e n = let k = ltb-false a b e in let l : a ≡ b → ⊥ = λ h. n (ap pos h) in (lt-ltb b a (omega arith), more_nat a b (omega arith))
more_z (pos a) (negsuc b) e n = (refl, refl)
more_z (negsuc a) (pos b) e n = absurd (true≢false e)
more_z (negsuc a) (negsuc b) e n = let k = ltb-false b a e in let l : a ≡ b → ⊥ = λ h. n (ap negsuc h) in (lt-ltb a b (omega arith), more_nat b a (omega arith))

-- code compares them as the definition does
pub cmp_z : (x y : ℤ) → (x ≡ y → ⊥) → int_cmp x y ≡ sense_of (compare_z x y)
cmp_z x y n = go (lt_z x y) refl
  where
    go : (t : Bool) → lt_z x y ≡ t → int_cmp x y ≡ sense_of (compare_z x y)
    go true e = rw (e, less_z x y e)
    go false e = let m = more_z x y e n in rw (e, m.0, m.1)

-- two numbers are the same if their bits are
pub bits-same : {x y : ℤ} → SFits w64 x → SFits w64 y → of_z w64 x ≡ of_z w64 y → x ≡ y
bits-same f g e = sym (to_z-of_z f) ∙ ap (to_z w64) e ∙ to_z-of_z g

pub bits-zero : {z : ℤ} → SFits w64 z → of_z w64 z ≡ 0 → z ≡ pos 0
bits-zero f e = bits-same f (record { sfits = omega arith }) e

-- ---- entries

entry-some : (z : ℤ) (p : ℕ) (l : List (ℕ × ℤ)) → (z ≡ pos 0 → ⊥) → entry z p l ≡ (p, z) ∷ l
unfolding entry
entry-some (pos zero) p l h = absurd (h refl)
entry-some (pos (suc n)) p l h = refl
entry-some (negsuc n) p l h = refl

-- the same entry or none changes nothing
entry-same : (z : ℤ) (p : ℕ) (l m : List (ℕ × ℤ)) → lists pairs (entry z p l) (entry z p m) ≡ lists pairs l m
unfolding entry
entry-same (pos zero) p l m = refl
entry-same (pos (suc n)) p l m = rw (same_nat p, same_nat (suc n))
entry-same (negsuc n) p l m = rw (same_nat p, same_nat n)

-- one that has its next entry at a higher place, or none, against one with an entry here; and the other way round
abbrev against : Bool → Ordering
against true = Ordering.gt
against false = Ordering.lt

abbrev towards : Bool → Ordering
towards true = Ordering.lt
towards false = Ordering.gt

module _ (p : ℕ) (y : ℤ) (m : List (ℕ × ℤ)) where
  behind : (q : ℕ) (l : List ℤ) → p < q → lists pairs (entries q l) ((p, y) ∷ m) ≡ against (more l)
  unfolding entries entry more
  behind q [] h = refl
  behind q (pos zero ∷ l) h = behind (suc q) l (omega arith)
  behind q (pos (suc n) ∷ l) h = rw (more_nat q p h)
  behind q (negsuc n ∷ l) h = rw (more_nat q p h)

  before : (q : ℕ) (l : List ℤ) → p < q → lists pairs ((p, y) ∷ m) (entries q l) ≡ towards (more l)
  unfolding entries entry more
  before q [] h = refl
  before q (pos zero ∷ l) h = before (suc q) l (omega arith)
  before q (pos (suc n) ∷ l) h = rw (less_nat p q h)
  before q (negsuc n ∷ l) h = rw (less_nat p q h)

-- ---- two keys from place p on

abbrev pub from : ℕ → List ℤ → List (ℕ × ℤ)
from p k = entries p (drop p k)

abbrev at : List ℤ → ℕ → ℤ
at k p = get_or k p (pos 0)

from_is : (k : List ℤ) (p : ℕ) → p < length k → from p k ≡ entry (at k p) p (from (p + 1) k)
unfolding entries
from_is k p h = ap (entries p) (rest k (pos 0) p h) ∙ ap (λ q. entry (at k p) p (entries q (drop (p + 1) k))) (sym (add-one p))

module _ (a b : List ℤ) (p : ℕ) (h : p < length a) (k : p < length b) where
  unrolled : lists pairs (from p a) (from p b) ≡ lists pairs (entry (at a p) p (from (p + 1) a)) (entry (at b p) p (from (p + 1) b))
  unrolled = ap₂ (lists pairs) (from_is a p h) (from_is b p k)

  -- the numbers are the same
  pub same_on : at a p ≡ at b p → lists pairs (from p a) (from p b) ≡ lists pairs (from (p + 1) a) (from (p + 1) b)
  same_on e = unrolled ∙ ap (λ z. lists pairs (entry (at a p) p (from (p + 1) a)) (entry z p (from (p + 1) b))) (sym e) ∙ entry-same (at a p) p _ _

-- the numbers at place p, as the code reads them, differ
pub record Parted (a b : List ℤ) (p : ℕ) : Type 0 where
  pub in_first : p < length a
  pub in_second : p < length b
  pub fits-first : SFits w64 (at a p)
  pub fits-second : SFits w64 (at b p)
  pub differ : at a p ≡ at b p → ⊥

module _ {a b : List ℤ} {p : ℕ} (q : Parted a b p) where
  -- the first key has none here
  pub first_none : of_z w64 (at a p) ≡ 0 → (t : Bool) → t ≡ more (drop (p + 1) a) → sense_of (against t) ≡ sense_of (lists pairs (from p a) (from p b))
  unfolding entry
  first_none z t m =
      let e = bits-zero q.fits-first z in
      ap (λ t. sense_of (against t)) m
      ∙ sym (ap sense_of
      (unrolled a b p q.in_first q.in_second
      ∙ ap₂ (λ x l. lists pairs (entry x p (from (p + 1) a)) l) e (entry-some (at b p) p _ (λ z. q.differ (e ∙ sym z)))
      ∙ behind p (at b p) (from (p + 1) b) (p + 1) (drop (p + 1) a) (omega arith)))

  -- the second has none here
  pub second_none : of_z w64 (at b p) ≡ 0 → (t : Bool) → t ≡ more (drop (p + 1) b) → sense_of (towards t) ≡ sense_of (lists pairs (from p a) (from p b))
  unfolding entry
  second_none z t m =
      let e = bits-zero q.fits-second z in
      ap (λ t. sense_of (towards t)) m
      ∙ sym (ap sense_of
      (unrolled a b p q.in_first q.in_second
      ∙ ap₂ (λ l x. lists pairs l (entry x p (from (p + 1) b))) (entry-some (at a p) p _ (λ z. q.differ (z ∙ sym e))) e
      ∙ before p (at a p) (from (p + 1) a) (p + 1) (drop (p + 1) b) (omega arith)))

  -- both have one
  module _ (u : of_z w64 (at a p) ≡ 0 → ⊥) (v : of_z w64 (at b p) ≡ 0 → ⊥) where
    numbers : lists pairs (from p a) (from p b) ≡ then (compare_z (at a p) (at b p)) (lists pairs (from (p + 1) a) (from (p + 1) b))
    numbers =
        unrolled a b p q.in_first q.in_second
        ∙ ap₂ (lists pairs) (entry-some (at a p) p _ (λ e. u (ap (of_z w64) e))) (entry-some (at b p) p _ (λ e. v (ap (of_z w64) e)))
        ∙ rw (same_nat p)

    read : int_cmp (to_z w64 (of_z w64 (at a p))) (to_z w64 (of_z w64 (at b p))) ≡ sense_of (compare_z (at a p) (at b p))
    read = ap₂ int_cmp (to_z-of_z q.fits-first) (to_z-of_z q.fits-second) ∙ cmp_z (at a p) (at b p) q.differ

    pub both : int_cmp (to_z w64 (of_z w64 (at a p))) (to_z w64 (of_z w64 (at b p))) ≡ sense_of (lists pairs (from p a) (from p b))
    both = read ∙ decided (lt_z (at a p) (at b p)) refl ∙ sym (ap sense_of numbers)
      where
        decided : (t : Bool) → lt_z (at a p) (at b p) ≡ t → sense_of (compare_z (at a p) (at b p)) ≡ sense_of (then (compare_z (at a p) (at b p)) (lists pairs (from (p + 1) a) (from (p + 1) b)))
        decided true e = rw (less_z (at a p) (at b p) e)
        decided false e = rw (more_z (at a p) (at b p) e q.differ).1

-- ---- a search for a number other than zero

more-zero : (z : ℤ) (l : List ℤ) → z ≡ pos 0 → more (z ∷ l) ≡ more l
unfolding more
more-zero z l e = rw e

more-some : (z : ℤ) (l : List ℤ) → (z ≡ pos 0 → ⊥) → true ≡ more (z ∷ l)
unfolding more
more-some (pos zero) l h = absurd (h refl)
more-some (pos (suc n)) l h = refl
more-some (negsuc n) l h = refl

module _ (k : List ℤ) (i : ℕ) (h : i < length k) where
  pub more_on : at k i ≡ pos 0 → more (drop i k) ≡ more (drop (i + 1) k)
  more_on e = ap more (rest k (pos 0) i h) ∙ more-zero _ _ e

  pub more_here : (at k i ≡ pos 0 → ⊥) → true ≡ more (drop i k)
  more_here n = more-some _ _ n ∙ sym (ap more (rest k (pos 0) i h))
