-- Laws of `laid`: what a loop that writes element by element leaves, and what a caller has of it.
use mathlib.Core.Path.{◌≡◌, refl, sym, ap, subst, ◌∙◌}
use mathlib.Core.Bool.{Bool, true, false, ◌&&◌, false≢true}
use Prim.Native.Nat.{ℕ, zero, suc, ◌≤◌}
use native.Mathlib.Nat.{not-suc-le-zero, le_of_suc-le-suc}
use mathlib.Core.List.{List, [], ◌∷◌, ◌++◌}
use lib.Dec.{leb, ltb}
use Rattle.std.proofs.Common.{arith, inl, inr}
use Rattle.std.proofs.lemmas.Bool.{and_cases, ltb-false}
use lib.ListN.{length, take, drop}
use borrow.Author.Tests.{leb-true, le-leb}
use Rattle.exponents.specs.Words.{pick}
use Rattle.exponents.proofs.Equality.{and_left, and_right}
use Rattle.lent.specs.Lent.{over}
use Rattle.lent.proofs.Laws.{over_back}
use Rattle.lentwrites.specs.Held.{fits, laid}

both : (s t : Bool) → s ≡ true → t ≡ true → (s && t) ≡ true
both s t p q = ap (λ (b : Bool). b && t) p ∙ q

-- the test as code makes it
pub fits_is : (m n l : ℕ) → (leb n l && leb n m) ≡ fits m n l
unfolding fits
fits_is m n l = refl

fits_by : (m n l : ℕ) → n ≤ m → n ≤ l → fits m n l ≡ true
fits_by m n l p q = sym (fits_is m n l) ∙ both (leb n l) (leb n m) (le-leb n l q) (le-leb n m p)

module _ {X : Type 0} where
  -- n of them, where both have n
  over_is : (n : ℕ) (xs ys : List X) → n ≤ length xs → n ≤ length ys → over (take n xs) ys ≡ take n xs ++ drop n ys
  unfolding over
  over_is zero xs ys p q = refl
  over_is (suc n) [] ys p q = absurd (not-suc-le-zero p)
  over_is (suc n) (x ∷ xs) [] p q = absurd (not-suc-le-zero q)
  over_is (suc n) (x ∷ xs) (y ∷ ys) p q = ap {B = List X} (λ zs. x ∷ zs) (over_is n xs ys (le_of_suc-le-suc p) (le_of_suc-le-suc q))

  -- the loop that writes ends so
  pub laid-fits : (m n : ℕ) (xs ys : List X) → length xs ≡ m → (leb n (length ys) && leb n m) ≡ true → over (take n xs) ys ≡ laid m n xs ys
  unfolding laid fits
  laid-fits m n xs ys long e =
      over_is n xs ys (subst (λ (k : ℕ). n ≤ k) (sym long) (leb-true n m (and_right (leb n (length ys)) (leb n m) e))) (leb-true n (length ys) (and_left (leb n (length ys)) (leb n m) e))
      ∙ sym (ap {B = List X} (λ (b : Bool). pick b (take n xs ++ drop n ys) ys) e)

  pub laid_not : (m n : ℕ) (xs ys : List X) → (leb n (length ys) && leb n m) ≡ false → ys ≡ laid m n xs ys
  unfolding laid fits
  laid_not m n xs ys e = sym (ap {B = List X} (λ (b : Bool). pick b (take n xs ++ drop n ys) ys) e)

  -- where the loop ends: at n, or at once where n doesn't fit
  pub laid_end : (m n i : ℕ) (xs ys zs : List X) → length xs ≡ m → i ≤ n → ((leb n (length ys) && leb n m) ≡ false → i ≡ 0) → (ltb i n && (leb n (length ys) && leb n m)) ≡ false → zs ≡ over (take i xs) ys → zs ≡ laid m n xs ys
  unfolding over
  laid_end m n i xs ys zs long l none e p = go (leb n (length ys) && leb n m) refl
    where
      go : (b : Bool) → (leb n (length ys) && leb n m) ≡ b → zs ≡ laid m n xs ys
      go true f =
          let past : n ≤ i = elim (and_cases (ltb i n) (leb n (length ys) && leb n m) e) [ inl g ↦ ltb-false i n g | inr g ↦ absurd (false≢true (sym g ∙ f)) ] in
          let at : i ≡ n = omega arith in
          p ∙ ap (λ (k : ℕ). over (take k xs) ys) at ∙ laid-fits m n xs ys long f
      go false f = p ∙ ap (λ (k : ℕ). over (take k xs) ys) (none f) ∙ laid_not m n xs ys f

  -- all of a record of m places, whose elements are xs, where there is place for them
  pub laid-over : (m : ℕ) (xs zs ys : List X) → length zs ≡ m → length xs ≤ m → length xs ≤ length ys → laid m (length xs) (over xs zs) ys ≡ xs ++ drop (length xs) ys
  unfolding laid
  laid-over m xs zs ys full p q =
      ap {B = List X} (λ (b : Bool). pick b (take (length xs) (over xs zs) ++ drop (length xs) ys) ys) (fits_by m (length xs) (length ys) p q)
      ∙ ap {B = List X} (λ (ws : List X). ws ++ drop (length xs) ys) (over_back xs zs (subst (λ (k : ℕ). length xs ≤ k) (sym full) p))
