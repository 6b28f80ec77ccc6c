-- Laws of `over`, xs laid over ys, at once and as a loop that copies element by element meets them.
use mathlib.Core.Path.{◌≡◌, refl, ap}
use Prim.Native.Nat.{ℕ, zero, suc, ◌+◌, ◌<◌, ◌≤◌, min}
use Rattle.std.proofs.Common.{◌∙◌, nat_lt, ◌&&◌, false, inl, inr}
use Rattle.std.proofs.lemmas.Bool.{and_cases, ltb-false}
use native.Mathlib.Nat.{not-suc-le-zero, le_of_suc-le-suc}
use native.Mathlib.Omega.{arith}
use mathlib.Core.List.{List, [], ◌∷◌, ◌++◌}
use lib.ListN.{length, get_or, take, drop, set}
use Rattle.lent.specs.Lent.{over}

module _ {X : Type 0} where
  -- as many as fit, and the rest as it was
  pub over_is : (xs ys : List X) (n : ℕ) → n ≡ min (length xs) (length ys) → over xs ys ≡ take n xs ++ drop n ys
  unfolding over
  over_is [] ys zero e = refl
  over_is [] ys (suc n) e = absurd (omega arith)
  over_is (x ∷ xs) [] zero e = refl
  over_is (x ∷ xs) [] (suc n) e = absurd (omega arith)
  over_is (x ∷ xs) (y ∷ ys) zero e = absurd (omega arith)
  over_is (x ∷ xs) (y ∷ ys) (suc n) e = ap {B = List X} (λ zs. x ∷ zs) (over_is xs ys n (omega arith))

  -- one element more
  pub over-next : (xs ys : List X) (i : ℕ) (d : X) → i < length xs → set (over (take i xs) ys) i (get_or xs i d) ≡ over (take (suc i) xs) ys
  unfolding over
  over-next [] ys i d l = absurd (not-suc-le-zero l)
  over-next (x ∷ xs) [] zero d l = refl
  over-next (x ∷ xs) [] (suc i) d l = refl
  over-next (x ∷ xs) (y ∷ ys) zero d l = refl
  over-next (x ∷ xs) (y ∷ ys) (suc i) d l = ap {B = List X} (λ zs. x ∷ zs) (over-next xs ys i d (le_of_suc-le-suc l))

  -- all of them: xs is at its end, or ys is
  pub over_spent : (xs ys : List X) (i : ℕ) → length xs ≤ i → over (take i xs) ys ≡ over xs ys
  unfolding over
  over_spent [] ys zero l = refl
  over_spent [] ys (suc i) l = refl
  over_spent (x ∷ xs) ys zero l = absurd (not-suc-le-zero l)
  over_spent (x ∷ xs) [] (suc i) l = refl
  over_spent (x ∷ xs) (y ∷ ys) (suc i) l = ap {B = List X} (λ zs. x ∷ zs) (over_spent xs ys i (le_of_suc-le-suc l))

  pub over_full : (xs ys : List X) (i : ℕ) → length ys ≤ i → over (take i xs) ys ≡ over xs ys
  unfolding over
  over_full [] ys zero l = refl
  over_full [] ys (suc i) l = refl
  over_full (x ∷ xs) [] zero l = refl
  over_full (x ∷ xs) [] (suc i) l = refl
  over_full (x ∷ xs) (y ∷ ys) zero l = absurd (not-suc-le-zero l)
  over_full (x ∷ xs) (y ∷ ys) (suc i) l = ap {B = List X} (λ zs. x ∷ zs) (over_full xs ys i (le_of_suc-le-suc l))

  -- taken back: the elements, if there are places for them
  pub over_back : (xs ys : List X) → length xs ≤ length ys → take (length xs) (over xs ys) ≡ xs
  unfolding over
  over_back [] ys l = refl
  over_back (x ∷ xs) [] l = absurd (not-suc-le-zero l)
  over_back (x ∷ xs) (y ∷ ys) l = ap {B = List X} (λ zs. x ∷ zs) (over_back xs ys (le_of_suc-le-suc l))

  -- the same, as a loop that stops at both ends has them
  pub over_more : (xs ys zs : List X) (i : ℕ) (d : X) → i < length xs → zs ≡ over (take i xs) ys → set zs i (get_or xs i d) ≡ over (take (i + 1) xs) ys
  over_more xs ys zs i d l p =
      let e : suc i ≡ i + 1 = omega arith in
      ap (λ (ws : List X). set ws i (get_or xs i d)) p ∙ over-next xs ys i d l ∙ ap (λ (k : ℕ). over (take k xs) ys) e

  pub over_end : (xs ys zs : List X) (i n : ℕ) → length ys ≡ n → (nat_lt i (length xs) && nat_lt i n) ≡ false → zs ≡ over (take i xs) ys → zs ≡ over xs ys
  over_end xs ys zs i n e h p =
      elim (and_cases (nat_lt i (length xs)) (nat_lt i n) h) [ inl l ↦ p ∙ over_spent xs ys i (ltb-false i (length xs) l) | inr l ↦ p ∙ over_full xs ys i (omega (arith, e, ltb-false i n l)) ]
