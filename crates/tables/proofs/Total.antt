-- Orders that are total: one after the other, on lists, through a one-to-one function; of numbers, and of rows in any table.
use mathlib.Core.Path.{◌≡◌, refl, sym, ◌∙◌, ap, ap₂}
use mathlib.Core.Logic.{◌⊎◌, inl, inr, ⊎_elim}
use mathlib.Core.List.{List, [], ◌∷◌}
use Prim.Native.Nat.compare
use Prim.Native.Nat.{ℕ, zero, suc, ◌<◌, compare, Ordering}
use native.Mathlib.Omega.{arith}
use lib.IntN.{ℤ, pos, negsuc}
use lib.Dec.{eqb→eq}
use lib.ListN.{get_or}
use Rattle.keys.specs.Orders.{then, lists, compare_z}
use Rattle.keys.specs.Key.{entries}
use Rattle.tables.specs.Rows.{Facts, nobody}
use Rattle.tables.specs.Order.{key_order, row_order}

abbrev pub swap : Ordering → Ordering
swap Ordering.lt = Ordering.gt
swap Ordering.eq = Ordering.eq
swap Ordering.gt = Ordering.lt

pub record Total {A : Type 0} (c : A → A → Ordering) : Type 0 where
  pub swaps : (a b : A) → c b a ≡ swap (c a b)
  pub equal : (a b : A) → c a b ≡ Ordering.eq → a ≡ b
  pub trans : (a b d : A) → c a b ≡ Ordering.lt → c b d ≡ Ordering.lt → c a d ≡ Ordering.lt

swap_then : (o p : Ordering) → swap (then o p) ≡ then (swap o) (swap p)
swap_then Ordering.lt p = refl
swap_then Ordering.eq p = refl
swap_then Ordering.gt p = refl

then_lt : (o p : Ordering) → then o p ≡ Ordering.lt → (o ≡ Ordering.lt) ⊎ ((o ≡ Ordering.eq) × (p ≡ Ordering.lt))
then_lt Ordering.lt p e = inl refl
then_lt Ordering.eq p e = inr (refl, e)
then_lt Ordering.gt p e = inl e

then_eq : (o p : Ordering) → then o p ≡ Ordering.eq → (o ≡ Ordering.eq) × (p ≡ Ordering.eq)
then_eq Ordering.lt p e = (e, cc)
then_eq Ordering.eq p e = (refl, e)
then_eq Ordering.gt p e = (e, cc)

-- one step of a comparison that goes on: what makes it transitive
module _ {A : Type 0} {c : A → A → Ordering} (C : Total c) where
  pub then_trans : (a b d : A) (p q r : Ordering) → (p ≡ Ordering.lt → q ≡ Ordering.lt → r ≡ Ordering.lt) →
      then (c a b) p ≡ Ordering.lt → then (c b d) q ≡ Ordering.lt → then (c a d) r ≡ Ordering.lt
  then_trans a b d p q r h e g =
      ⊎_elim
      (λ ab. ⊎_elim (λ bd. rw (C.trans a b d ab bd)) (λ bd. rw (← C.equal b d bd.0, ab)) (then_lt (c b d) q g))
      (λ ab. ⊎_elim (λ bd. rw (C.equal a b ab.0, bd)) (λ bd. rw (C.equal a b ab.0, bd.0) (h ab.1 bd.1)) (then_lt (c b d) q g))
      (then_lt (c a b) p e)

-- first by the one, then by the other
module _ {A B : Type 0} {c : A → A → Ordering} {d : B → B → Ordering} (C : Total c) (D : Total d) where
  pub both_total : Total {A = A × B} (λ x y. then (c x.0 y.0) (d x.1 y.1))
  both_total = record {
    swaps = λ x y. ap₂ then (C.swaps x.0 y.0) (D.swaps x.1 y.1) ∙ sym (swap_then (c x.0 y.0) (d x.1 y.1));
    equal = λ x y e. let h = then_eq (c x.0 y.0) (d x.1 y.1) e in λ i. (C.equal x.0 y.0 h.0 i, D.equal x.1 y.1 h.1 i);
    trans = λ x y z e g. then_trans C x.0 y.0 z.0 _ _ _ (D.trans _ _ _) e g;
  }

module _ {A : Type 0} {c : A → A → Ordering} (C : Total c) where
  lists_swaps : (l m : List A) → lists c m l ≡ swap (lists c l m)
  lists_swaps [] [] = refl
  lists_swaps [] (y ∷ m) = refl
  lists_swaps (x ∷ l) [] = refl
  lists_swaps (x ∷ l) (y ∷ m) = ap₂ then (C.swaps x y) (lists_swaps l m) ∙ sym (swap_then (c x y) (lists c l m))

  lists-equal : (l m : List A) → lists c l m ≡ Ordering.eq → l ≡ m
  lists-equal [] [] e = refl
  lists-equal [] (y ∷ m) e = cc
  lists-equal (x ∷ l) [] e = cc
  lists-equal (x ∷ l) (y ∷ m) e = let h = then_eq (c x y) (lists c l m) e in ap₂ ◌∷◌ (C.equal x y h.0) (lists-equal l m h.1)

  lists_trans : (l m n : List A) → lists c l m ≡ Ordering.lt → lists c m n ≡ Ordering.lt → lists c l n ≡ Ordering.lt
  lists_trans [] [] n e g = cc
  lists_trans [] (y ∷ m) [] e g = cc
  lists_trans [] (y ∷ m) (z ∷ n) e g = refl
  lists_trans (x ∷ l) [] n e g = cc
  lists_trans (x ∷ l) (y ∷ m) [] e g = cc
  lists_trans (x ∷ l) (y ∷ m) (z ∷ n) e g = then_trans C x y z _ _ _ (lists_trans l m n) e g

  pub lists_total : Total (lists c)
  lists_total = record { swaps = lists_swaps; equal = lists-equal; trans = lists_trans }

-- through a one-to-one function
module _ {A B : Type 0} {c : B → B → Ordering} (C : Total c) (f : A → B) (one : (a b : A) → f a ≡ f b → a ≡ b) where
  pub through_total : Total (λ a b. c (f a) (f b))
  through_total = record { swaps = λ a b. C.swaps _ _; equal = λ a b e. one a b (C.equal _ _ e); trans = λ a b d. C.trans _ _ _ }

-- numbers
nat_swaps : (k m : ℕ) → compare m k ≡ swap (compare k m)
nat_swaps zero zero = refl
nat_swaps zero (suc m) = compare.suc-zero m ∙ ap swap (sym (compare.zero-suc m))
nat_swaps (suc k) zero = compare.zero-suc k ∙ ap swap (sym (compare.suc-zero k))
nat_swaps (suc k) (suc m) = compare.suc-suc m k ∙ nat_swaps k m ∙ ap swap (sym (compare.suc-suc k m))

nat_lt : (k m : ℕ) → compare k m ≡ Ordering.lt → k < m
nat_lt zero zero e = let z : ◌≡◌ {A = ℕ} 0 1 = cc in omega arith
nat_lt zero (suc m) e = omega arith
nat_lt (suc k) zero e = let z : ◌≡◌ {A = ℕ} 0 1 = cc (compare.suc-zero k) in omega arith
nat_lt (suc k) (suc m) e = let h = nat_lt k m (sym (compare.suc-suc k m) ∙ e) in omega arith

lt_nat : (k m : ℕ) → k < m → compare k m ≡ Ordering.lt
lt_nat k zero h = absurd (omega arith)
lt_nat zero (suc m) h = compare.zero-suc m
lt_nat (suc k) (suc m) h = compare.suc-suc k m ∙ lt_nat k m (omega arith)

pub nat_total : Total compare
nat_total = record {
  swaps = nat_swaps;
  equal = λ k m e. eqb→eq k m (rw e tt);
  trans = λ k m n p r. let a = nat_lt k m p in let b = nat_lt m n r in lt_nat k n (omega arith);
}

z_swaps : (a b : ℤ) → compare_z b a ≡ swap (compare_z a b)
z_swaps (pos a) (pos b) = nat_swaps a b
z_swaps (pos a) (negsuc b) = refl
z_swaps (negsuc a) (pos b) = refl
z_swaps (negsuc a) (negsuc b) = nat_swaps b a

z_equal : (a b : ℤ) → compare_z a b ≡ Ordering.eq → a ≡ b
z_equal (pos a) (pos b) e = ap pos (nat_total.equal a b e)
z_equal (pos a) (negsuc b) e = cc
z_equal (negsuc a) (pos b) e = cc
z_equal (negsuc a) (negsuc b) e = ap negsuc (sym (nat_total.equal b a e))

z_trans : (a b d : ℤ) → compare_z a b ≡ Ordering.lt → compare_z b d ≡ Ordering.lt → compare_z a d ≡ Ordering.lt
z_trans (pos a) (pos b) (pos d) e g = nat_total.trans a b d e g
z_trans (pos a) (pos b) (negsuc d) e g = g
z_trans (pos a) (negsuc b) d e g = cc
z_trans (negsuc a) (pos b) (pos d) e g = refl
z_trans (negsuc a) (pos b) (negsuc d) e g = cc
z_trans (negsuc a) (negsuc b) (pos d) e g = refl
z_trans (negsuc a) (negsuc b) (negsuc d) e g = nat_total.trans d b a g e

pub z_total : Total compare_z
z_total = record { swaps = z_swaps; equal = z_equal; trans = z_trans }

-- the order of rows, in any table: what it looks at tells the row
abbrev Seen : Type 0
Seen = List (ℕ × ℤ) × (ℕ × ℕ)

pub rows_total : (ks : List Facts) → Total (row_order ks)
unfolding row_order key_order
rows_total ks =
    through_total
    (both_total (lists_total (both_total nat_total z_total)) (both_total nat_total nat_total))
    (λ r. (entries 0 (get_or ks r nobody).key, ((get_or ks r nobody).rank, r)))
    (λ r s e. ap (λ (x : Seen). x.1.1) e)
