-- How many named rows come before a row tells where it stands: counts compare as the rows do. So places tell the order of rows, classes that of keys.
use mathlib.Core.Path.{◌≡◌, refl, sym, ◌∙◌, ap, ap₂}
use mathlib.Core.Logic.{inl, inr}
use mathlib.Core.List.{List, [], ◌∷◌, ◌++◌}
use Prim.Native.Nat.{ℕ, ◌+◌, ◌≤◌, compare, Ordering}
use native.Mathlib.Omega.{arith}
use lib.ListN.{get_or}
use Rattle.units.specs.declared.Factor.{Factor}
use Rattle.keys.specs.Key.{entries}
use Rattle.tables.specs.Rows.{Facts, nobody}
use Rattle.tables.specs.Held.{is_less, tally, before, Stands}
use Rattle.tables.specs.Order.{key_order, row_order}
use Rattle.keys.proofs.KeyOrder.{same_nat, less_nat, more_nat}
use Rattle.tables.proofs.Total.{swap, Total, both_total, lists_total, nat_total, z_total, rows_total}

-- ---- orders in which different rows may stand at one place

pub record Preorder {A : Type 0} (c : A → A → Ordering) : Type 0 where
  pub swaps : (a b : A) → c b a ≡ swap (c a b)
  pub same : (a b d : A) → c a b ≡ Ordering.eq → c d a ≡ c d b
  pub trans : (a b d : A) → c a b ≡ Ordering.lt → c b d ≡ Ordering.lt → c a d ≡ Ordering.lt

-- through any function
pub through_pre : {A B : Type 0} {c : B → B → Ordering} → Total c → (f : A → B) → Preorder (λ a b. c (f a) (f b))
through_pre {c = c} C f = record {
  swaps = λ a b. C.swaps (f a) (f b);
  same = λ a b d e. ap (c (f d)) (C.equal (f a) (f b) e);
  trans = λ a b d. C.trans (f a) (f b) (f d);
}

pub total_pre : {A : Type 0} {c : A → A → Ordering} → Total c → Preorder c
total_pre C = through_pre C (λ a. a)

pub keys_pre : (ks : List Facts) → Preorder (key_order ks)
unfolding key_order
keys_pre ks = through_pre (lists_total (both_total nat_total z_total)) (λ r. entries 0 (get_or ks r nobody).key)

-- ---- the rows that a list names

pub stands_first : (r : ℕ) (l m : List Factor) → Stands r l → Stands r (l ++ m)
stands_first r [] m x = elim x [ ]
stands_first r (f ∷ l) m (inl e) = inl e
stands_first r (f ∷ l) m (inr s) = inr (stands_first r l m s)

pub stands_second : (r : ℕ) (l m : List Factor) → Stands r m → Stands r (l ++ m)
stands_second r [] m s = s
stands_second r (f ∷ l) m s = inr (stands_second r l m s)

-- ---- counting

-- what is counted for the first is counted for the second
tally_keeps : (o p : Ordering) → (o ≡ Ordering.lt → p ≡ Ordering.lt) → (k a b : ℕ) → k + a ≤ b → k + tally (is_less o) a ≤ tally (is_less p) b
unfolding tally is_less
tally_keeps Ordering.lt p h k a b e = rw (h refl) (omega arith)
tally_keeps Ordering.eq Ordering.lt h k a b e = omega arith
tally_keeps Ordering.eq Ordering.eq h k a b e = e
tally_keeps Ordering.eq Ordering.gt h k a b e = e
tally_keeps Ordering.gt Ordering.lt h k a b e = omega arith
tally_keeps Ordering.gt Ordering.eq h k a b e = e
tally_keeps Ordering.gt Ordering.gt h k a b e = e

module _ {cmp : ℕ → ℕ → Ordering} (P : Preorder cmp) where
  itself : (r : ℕ) → cmp r r ≡ Ordering.eq
  itself r = go (cmp r r) (P.swaps r r)
    where
      go : (o : Ordering) → o ≡ swap o → o ≡ Ordering.eq
      go Ordering.lt e = absurd (let z : ◌≡◌ {A = ℕ} 0 1 = cc in omega arith)
      go Ordering.eq e = refl
      go Ordering.gt e = absurd (let z : ◌≡◌ {A = ℕ} 0 1 = cc in omega arith)

  pub before_same : (l : List Factor) (r s : ℕ) → cmp r s ≡ Ordering.eq → before cmp l r ≡ before cmp l s
  unfolding before
  before_same [] r s e = refl
  before_same (f ∷ l) r s e = ap₂ (λ o n. tally (is_less o) n) (P.same r s f.row e) (before_same l r s e)

  module _ (r s : ℕ) (e : cmp r s ≡ Ordering.lt) where
    more : (f : Factor) (k a b : ℕ) → k + a ≤ b → k + tally (is_less (cmp f.row r)) a ≤ tally (is_less (cmp f.row s)) b
    more f = tally_keeps (cmp f.row r) (cmp f.row s) (λ h. P.trans f.row r s h e)

    before-most : (l : List Factor) → 0 + before cmp l r ≤ before cmp l s
    unfolding before
    before-most [] = omega arith
    before-most (f ∷ l) = more f 0 _ _ (before-most l)

    before-less : (l : List Factor) → Stands r l → 1 + before cmp l r ≤ before cmp l s
    unfolding before tally is_less
    before-less [] x = elim x [ ]
    before-less (f ∷ l) (inl q) = rw (q, itself r, e) (let k = before-most l in omega arith)
    before-less (f ∷ l) (inr t) = more f 1 _ _ (before-less l t)

  -- rows that the list names stand as they compare
  pub before_tells : (l : List Factor) (r s : ℕ) → Stands r l → Stands s l → compare (before cmp l r) (before cmp l s) ≡ cmp r s
  before_tells l r s p q = go (cmp r s) refl
    where
      go : (o : Ordering) → cmp r s ≡ o → compare (before cmp l r) (before cmp l s) ≡ o
      go Ordering.lt e = less_nat _ _ (omega (arith, before-less r s e l p))
      go Ordering.eq e = ap (λ n. compare (before cmp l r) n) (sym (before_same l r s e)) ∙ same_nat (before cmp l r)
      go Ordering.gt e = more_nat _ _ (omega (arith, before-less s r (P.swaps r s ∙ ap swap e) l q))

-- ---- of a table

module _ (ks : List Facts) (l : List Factor) (r s : ℕ) (p : Stands r l) (q : Stands s l) where
  pub place_tells : compare (before (row_order ks) l r) (before (row_order ks) l s) ≡ row_order ks r s
  place_tells = before_tells (total_pre (rows_total ks)) l r s p q

  pub class_tells : compare (before (key_order ks) l r) (before (key_order ks) l s) ≡ key_order ks r s
  class_tells = before_tells (keys_pre ks) l r s p q

  -- rows of one class have one key
  pub one_key : before (key_order ks) l r ≡ before (key_order ks) l s → key_order ks r s ≡ Ordering.eq
  one_key e = sym class_tells ∙ ap (λ n. compare (before (key_order ks) l r) n) (sym e) ∙ same_nat (before (key_order ks) l r)

-- rows of one key have one class
pub one_class : (ks : List Facts) (l : List Factor) (r s : ℕ) → key_order ks r s ≡ Ordering.eq → before (key_order ks) l r ≡ before (key_order ks) l s
one_class ks l r s e = before_same (keys_pre ks) l r s e
