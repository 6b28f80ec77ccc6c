-- The front of fewer rows is a beginning of the front of more.
use mathlib.Core.Path.{◌≡◌, refl, ap}
use mathlib.Core.List.{List, ◌∷◌}
use Prim.Native.Nat.{ℕ, zero, suc, ◌≤◌}
use native.Mathlib.Omega.{arith}
use lib.ListN.{length, take}
use Rattle.units.specs.declared.Row.{Row}
use Rattle.groups.specs.Taken.{Taken, nothing, taken}
use Rattle.files.specs.Records.{row?, front_on, front}

pub front_bound : (n : ℕ) (s : List ℕ) → length (front n s).0 ≤ n
unfolding front
front_bound zero s = omega arith
front_bound (suc n) s = go (front_bound n) (row? s)
  where
    go : ((s : List ℕ) → length (front n s).0 ≤ n) → (o : Taken Row) → length (front_on o s (λ r t. front n t)).0 ≤ suc n
    go i nothing = omega arith
    go i (taken r t) = omega (arith, i t)

pub front-first : (n k : ℕ) (s : List ℕ) → k ≤ length (front n s).0 → (front k s).0 ≡ take k (front n s).0
unfolding front
front-first n zero s h = refl
front-first zero (suc k) s h = absurd (omega arith)
front-first (suc n) (suc k) s h = go (front-first n k) (row? s) h
  where
    go : ((s : List ℕ) → k ≤ length (front n s).0 → (front k s).0 ≡ take k (front n s).0) → (o : Taken Row) → suc k ≤ length (front_on o s (λ r t. front n t)).0
        → (front_on o s (λ r t. front k t)).0 ≡ take (suc k) (front_on o s (λ r t. front n t)).0
    go i nothing h = absurd (omega arith)
    go i (taken r t) h = ap (λ l. r ∷ l) (i t (omega arith))

-- rows that are whole stay whole where more are asked for
pub front-more : (j n : ℕ) (s : List ℕ) → j ≤ n → length (front j s).0 ≡ j → j ≤ length (front n s).0
unfolding front
front-more zero n s h e = omega arith
front-more (suc j) zero s h e = absurd (omega arith)
front-more (suc j) (suc n) s h e = go (front-more j n) (row? s) e
  where
    go : ((s : List ℕ) → j ≤ n → length (front j s).0 ≡ j → j ≤ length (front n s).0) → (o : Taken Row) → length (front_on o s (λ r t. front j t)).0 ≡ suc j
        → suc j ≤ length (front_on o s (λ r t. front n t)).0
    go i nothing e = absurd (omega arith)
    go i (taken r t) e = omega (arith, i t (omega arith) (omega arith))

-- as many as are whole: what is left is the same
pub front_same : (n : ℕ) (s : List ℕ) → front (length (front n s).0) s ≡ front n s
unfolding front
front_same zero s = refl
front_same (suc n) s = go (front_same n) (row? s) refl
  where
    go : ((s : List ℕ) → front (length (front n s).0) s ≡ front n s) → (o : Taken Row) → row? s ≡ o → front (length (front_on o s (λ r t. front n t)).0) s ≡ front_on o s (λ r t. front n t)
    go i nothing e = refl
    go i (taken r t) e = rw e (ap (λ (p : List Row × List ℕ). (r ∷ p.0, p.1)) (i t))
