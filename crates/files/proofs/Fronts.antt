-- The front of a file: as many of its rows as are whole. All of n rows are read exactly if the front has n.
use mathlib.Core.Path.{◌≡◌, refl, ap}
use mathlib.Core.Bool.{true, false}
use mathlib.Core.List.{List, [], ◌∷◌}
use Prim.Native.Nat.{ℕ, zero, suc, ◌≤◌}
use native.Mathlib.Omega.{arith}
use lib.ListN.{length}
use Rattle.units.specs.declared.Row.{Row}
use Rattle.groups.specs.Taken.{Taken, nothing, taken, then, run?}
use Rattle.files.specs.Records.{row?, front_on, front, is_nil}
use Rattle.groups.proofs.Behind.{shorter}
use Rattle.files.proofs.Tables.{row_leaves}

-- ---- all of n rows

-- what the front of a file says of n rows
pub front-all : (n : ℕ) (s : List ℕ) → length (front n s).0 ≡ n → run? row? n s ≡ taken (front n s).0 (front n s).1
unfolding front run? then
front-all zero s e = refl
front-all (suc n) s e = go (front-all n) (row? s) e
  where
    go : ((s : List ℕ) → length (front n s).0 ≡ n → run? row? n s ≡ taken (front n s).0 (front n s).1) → (o : Taken Row)
        → length (front_on o s (λ r t. front n t)).0 ≡ suc n → then o (λ a s₁. then (run? row? n s₁) (λ l s₂. taken (a ∷ l) s₂)) ≡ taken (front_on o s (λ r t. front n t)).0 (front_on o s (λ r t. front n t)).1
    go i nothing e = absurd (omega arith)
    go i (taken r t) e = rw (i t (omega arith))

pub front-some : (n : ℕ) (s : List ℕ) → (length (front n s).0 ≡ n → ⊥) → run? row? n s ≡ nothing
unfolding front run? then
front-some zero s e = absurd (e refl)
front-some (suc n) s e = go (front-some n) (row? s) e
  where
    go : ((s : List ℕ) → (length (front n s).0 ≡ n → ⊥) → run? row? n s ≡ nothing) → (o : Taken Row)
        → (length (front_on o s (λ r t. front n t)).0 ≡ suc n → ⊥) → then o (λ a s₁. then (run? row? n s₁) (λ l s₂. taken (a ∷ l) s₂)) ≡ nothing
    go i nothing e = refl
    go i (taken r t) e = rw (i t (λ h. e (ap suc h)))

pub front_shorter : (n : ℕ) (s : List ℕ) → length (front n s).1 ≤ length s
unfolding front
front_shorter zero s = omega arith
front_shorter (suc n) s = go (front_shorter n) (row? s) refl
  where
    go : ((s : List ℕ) → length (front n s).1 ≤ length s) → (o : Taken Row) → row? s ≡ o → length (front_on o s (λ r t. front n t)).1 ≤ length s
    go i nothing e = omega arith
    go i (taken r t) e = omega (arith, i t, shorter (row_leaves s r t e))

pub no_bytes : (t : List ℕ) → length t ≡ 0 → is_nil t ≡ true
no_bytes [] e = refl
no_bytes (b ∷ t) e = absurd (omega arith)

pub some_bytes : (t : List ℕ) → (length t ≡ 0 → ⊥) → is_nil t ≡ false
some_bytes [] e = absurd (e refl)
some_bytes (b ∷ t) e = refl
