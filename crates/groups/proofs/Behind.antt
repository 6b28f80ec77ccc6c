-- What is read stands in front of what is left, and the form of what is read: what is written is read back whatever follows, and what reads as it was written so.
use mathlib.Core.Path.{◌≡◌, refl, sym, ap, ◌∙◌}
use mathlib.Core.Bool.{Bool, true, false}
use mathlib.Core.List.{List, [], ◌∷◌, ◌++◌, append_assoc}
use Prim.Native.Nat.{ℕ, zero, suc, ◌-◌, ◌≤◌, ◌<◌}
use native.Mathlib.Omega.{arith}
use lib.ListN.{length, drop, length-append}
use lib.Seq.{drop_at}
use Rattle.exponents.specs.Words.{All}
use Rattle.groups.specs.Taken.{Taken, nothing, taken, provided, then, run?}

-- t is the end of s
pub record Behind (s t : List ℕ) : Type 0 where
  pub front : List ℕ
  pub split : s ≡ front ++ t

pub same : (s : List ℕ) → Behind s s
same s = record { front = []; split = refl }

pub further : {s t u : List ℕ} → Behind s t → Behind t u → Behind s u
further {u = u} a b = record { front = a.front ++ b.front; split = a.split ∙ ap (λ l. a.front ++ l) b.split ∙ sym (append_assoc a.front b.front u) }

pub one_on : (b : ℕ) (s : List ℕ) → Behind (b ∷ s) s
one_on b s = record { front = b ∷ []; split = refl }

pub dropped : (s : List ℕ) (n : ℕ) → Behind s (drop n s)
dropped s zero = record { front = []; split = refl }
dropped [] (suc n) = record { front = []; split = refl }
dropped (b ∷ s) (suc n) = further (one_on b s) (dropped s n)

-- the place of what is left
pub place : {s t : List ℕ} → Behind s t → (i : ℕ) → i ≡ length s - length t → t ≡ drop i s
place {s} {t} h i e =
    let n = ap length h.split ∙ length-append h.front t in
    let k : length h.front ≡ i = omega arith in
    sym (ap (drop i) h.split ∙ drop_at h.front t i k)

pub shorter : {s t : List ℕ} → Behind s t → length t ≤ length s
shorter {s} {t} h = omega (arith, ap length h.split, length-append h.front t)

-- ---- through the readers

-- each reader leaves an end of what it was given
abbrev pub Leaves : {A : Type 0} → (List ℕ → Taken A) → Type 0
Leaves {A} r = (s : List ℕ) (a : A) (t : List ℕ) → r s ≡ taken a t → Behind s t

-- what a reader that reads on has read first
pub data Then {A B : Type 0} (o : Taken A) (f : A → List ℕ → Taken B) (b : B) (t : List ℕ) : Type 0 where
  first : (a : A) (s : List ℕ) → o ≡ taken a s → f a s ≡ taken b t → Then o f b t

pub parted : {A B : Type 0} (o : Taken A) (f : A → List ℕ → Taken B) (b : B) (t : List ℕ) → then o f ≡ taken b t → Then o f b t
unfolding then
parted nothing f b t e = let z : ◌≡◌ {A = ℕ} 0 1 = cc in absurd (omega arith)
parted (taken a s) f b t e = first a s refl e

-- a test that was met
pub met : {A : Type 0} (p : Bool) (o : Taken A) (a : A) (t : List ℕ) → provided p o ≡ taken a t → (p ≡ true) × (o ≡ taken a t)
met true o a t e = (refl, e)
met false o a t e = let z : ◌≡◌ {A = ℕ} 0 1 = cc in absurd (omega arith)

pub then_leaves : {A B : Type 0} {r : List ℕ → Taken A} {f : A → List ℕ → Taken B} → Leaves r → ((a : A) → Leaves (f a)) → Leaves (λ s. then (r s) f)
then_leaves {r = r} {f = f} h k s b t e = go (parted (r s) f b t e)
  where
    go : Then (r s) f b t → Behind s t
    go (first a u p q) = further (h s a u p) (k a u b t q)

pub taken_leaves : {A : Type 0} (a : A) → Leaves (taken a)
taken_leaves a s b t e = let z : s ≡ t = cc in record { front = []; split = z }

pub provided_leaves : {A : Type 0} (p : Bool) {r : List ℕ → Taken A} → Leaves r → Leaves (λ s. provided p (r s))
provided_leaves p {r} h s a t e = h s a t (met p (r s) a t e).1

pub run_leaves : {A : Type 0} {r : List ℕ → Taken A} → Leaves r → (n : ℕ) → Leaves (run? r n)
unfolding run?
run_leaves h zero = taken_leaves []
run_leaves {r = r} h (suc n) = then_leaves {r = r} h (λ a. then_leaves {r = run? r n} (run_leaves h n) (λ l. taken_leaves (a ∷ l)))

-- ---- bytes

abbrev pub Bytes : List ℕ → Type 0
Bytes s = All (λ b. b < 256) s

-- P tells what can be written, Q what has one form
pub record Only {A : Type 0} (P Q : A → Type 0) (bytes : A → List ℕ) (a : A) (s t : List ℕ) : Type 0 where
  pub written : Q a → s ≡ bytes a ++ t
  pub fits : P a
  pub rest : Bytes t

pub record Form {A : Type 0} (P Q : A → Type 0) (read : List ℕ → Taken A) (bytes : A → List ℕ) : Type 0 where
  pub back : (a : A) (s : List ℕ) → P a → read (bytes a ++ s) ≡ taken a s
  pub only : (s : List ℕ) (a : A) (t : List ℕ) → Bytes s → read s ≡ taken a t → Only P Q bytes a s t

abbrev pub Any : {A : Type 0} → A → Type 0
Any a = Unit {0}
