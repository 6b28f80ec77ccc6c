-- What holds of each element of a list, and of the answers of a traversal: element by element, in order.
use mathlib.Core.Path.{◌≡◌, refl, ap, ap₂}
use mathlib.Core.List.{List, [], ◌∷◌, map}
use Prim.Native.Nat.{ℕ, zero, suc, ◌<◌}
use native.Mathlib.Omega.{arith}
use lib.ListN.{length, get_or}
use Rattle.exponents.specs.Outcome.{Outcome, each}
use Rattle.exponents.proofs.Holds.{Holds, held, holds_map, holds_bind}
use Rattle.exponents.proofs.Value.{Value}
use Rattle.exponents.proofs.Totals.{total}
use Rattle.exponents.specs.Words.{All}

-- R between the elements of two lists, place by place
pub data Along {A B : Type 0} (R : A → B → Type 0) : List A → List B → Type 0 where
  done : Along R [] []
  next : {a : A} {b : B} {l : List A} {m : List B} → R a b → Along R l m → Along R (a ∷ l) (b ∷ m)

pub all_imp : {A : Type 0} {P Q : A → Type 0} (l : List A) → ((a : A) → P a → Q a) → All P l → All Q l
all_imp [] f h = tt
all_imp (a ∷ l) f h = (f a h.0, all_imp l f h.1)

-- what holds of each, at a place; and what holds at each place
pub all_at : {A : Type 0} (P : A → Type 0) (l : List A) (i : ℕ) (d : A) → i < length l → All P l → P (get_or l i d)
all_at P [] i d h a = absurd (omega arith)
all_at P (x ∷ l) zero d h a = a.0
all_at P (x ∷ l) (suc i) d h a = all_at P l i d (omega arith) a.1

pub all_by : {A : Type 0} (P : A → Type 0) (d : A) (l : List A) → ((i : ℕ) → i < length l → P (get_or l i d)) → All P l
all_by P d [] h = tt
all_by P d (x ∷ l) h = (h 0 (omega arith), all_by P d l (λ i k. h (suc i) (omega arith)))

pub all_both : {A : Type 0} (P Q : A → Type 0) (l : List A) → All P l → All Q l → All (λ a. P a × Q a) l
all_both P Q [] p q = tt
all_both P Q (a ∷ l) p q = ((p.0, q.0), all_both P Q l p.1 q.1)

pub along_all : {A B : Type 0} {P : B → Type 0} {l : List A} {m : List B} → Along (λ a b. P b) l m → All P m
along_all done = tt
along_all (next r s) = (r, along_all s)

module _ {A B : Type 0} {R : A → B → Type 0} where
  pub each_holds : (f : A → Outcome B) → ((a : A) → Holds (R a) (f a)) → (l : List A) → Holds (Along R l) (each f l)
  unfolding each
  each_holds f h [] = held done
  each_holds f h (a ∷ l) = holds_bind _ (h a) λ b r. holds_map _ (each_holds f h l) λ m s. next r s

  pub along_length : {l : List A} {m : List B} → Along R l m → length m ≡ length l
  along_length done = refl
  along_length (next r s) = ap suc (along_length s)

pub each_map : {A B C : Type 0} (f : B → Outcome C) (g : A → B) (l : List A) → each f (map g l) ≡ each (λ a. f (g a)) l
unfolding each
each_map f g [] = refl
each_map f g (a ∷ l) = rw (each_map f g l)

-- lists that are worth the same place by place have the same sum
pub along_total : (W : Value) {A B : Type 0} (v : A → W.Q) (w : B → W.Q) {l : List A} {m : List B} → Along (λ a b. w b ≡ v a) l m → total W w m ≡ total W v l
unfolding total
along_total W v w done = refl
along_total W v w (next r s) = ap₂ W.add r (along_total W v w s)
