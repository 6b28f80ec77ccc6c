-- Lists that agree in their base exponents: an equivalence, kept by joining and by canonical forms; and a conversion of a nonzero value that answers is between such lists.
use mathlib.Core.Path.{◌≡◌, refl, sym, ◌∙◌, ap, subst}
use mathlib.Core.Bool.{true, false, true≢false}
use mathlib.Core.List.{List, [], ◌∷◌, ◌++◌}
use Prim.Native.Nat.{ℕ}
use Rattle.exponents.specs.Outcome.{Ok}
use Rattle.exponents.specs.declared.Exponent.{Exponent}
use Rattle.exponents.proofs.Holds.{Holds, moot, held, take_out, holds_by}
use Rattle.exponents.proofs.Value.{Value}
use Rattle.units.specs.declared.Factor.{Factor}
use Rattle.tables.specs.Lists.{base}
use Rattle.tables.specs.Rules.{Rules}
use Rattle.tables.proofs.Total.{Total}
use Rattle.canonical.specs.Canonical.{canon, same_all}
use Rattle.canonical.proofs.Algebra.{exact, exact_join, exact_canon, exact_equal}
use Rattle.canonical.proofs.Bases.{Agree, base_decides, agree_map, agree_all}
use Rattle.canonical.proofs.Decides.{found}
use Rattle.conversion.specs.Conversion.{standing, convert}
use Rattle.conversion.proofs.Cases.{Case, zero, equal, stopped, units, value, answer}
use Rattle.conversion.proofs.Ready.{stands}
use Rattle.conversion.proofs.Faithful.{case, faithful}

module _ (W : Value) where
  -- ---- an equivalence
  pub agree_self : (bs : List (ℕ → Exponent)) (l : List Factor) → Agree W bs l l
  agree_self bs l = agree_all W bs l l (λ b. refl)

  pub agree_sym : (bs : List (ℕ → Exponent)) (l m : List Factor) → Agree W bs l m → Agree W bs m l
  agree_sym bs l m a = agree_map W bs l m m l (λ b e. sym e) a

  pub agree_trans : (bs : List (ℕ → Exponent)) (l m n : List Factor) → Agree W bs l m → Agree W bs m n → Agree W bs l n
  agree_trans [] l m n a c = tt
  agree_trans (b ∷ bs) l m n a c = (a.0 ∙ c.0, agree_trans bs l m n a.1 c.1)

  -- ---- the same list put behind, or before
  pub agree_behind : (bs : List (ℕ → Exponent)) (l m k : List Factor) → Agree W bs l m → Agree W bs (l ++ k) (m ++ k)
  agree_behind bs l m k a = agree_map W bs l m (l ++ k) (m ++ k) (λ b e. exact_join W l k b ∙ ap (λ x. W.add x (exact W k b)) e ∙ sym (exact_join W m k b)) a

  pub agree_before : (bs : List (ℕ → Exponent)) (k l m : List Factor) → Agree W bs l m → Agree W bs (k ++ l) (k ++ m)
  agree_before bs k l m a = agree_map W bs l m (k ++ l) (k ++ m) (λ b e. exact_join W k l b ∙ ap (W.add (exact W k b)) e ∙ sym (exact_join W k m b)) a

  -- ---- told by the base exponents that are worked out
  module _ (bs : List (ℕ → Exponent)) (l m : List Factor) (xs ys : List Exponent) (p : base bs l ≡ Ok xs) (q : base bs m ≡ Ok ys) where
    pub same_agree : same_all xs ys ≡ true → Agree W bs l m
    same_agree = (base_decides W bs l m xs ys p q).yea

    pub agree_same : Agree W bs l m → same_all xs ys ≡ true
    agree_same = found (same_all xs ys) (base_decides W bs l m xs ys p q)

  module _ {A : Type 0} (R : Rules A) (O : Total R.order) where
    -- the canonical form agrees
    pub canon_agree : (l : List Factor) → Holds (λ c. Agree W R.bases l c) (canon R.order l)
    canon_agree l = holds_by _ (canon R.order l) λ c e. agree_all W R.bases l c λ b. sym (take_out (exact_canon W R.order O l b) e)

    -- ---- a conversion of a nonzero value that answers: the lists agree
    module _ (l m : List Factor) (v : A) (n : R.numbers.is_zero v ≡ false) where
      answer_agree : (k : Case R W standing l m v) → Holds (λ _. Agree W R.bases l m) (answer R W standing k)
      answer_agree (zero el em z) = absurd (true≢false (sym z ∙ n))
      answer_agree (equal {c} el em) = held (agree_all W R.bases l m (exact_equal W R.order O l m c el em))
      answer_agree (stopped s) = moot
      answer_agree (units s u) = moot
      answer_agree (value s a) = holds_by _ _ λ _ _. a

      pub convert_agree : Holds (λ _. Agree W R.bases l m) (convert R l m v)
      convert_agree = subst (λ o. Holds (λ _. Agree W R.bases l m) o) (sym (faithful R W O standing (stands W) l m v (case R W O standing (stands W) l m v))) (answer_agree (case R W O standing (stands W) l m v))
