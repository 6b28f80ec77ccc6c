-- What the check of a list tells, and calls that go on after it.
use mathlib.Core.Path.{◌≡◌, refl, sym, ap, ap₂, ◌∙◌}
use mathlib.Core.Bool.{Bool, true, false, ◌||◌}
use mathlib.Core.List.{List, ◌++◌}
use Prim.Native.Nat.{ℕ, ◌+◌, ◌≤◌, ◌<◌}
use lib.Dec.{ltb}
use lib.ListN.{length}
use borrow.Author.Tests.{lt-ltb, le-ltb, ltb-false}
use Rattle.exponents.specs.Outcome.{SHAPE, UNKNOWN, ROOM, Outcome, Ok, Err, unless, apply, bind, tested}
use Rattle.exponents.proofs.InRange.{or_left, or_right}
use Rattle.exponents.proofs.Holds.{one_answer}
use Rattle.exponents.proofs.Numbers.{unless_passed, clash}
use Rattle.units.specs.declared.Factor.{Factor}
use Rattle.units.specs.declared.Factors.{Factors}
use Rattle.units.specs.Lists.{list_of, pack, made_of, factor_fault, some, unknown, checked, both, joined}

-- ---- an outcome that answers nothing but a, and a call that goes on after it
module _ {A : Type 0} (o : Outcome A) (a : A) (h : o ≡ apply (λ _. a) (tested o)) where
  then_by : {B : Type 0} (f : A → Outcome B) → bind o f ≡ bind (tested o) (λ _. f a)
  unfolding bind
  then_by f = go o h
    where
      go : (o : Outcome A) → o ≡ apply (λ _. a) (tested o) → bind o f ≡ bind (tested o) (λ _. f a)
      go (Ok b) h = ap f (one_answer h)
      go (Err r) h = refl

-- ---- what callers learn
module _ (rows : ℕ) (l : Factors) where
  -- a list that passes is answered as it is
  pub checked_is : checked rows l ≡ apply (λ _. list_of l) (tested (checked rows l))
  unfolding checked unless
  checked_is = go (ltb 16 l.len || some factor_fault (list_of l)) (some (unknown rows) (list_of l))
    where
      test : Bool → Bool → Outcome (List Factor)
      test s u = unless s SHAPE (unless u UNKNOWN (Ok (list_of l)))

      go : (s u : Bool) → test s u ≡ apply (λ _. list_of l) (tested (test s u))
      go true u = refl
      go false true = refl
      go false false = refl

  pub checked_then : {B : Type 0} (f : List Factor → Outcome B) → bind (checked rows l) f ≡ bind (tested (checked rows l)) (λ _. f (list_of l))
  checked_then f = then_by (checked rows l) (list_of l) checked_is f

  module _ {u : Unit {0}} (h : Ok u ≡ tested (checked rows l)) where
    pub passes : checked rows l ≡ Ok (list_of l)
    passes = checked_is ∙ ap (apply (λ _. list_of l)) (sym h)

    no_shape : (ltb 16 l.len || some factor_fault (list_of l)) ≡ false
    unfolding checked
    no_shape = unless_passed _ SHAPE _ (list_of l) passes

    pub short : l.len ≤ 16
    short = ltb-false 16 l.len (or_left (ltb 16 l.len) (some factor_fault (list_of l)) no_shape)

    pub no_fault : some factor_fault (list_of l) ≡ false
    no_fault = or_right (ltb 16 l.len) (some factor_fault (list_of l)) no_shape

-- ---- two lists
abbrev pair_up : {A B : Type 0} → Outcome A → Outcome B → Outcome (A × B)
pair_up p q = bind p (λ a. apply (λ b. (a, b)) q)

paired : {A B : Type 0} (p : Outcome A) (q : Outcome B) (a : A) (b : B) → p ≡ apply (λ _. a) (tested p) → q ≡ apply (λ _. b) (tested q) → pair_up p q ≡ apply (λ _. (a, b)) (tested (pair_up p q))
unfolding bind
paired (Ok x) (Ok y) a b h k = ap₂ (λ s t. Ok (s, t)) (one_answer h) (one_answer k)
paired (Ok x) (Err r) a b h k = refl
paired (Err r) q a b h k = refl

paired_tested : {A B : Type 0} (p : Outcome A) (q : Outcome B) → tested (pair_up p q) ≡ bind (tested p) (λ _. tested q)
unfolding bind
paired_tested (Ok x) (Ok y) = refl
paired_tested (Ok x) (Err r) = refl
paired_tested (Err r) q = refl

module _ (rows : ℕ) (a b : Factors) where
  pub both_tested : tested (both rows a b) ≡ bind (tested (checked rows a)) (λ _. tested (checked rows b))
  unfolding both
  both_tested = paired_tested (checked rows a) (checked rows b)

  both_is : both rows a b ≡ apply (λ _. (list_of a, list_of b)) (tested (both rows a b))
  unfolding both
  both_is = paired (checked rows a) (checked rows b) (list_of a) (list_of b) (checked_is rows a) (checked_is rows b)

  pub both_then : {B : Type 0} (f : List Factor × List Factor → Outcome B) → bind (both rows a b) f ≡ bind (tested (both rows a b)) (λ _. f (list_of a, list_of b))
  both_then f = then_by (both rows a b) (list_of a, list_of b) both_is f

  module _ {u : Unit {0}} (h : Ok u ≡ tested (both rows a b)) where
    pub both_pass : both rows a b ≡ Ok (list_of a, list_of b)
    both_pass = both_is ∙ ap (apply (λ _. (list_of a, list_of b))) (sym h)

    split : (p q : Outcome (Unit {0})) → Ok u ≡ bind p (λ _. q) → (Ok u ≡ p) × (Ok u ≡ q)
    unfolding bind
    split (Ok t) q e = (refl, e)
    split (Err r) q e = absurd (clash e)

    pub first_passed : Ok u ≡ tested (checked rows a)
    first_passed = (split (tested (checked rows a)) (tested (checked rows b)) (h ∙ both_tested)).0

    pub second_passed : Ok u ≡ tested (checked rows b)
    second_passed = (split (tested (checked rows a)) (tested (checked rows b)) (h ∙ both_tested)).1

-- ---- joined lists
module _ (fs gs : List Factor) where
  pub no_room : 16 < length fs + length gs → Err ROOM ≡ made_of (joined fs gs)
  unfolding joined unless
  no_room h = rw (lt-ltb 16 (length fs + length gs) h)

  pub room : length fs + length gs ≤ 16 → Ok (pack (fs ++ gs)) ≡ made_of (joined fs gs)
  unfolding joined unless
  room h = rw (le-ltb 16 (length fs + length gs) h)
