-- A list that passed its check has at most 16 factors, each of a row that is there; the candidates are checked one by one as the rule says; and each of those given has a list that passed.
use mathlib.Core.Path.{◌≡◌, refl, sym, ap, ◌∙◌, subst}
use mathlib.Core.Bool.{false}
use mathlib.Core.List.{List, [], ◌∷◌}
use Prim.Native.Nat.{ℕ, zero, suc, ◌+◌, ◌≤◌, ◌<◌}
use native.Mathlib.Omega.{arith}
use native.Mathlib.Numerals.{add-one}
use borrow.Author.Tests.{ltb-false, lt-ltb, le-ltb}
use lib.Dec.{ltb}
use lib.ListN.{length, take, get_or}
use lib.Seq.{get_or-take, length-take-le}
use Rattle.std.specs.Ordering.{ord_min, nat_cmp}
use Rattle.std.proofs.lemmas.Bool.Decides.{nat_tests}
use Rattle.exponents.specs.Outcome.{Outcome, Ok, Err, SHAPE, unless, apply, bind, tested}
use Rattle.exponents.proofs.Holds.{Holds, held, take_out, holds_eq, holds_imp, holds_unless, holds_map, holds_bind, one_answer}
use Rattle.units.specs.declared.Factor.{Factor}
use Rattle.units.specs.declared.Factors.{Factors}
use Rattle.units.specs.declared.Candidate.{Candidate}
use Rattle.units.specs.declared.Candidates.{Candidates}
use Rattle.units.specs.Lists.{list_of, some, factor_fault, checked}
use Rattle.units.proofs.Laws.{listed as long-list}
use Rattle.units.proofs.Checked.{short as list-short, no_fault, passes}
use Rattle.exponents.proofs.Each.{all_at, Along, done, next, along_length}
use Rattle.exponents.specs.Words.{All}
use Rattle.simplification.proofs.Sounding.{Passes, row_known, checked_passed}
use Rattle.registry.specs.Registry.{lists_from, candidate_lists}

-- ---- what stands along each, at a place
along_at : {A B : Type 0} {R : A → B → Type 0} {l : List A} {m : List B} → Along R l m → (i : ℕ) (d : A) (e : B) → i < length l → R (get_or l i d) (get_or m i e)
along_at done i d e h = absurd (omega arith)
along_at (next r a) zero d e h = r
along_at (next r a) (suc i) d e h = along_at a i d e (omega arith)

-- ---- a list that passed
pub record Listed (rows : ℕ) (l : Factors) (fs : List Factor) : Type 0 where
  pub is : fs ≡ list_of l
  pub short : l.len ≤ 16
  pub few : length fs ≤ 16
  pub shaped : some factor_fault fs ≡ false
  pub pass : All (Passes rows) fs

module _ (rows : ℕ) (l : Factors) (fs : List Factor) (e : checked rows l ≡ Ok fs) where
  pub given_list : fs ≡ list_of l
  given_list = one_answer (sym e ∙ passes rows l {u = tt} (sym (ap (λ o. tested o) e)))

  pub given_short : l.len ≤ 16
  given_short = list-short rows l {u = tt} (sym (ap (λ o. tested o) e))

module _ {rows : ℕ} {l : Factors} {fs : List Factor} where
  pub listed : checked rows l ≡ Ok fs → Listed rows l fs
  listed e =
      let z : Ok tt ≡ tested (checked rows l) = sym (ap (λ o. tested o) e) in
      let i = given_list rows l fs e in
      let p = take_out (checked_passed rows l) e in
      record { is = i; short = given_short rows l fs e; few = p.0; shaped = ap (some factor_fault) i ∙ no_fault rows l z; pass = p.1 }

  module _ (g : Listed rows l fs) where
    pub list_long : length l.at ≡ 16 → length fs ≡ l.len
    list_long h = ap length g.is ∙ long-list l h g.short

    pub factor_at_lem : (i : ℕ) (d : Factor) → i < l.len → get_or l.at i d ≡ get_or fs i d
    factor_at_lem i d h = sym (get_or-take l.len l.at i d h) ∙ ap (λ m. get_or m i d) (sym g.is)

    pub row_there : (i : ℕ) (d : Factor) → i < length fs → (get_or fs i d).row < rows
    row_there i d h = row_known rows (get_or fs i d) (all_at (Passes rows) fs i d h g.pass)

-- ---- how many candidates there are, of 32 places
pub all_given : (n m : ℕ) → n ≤ 32 → m ≡ ord_min nat_cmp n 32 → m ≡ n
all_given n m h e = grind (arith, nat_tests)

-- ---- the candidates checked one by one

-- what a read past the end of an array gives: never met
abbrev pub nil_candidate : Candidate
nil_candidate = record { unit = record { at = []; len = 0 }; rank = 0 }

-- those that count
abbrev pub those : Candidates → List Candidate
those c = take c.len c.at

pub none_left : (rows least : ℕ) → tested (lists_from rows least []) ≡ Ok tt
unfolding lists_from
none_left rows least = refl

-- one, and those after it
then_tested : {A B C : Type 0} (o : Outcome A) (f : A → B → C) (p : Outcome B) → tested (bind o (λ a. apply (f a) p)) ≡ bind (tested o) (λ _. tested p)
unfolding bind
then_tested (Ok a) f (Ok b) = refl
then_tested (Ok a) f (Err r) = refl
then_tested (Err r) f p = refl

module _ (rows least : ℕ) (x : Candidate) (l : List Candidate) where
  pub too_low : x.rank < least → tested (lists_from rows least (x ∷ l)) ≡ Err SHAPE
  unfolding lists_from unless
  too_low k = rw (lt-ltb x.rank least k)

  pub in_order : least ≤ x.rank → tested (lists_from rows least (x ∷ l)) ≡ bind (tested (checked rows x.unit)) (λ _. tested (lists_from rows (x.rank + 1) l))
  unfolding lists_from unless
  in_order k =
      rw (le-ltb x.rank least k)
      (then_tested (checked rows x.unit) (λ fs ms. fs ∷ ms) (lists_from rows (suc x.rank) l)
      ∙ ap (λ m. bind (tested (checked rows x.unit)) (λ _. tested (lists_from rows m l))) (sym (add-one x.rank)))

-- ---- the candidates' lists: what holds between each and its list that passed
module _ (rows : ℕ) (R : Candidate → List Factor → Type 0) (each : (x : Candidate) → Holds (R x) (checked rows x.unit)) where
  lists_hold : (least : ℕ) (cs : List Candidate) → Holds (Along R cs) (lists_from rows least cs)
  unfolding lists_from
  lists_hold least [] = held done
  lists_hold least (x ∷ cs) = holds_unless _ SHAPE λ _. holds_bind _ (each x) λ fs r. holds_map _ (lists_hold (suc x.rank) cs) λ ms a. next r a

  pub candidates_hold : (c : Candidates) → Holds (λ ms. (c.len ≤ 32) × Along R (those c) ms) (candidate_lists rows c)
  unfolding candidate_lists
  candidates_hold c = holds_unless (ltb 32 c.len) SHAPE λ t. holds_imp (lists_hold 0 (those c)) λ ms a. (ltb-false 32 c.len t, a)

module _ (rows : ℕ) (c : Candidates) (ms : List (List Factor)) (e : candidate_lists rows c ≡ Ok ms) where
  abbrev Has : Candidate → List Factor → Type 0
  Has x fs = checked rows x.unit ≡ Ok fs

  given_lists : (c.len ≤ 32) × Along Has (those c) ms
  given_lists = take_out (candidates_hold rows Has (λ x. holds_eq (checked rows x.unit)) c) e

  pub candidates_few : c.len ≤ 32
  candidates_few = given_lists.0

  module _ (full : length c.at ≡ 32) where
    sized : length (those c) ≡ c.len
    sized = length-take-le c.len c.at (omega (arith, candidates_few))

    pub candidates_long : length ms ≡ c.len
    candidates_long = along_length given_lists.1 ∙ sized

    pub candidate_at_lem : (i : ℕ) (d : Candidate) (l : List Factor) → i < c.len → checked rows (get_or c.at i d).unit ≡ Ok (get_or ms i l)
    candidate_at_lem i d l h = subst (λ (x : Candidate). Has x (get_or ms i l)) (get_or-take c.len c.at i d h) (along_at given_lists.1 i d l (omega (arith, sized)))
