-- Which step is the first that stops (02, order 2), down to the sums, products and quotients of fractions: what is made of several steps is refused exactly where one of them is, with the refusal of the first. What one operation is refused by stands in `exponents/proofs/Halves`.
use mathlib.Core.Path.{◌≡◌, refl, ◌∙◌, ap}
use mathlib.Core.Bool.{Bool, true, false, ◌||◌}
use mathlib.Core.Logic.{◌↔◌}
use mathlib.Core.List.{List, [], ◌∷◌}
use Prim.Native.Nat.{ℕ, Ordering}
use lib.Dec.{eqb, ltb}
use lib.ListN.{length, get_or}
use Rattle.exponents.specs.Words.{pick}
use Rattle.exponents.specs.Outcome.{Refusal, Outcome, Ok, Err, apply, bind, each}
use Rattle.exponents.specs.Fractions.{nought, unit, same, add?, mul?, div?, sum?}
use Rattle.exponents.specs.declared.Exponent.{Exponent}
use Rattle.exponents.proofs.Holds.{bind_given, bind_refused}
use Rattle.exponents.proofs.Numbers.{one_refusal}
use Rattle.units.specs.declared.Factor.{Factor}
use Rattle.tables.specs.Lists.{base_at, base}
use Rattle.tables.specs.Order.{Atom, atom, of}
use Rattle.tables.specs.Rules.{Rules}
use Rattle.canonical.specs.Canonical.{place, insert, gather, canon, same_all, all_nought}
use Rattle.reduction.specs.Multiple.{Maybe, times, none, first_base, fits, multiple_of, is_multiple}
use Rattle.conversion.proofs.Refusals.{given_not_refused}
use Rattle.targets.specs.Single.{wholly, search, single}
use Rattle.targets.specs.Groups.{greatest, share, summed, fitted, target}

-- ---- two steps, one after the other

pub through : {A B C : Type 0} → A ↔ B → B ↔ C → A ↔ C
through p q = (λ a. q.0 (p.0 a), λ c. p.1 (q.1 c))

module _ {A B : Type 0} where
  -- a refusal goes through, and nothing else gives one
  pub apply_exactly : (f : A → B) (o : Outcome A) (r : Refusal) → (apply f o ≡ Err r) ↔ (o ≡ Err r)
  apply_exactly f (Ok a) r = (λ e. absurd (given_not_refused e), λ e. absurd (given_not_refused e))
  apply_exactly f (Err s) r = (λ e. ap Err (one_refusal e), λ e. ap Err (one_refusal e))

  -- the first refuses, or it answers and the second refuses
  pub data BindStops (o : Outcome A) (f : A → Outcome B) (r : Refusal) : Type 0 where
    at_first : o ≡ Err r → BindStops o f r
    at_second : {a : A} → o ≡ Ok a → f a ≡ Err r → BindStops o f r

  bind_from : (o : Outcome A) (f : A → Outcome B) (r : Refusal) → bind o f ≡ Err r → BindStops o f r
  unfolding bind
  bind_from (Ok a) f r e = at_second refl e
  bind_from (Err s) f r e = at_first (ap Err (one_refusal e))

  bind_by : {o : Outcome A} {f : A → Outcome B} {r : Refusal} → BindStops o f r → bind o f ≡ Err r
  bind_by (at_first e) = bind_refused _ e
  bind_by (at_second p e) = bind_given _ p ∙ e

  pub bind_exactly : (o : Outcome A) (f : A → Outcome B) (r : Refusal) → (bind o f ≡ Err r) ↔ BindStops o f r
  bind_exactly o f r = (bind_from o f r, bind_by)

  -- so what follows from either
  pub bind_case : {C : Type 0} {o : Outcome A} {f : A → Outcome B} {r : Refusal} → bind o f ≡ Err r → (o ≡ Err r → C) → ((a : A) → o ≡ Ok a → f a ≡ Err r → C) → C
  bind_case {C} {o} {f} {r} e g h = go (bind_from o f r e)
    where
      go : BindStops o f r → C
      go (at_first p) = g p
      go (at_second {a = a} p q) = h a p q

-- a choice by a test
pub pick_case : {A C : Type 0} (t : Bool) {a b : Outcome A} {r : Refusal} → pick t a b ≡ Err r → (t ≡ true → a ≡ Err r → C) → (t ≡ false → b ≡ Err r → C) → C
pick_case true e f g = f refl e
pick_case false e f g = g refl e

-- ---- a step for each of a list

-- f refuses one with r, and answers at those before it
pub data FirstAt {A B : Type 0} (f : A → Outcome B) (r : Refusal) : List A → Type 0 where
  here : {a : A} {l : List A} → f a ≡ Err r → FirstAt f r (a ∷ l)
  later : {a : A} {b : B} {l : List A} → f a ≡ Ok b → FirstAt f r l → FirstAt f r (a ∷ l)

module _ {A B : Type 0} (f : A → Outcome B) (r : Refusal) where
  each_from : (l : List A) → each f l ≡ Err r → FirstAt f r l
  unfolding each
  each_from [] e = absurd (given_not_refused e)
  each_from (a ∷ l) e = bind_case e here λ b p q. later p (each_from l ((apply_exactly _ (each f l) r).0 q))

  each_by : {l : List A} → FirstAt f r l → each f l ≡ Err r
  unfolding each
  each_by (here e) = bind_refused _ e
  each_by (later p s) = bind_given _ p ∙ ap (apply _) (each_by s)

  pub each_exactly : (l : List A) → (each f l ≡ Err r) ↔ FirstAt f r l
  each_exactly l = (each_from l, each_by)

-- ---- a sum

-- s and the terms of a list: a term refuses, or its sum with those before it
pub data SumStops {A : Type 0} (term : A → Outcome Exponent) (r : Refusal) : Exponent → List A → Type 0 where
  at_term : {s : Exponent} {a : A} {l : List A} → term a ≡ Err r → SumStops term r s (a ∷ l)
  at_sum : {s t : Exponent} {a : A} {l : List A} → term a ≡ Ok t → add? s t ≡ Err r → SumStops term r s (a ∷ l)
  past : {s t u : Exponent} {a : A} {l : List A} → term a ≡ Ok t → add? s t ≡ Ok u → SumStops term r u l → SumStops term r s (a ∷ l)

module _ {A : Type 0} (term : A → Outcome Exponent) (r : Refusal) where
  sum_from : (s : Exponent) (l : List A) → sum? term s l ≡ Err r → SumStops term r s l
  unfolding sum?
  sum_from s [] e = absurd (given_not_refused e)
  sum_from s (a ∷ l) e = bind_case e at_term λ t p q. bind_case q (at_sum p) λ u k h. past p k (sum_from u l h)

  sum_by : {s : Exponent} {l : List A} → SumStops term r s l → sum? term s l ≡ Err r
  unfolding sum?
  sum_by (at_term e) = bind_refused _ e
  sum_by (at_sum p e) = bind_given _ p ∙ bind_refused _ e
  sum_by (past p k h) = bind_given _ p ∙ bind_given _ k ∙ sum_by h

  pub sum_exactly : (s : Exponent) (l : List A) → (sum? term s l ≡ Err r) ↔ SumStops term r s l
  sum_exactly s l = (sum_from s l, sum_by)

-- ---- base exponents
module _ (l : List Factor) (r : Refusal) where
  -- THEOREM: base row by base row, in rank order: the lowest that refuses decides ..
  pub base-first : (bs : List (ℕ → Exponent)) → (base bs l ≡ Err r) ↔ FirstAt (base_at l) r bs
  unfolding base
  base-first bs = each_exactly (base_at l) r bs

  -- .. and at a base row factor by factor: the product, then the partial sum
  pub base_at_first : (b : ℕ → Exponent) → (base_at l b ≡ Err r) ↔ SumStops (λ f. mul? f.exponent (b f.row)) r nought l
  unfolding base_at
  base_at_first b = sum_exactly (λ f. mul? f.exponent (b f.row)) r nought l

-- ---- the canonical form
module _ (cmp : Atom → Atom → Ordering) (r : Refusal) where
  -- x put into a list: its exponent is added to that of the one with the same row and prefix, and the sum refuses
  pub data SumsOnto (x : Factor) : List Factor → Type 0 where
    onto : {y : Factor} {ys : List Factor} → cmp (atom x) (atom y) ≡ Ordering.eq → add? y.exponent x.exponent ≡ Err r → SumsOnto x (y ∷ ys)
    behind : {y : Factor} {ys : List Factor} → cmp (atom x) (atom y) ≡ Ordering.gt → SumsOnto x ys → SumsOnto x (y ∷ ys)

  -- the factors of a list put one after the other into those that are merged: one is refused
  pub data Merges : List Factor → List Factor → Type 0 where
    at_factor : {a l : List Factor} {x : Factor} → SumsOnto x a → Merges a (x ∷ l)
    past_factor : {a b l : List Factor} {x : Factor} → insert cmp x a ≡ Ok b → Merges b l → Merges a (x ∷ l)

  place_from : (o : Ordering) (x y : Factor) (ys : List Factor) → cmp (atom x) (atom y) ≡ o → (insert cmp x ys ≡ Err r → SumsOnto x ys) → place o x y ys (insert cmp x ys) ≡ Err r → SumsOnto x (y ∷ ys)
  unfolding place
  place_from Ordering.lt x y ys c h e = absurd (given_not_refused e)
  place_from Ordering.eq x y ys c h e = onto c ((apply_exactly _ (add? y.exponent x.exponent) r).0 e)
  place_from Ordering.gt x y ys c h e = behind c (h ((apply_exactly _ (insert cmp x ys) r).0 e))

  insert_from : (x : Factor) (l : List Factor) → insert cmp x l ≡ Err r → SumsOnto x l
  unfolding insert
  insert_from x [] e = absurd (given_not_refused e)
  insert_from x (y ∷ ys) e = place_from (cmp (atom x) (atom y)) x y ys refl (insert_from x ys) e

  insert_by : (x : Factor) {l : List Factor} → SumsOnto x l → insert cmp x l ≡ Err r
  unfolding insert place
  insert_by x (onto {y = y} {ys = ys} c e) = ap (λ o. place o x y ys (insert cmp x ys)) c ∙ ap (apply _) e
  insert_by x (behind {y = y} {ys = ys} c s) = ap (λ o. place o x y ys (insert cmp x ys)) c ∙ ap (apply _) (insert_by x s)

  gather_from : (a l : List Factor) → gather cmp a l ≡ Err r → Merges a l
  unfolding gather
  gather_from a [] e = absurd (given_not_refused e)
  gather_from a (x ∷ l) e = bind_case e (λ p. at_factor (insert_from x a p)) λ b p q. past_factor p (gather_from b l q)

  gather_by : {a l : List Factor} → Merges a l → gather cmp a l ≡ Err r
  unfolding gather
  gather_by (at_factor {x = x} s) = bind_refused _ (insert_by x s)
  gather_by (past_factor p m) = bind_given _ p ∙ gather_by m

  -- THEOREM: factors are put in, in the order of the given list; the first sum of exponents of one row and prefix that refuses decides
  pub canon_first : (l : List Factor) → (canon cmp l ≡ Err r) ↔ Merges [] l
  unfolding canon
  canon_first l = through (apply_exactly _ (gather cmp [] l) r) (gather_from [] l, gather_by)

-- ---- the one factor of simplification's second step

-- xs and ys are the base exponents of two lists, and the quotient at the first of xs is asked for
pub record Divides (bs : List (ℕ → Exponent)) (fs gs : List Factor) (xs ys : List Exponent) : Type 0 where
  pub own : base bs fs ≡ Ok xs
  pub other : base bs gs ≡ Ok ys
  pub differ : same_all xs ys ≡ false
  pub there : (all_nought xs || same (get_or ys (first_base xs) nought) nought) ≡ false

-- no whole multiple
pub data Unfit : Maybe → Type 0 where
  no_multiple : Unfit none
  no_whole : {q : Exponent} → eqb q.den 1 ≡ false → Unfit (times q)

module _ (bs : List (ℕ → Exponent)) (r : Refusal) where
  -- whether a list is a multiple of another: base exponents, the quotient, then the products from left to right
  pub data MultipleStops (fs gs : List Factor) : Type 0 where
    at_own : base bs fs ≡ Err r → MultipleStops fs gs
    at_other : {xs : List Exponent} → base bs fs ≡ Ok xs → base bs gs ≡ Err r → MultipleStops fs gs
    at_quotient : {xs ys : List Exponent} → Divides bs fs gs xs ys → div? (get_or xs (first_base xs) nought) (get_or ys (first_base xs) nought) ≡ Err r → MultipleStops fs gs
    at_product : {xs ys : List Exponent} {q : Exponent} → Divides bs fs gs xs ys → div? (get_or xs (first_base xs) nought) (get_or ys (first_base xs) nought) ≡ Ok q → FirstAt (λ y. mul? y q) r ys → MultipleStops fs gs

  module _ (fs gs : List Factor) where
    multiple_from : is_multiple bs fs gs ≡ Err r → MultipleStops fs gs
    unfolding is_multiple multiple_of fits
    multiple_from e =
        bind_case e at_own λ xs p h. bind_case h (at_other p) λ ys q k.
        pick_case (same_all xs ys) k (λ _ f. absurd (given_not_refused f)) λ d f.
        pick_case (all_nought xs || same (get_or ys (first_base xs) nought) nought) f (λ _ g. absurd (given_not_refused g)) λ t g.
        let s : Divides bs fs gs xs ys = record { own = p; other = q; differ = d; there = t } in
        bind_case g (at_quotient s) λ z u o. at_product s u ((each_exactly (λ y. mul? y z) r ys).0 ((apply_exactly _ (each (λ y. mul? y z) ys) r).0 o))

    divides : {xs ys : List Exponent} → Divides bs fs gs xs ys → is_multiple bs fs gs ≡ bind (div? (get_or xs (first_base xs) nought) (get_or ys (first_base xs) nought)) (fits xs ys)
    unfolding is_multiple multiple_of
    divides s = bind_given _ s.own ∙ bind_given _ s.other ∙ rw (s.differ, s.there)

    multiple_by : MultipleStops fs gs → is_multiple bs fs gs ≡ Err r
    unfolding is_multiple fits
    multiple_by (at_own e) = bind_refused _ e
    multiple_by (at_other p e) = bind_given _ p ∙ bind_refused _ e
    multiple_by (at_quotient s e) = divides s ∙ bind_refused _ e
    multiple_by (at_product {ys = ys} {q = q} s p h) = divides s ∙ bind_given _ p ∙ ap (apply _) ((each_exactly (λ y. mul? y q) r ys).1 h)

    -- THEOREM: in the order of `is_multiple_of`
    pub multiple-first : (is_multiple bs fs gs ≡ Err r) ↔ MultipleStops fs gs
    multiple-first = (multiple_from, multiple_by)

  -- the factors of a list in turn, each at exponent 1: one is refused, and none before it fits
  pub data SearchStops (c : List Factor) : List Factor → Type 0 where
    at_turn : {f : Factor} {l : List Factor} → MultipleStops c (of (atom f) unit ∷ []) → SearchStops c (f ∷ l)
    past_turn : {f : Factor} {l : List Factor} {m : Maybe} → is_multiple bs c (of (atom f) unit ∷ []) ≡ Ok m → Unfit m → SearchStops c l → SearchStops c (f ∷ l)

  wholly_from : {C : Type 0} (f : Factor) (m : Maybe) (next : Outcome (List Factor)) → wholly f m next ≡ Err r → (Unfit m → next ≡ Err r → C) → C
  unfolding wholly
  wholly_from f (times q) next e g = pick_case (eqb q.den 1) e (λ _ h. absurd (given_not_refused h)) λ t h. g (no_whole t) h
  wholly_from f none next e g = g no_multiple e

  wholly_by : (f : Factor) {m : Maybe} (next : Outcome (List Factor)) → Unfit m → wholly f m next ≡ next
  unfolding wholly
  wholly_by f next no_multiple = refl
  wholly_by f next (no_whole t) = rw t

  search_from : (c l : List Factor) → search bs c l ≡ Err r → SearchStops c l
  unfolding search
  search_from c [] e = absurd (given_not_refused e)
  search_from c (f ∷ l) e =
      bind_case e (λ p. at_turn (multiple_from c (of (atom f) unit ∷ []) p)) λ m p h. wholly_from f m (search bs c l) h λ u k. past_turn p u (search_from c l k)

  search_by : (c : List Factor) {l : List Factor} → SearchStops c l → search bs c l ≡ Err r
  unfolding search
  search_by c (at_turn {f = f} h) = bind_refused _ (multiple_by c (of (atom f) unit ∷ []) h)
  search_by c (past_turn {f = f} {l = l} p u h) = bind_given _ p ∙ wholly_by f (search bs c l) u ∙ search_by c h

  -- THEOREM: with two or more factors, the first that is refused before one fits decides
  pub single_first : (c : List Factor) → (single bs c ≡ Err r) ↔ ((ltb 1 (length c) ≡ true) × SearchStops c c)
  unfolding single
  single_first c = (λ e. pick_case (ltb 1 (length c)) e (λ t h. (t, search_from c c h)) (λ _ h. absurd (given_not_refused h)), λ h. rw h.0 (search_by c h.1))

-- ---- the target of a group in the third step

-- what a factor has in the representative: the product, then the quotient
pub share_first : (first : ℕ → Exponent) (d : Exponent) (f : Factor) (r : Refusal) → (share first d f ≡ Err r) ↔ BindStops (mul? f.exponent (first f.row)) (λ p. div? p d) r
unfolding share
share_first first d f r = bind_exactly _ _ r

module _ {A : Type 0} (R : Rules A) (r : Refusal) where
  -- what each factor of a group has in it, summed from left to right
  abbrev pub Shares : Factor → List Factor → Type 0
  Shares f l = SumStops (share R.lead (R.lead (greatest R.is_base f l).row)) r nought (f ∷ l)

  -- the base exponents of a group, then, where they aren't scalar, these shares
  pub data TargetStops : List Factor → Type 0 where
    at_group : {f : Factor} {l : List Factor} → base R.bases (f ∷ l) ≡ Err r → TargetStops (f ∷ l)
    at_shares : {f : Factor} {l : List Factor} {xs : List Exponent} → base R.bases (f ∷ l) ≡ Ok xs → all_nought xs ≡ false → Shares f l → TargetStops (f ∷ l)

  fitted_first : (f : Factor) (l : List Factor) → (fitted R.lead (greatest R.is_base f l) (f ∷ l) ≡ Err r) ↔ Shares f l
  unfolding fitted summed
  fitted_first f l = through (apply_exactly _ (sum? (share R.lead (R.lead (greatest R.is_base f l).row)) nought (f ∷ l)) r) (sum_exactly _ r nought (f ∷ l))

  target_from : (g : List Factor) → target R g ≡ Err r → TargetStops g
  unfolding target
  target_from [] e = absurd (given_not_refused e)
  target_from (f ∷ l) e =
      bind_case e at_group λ xs p h. pick_case (all_nought xs) h (λ _ k. absurd (given_not_refused k)) λ t k. at_shares p t ((fitted_first f l).0 k)

  target_by : {g : List Factor} → TargetStops g → target R g ≡ Err r
  unfolding target
  target_by (at_group e) = bind_refused _ e
  target_by (at_shares {f = f} {l = l} p t h) = bind_given _ p ∙ rw t ((fitted_first f l).1 h)

  -- THEOREM: base exponents, then share by share: the product, the quotient, the partial sum
  pub target_first : (g : List Factor) → (target R g ≡ Err r) ↔ TargetStops g
  target_first g = (target_from g, target_by)
