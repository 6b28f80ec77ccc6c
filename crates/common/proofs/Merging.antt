-- Either list over the common factors, merged: one walk over two lists that rise gives its canonical form, in any order of rows, ties among them too.
use mathlib.Core.Path.{◌≡◌, refl, sym, ◌∙◌, ap, subst}
use mathlib.Core.Bool.{Bool, true, false}
use mathlib.Core.List.{List, [], ◌∷◌, ◌++◌, map}
use mathlib.Core.Logic.{◌⊎◌, inl, inr}
use Prim.Native.Nat.{ℕ, Ordering}
use native.Mathlib.Omega.{arith}
use Rattle.exponents.specs.Outcome.{Outcome, Ok, Err, bind, apply}
use Rattle.exponents.specs.declared.Exponent.{Exponent}
use Rattle.exponents.specs.Fractions.{nought, add?, same}
use Rattle.exponents.proofs.Following.{apply_same, bind_same, apply_apply, bind_apply, apply_bind, bind_bind}
use Rattle.exponents.proofs.Holds.{take_out, bind_given}
use Rattle.units.specs.declared.Factor.{Factor}
use Rattle.units.specs.Lists.{with_exponent, inverted}
use Rattle.exponents.specs.Words.{All}
use Rattle.tables.proofs.Total.{swap}
use Rattle.tables.specs.Order.{Atom, atom, of}
use Rattle.canonical.specs.Canonical.{place, insert, gather, drop_if, nonzero, canon}
use Rattle.canonical.proofs.Sorted.{Above, Rising, above_trans, gather_rising, nonzero-above, canon_canonical}
use Rattle.canonical.proofs.Total.{Weak}
use Rattle.std.specs.declared.option.Option.{Option}
use Rattle.std.specs.declared.option.Option.TheVariants.{Some, None}
use Rattle.common.specs.Common.{meet, if_same, with_shared, shared_with_lem, common, over}
use Rattle.common.specs.Held.{taken, lessen}
use Rattle.common.proofs.Lessening.{lessen_none}

lt_not_eq : {o : Ordering} → o ≡ Ordering.lt → o ≡ Ordering.eq → ⊥
lt_not_eq p q = let z : ◌≡◌ {A = ℕ} 0 1 = cc in omega arith

gt_not_eq : {o : Ordering} → o ≡ Ordering.gt → o ≡ Ordering.eq → ⊥
gt_not_eq p q = let z : ◌≡◌ {A = ℕ} 0 1 = cc in omega arith

lt_not_gt : {o : Ordering} → o ≡ Ordering.lt → o ≡ Ordering.gt → ⊥
lt_not_gt p q = let z : ◌≡◌ {A = ℕ} 0 1 = cc in omega arith

module _ (cmp : Atom → Atom → Ordering) (O : Weak cmp) where
  -- some factor of the list compares as k does
  abbrev pub Found : Atom → List Factor → Type 0
  Found k [] = ⊥
  Found k (f ∷ l) = (cmp k (atom f) ≡ Ordering.eq) ⊎ Found k l

  abbrev pub AllFound : List Factor → List Factor → Type 0
  AllFound l m = All (λ f. Found (atom f) m) l

  above_found : (j k : Atom) (l : List Factor) → Above cmp j l → Found k l → cmp j k ≡ Ordering.lt
  above_found j k [] a h = absurd h
  above_found j k (f ∷ l) a (inl e) = O.swaps k j ∙ ap swap (O.like k (atom f) j e ∙ O.swaps j (atom f) ∙ ap swap a.0)
  above_found j k (f ∷ l) a (inr h) = above_found j k l a.1 h

  pub above_like : (j k : Atom) (l : List Factor) → cmp j k ≡ Ordering.eq → Above cmp j l → Above cmp k l
  above_like j k [] e a = tt
  above_like j k (f ∷ l) e a = (sym (O.like j k (atom f) e) ∙ a.0, above_like j k l e a.1)

  -- what comes behind y isn't y
  found_behind : (t : Bool) (y : Factor) (l : List Factor) (k : Atom) → cmp (atom y) k ≡ Ordering.lt → Found k (drop_if t y l) → Found k l
  unfolding drop_if
  found_behind true y l k p h = h
  found_behind false y l k p (inl e) = absurd (gt_not_eq (O.swaps (atom y) k ∙ ap swap p) e)
  found_behind false y l k p (inr h) = h

  -- what comes before j isn't in a list behind it
  found_below : (j k : Atom) (l : List Factor) → Above cmp j l → cmp k j ≡ Ordering.lt → Found k l → ⊥
  found_below j k l a p h = lt_not_gt p (O.swaps j k ∙ ap swap (above_found j k l a h))

  pub found_before : (t : Bool) (y : Factor) (l : List Factor) (k : Atom) → Above cmp (atom y) l → cmp k (atom y) ≡ Ordering.lt → Found k (drop_if t y l) → ⊥
  unfolding drop_if
  found_before true y l k a p h = found_below (atom y) k l a p h
  found_before false y l k a p (inl e) = lt_not_eq p e
  found_before false y l k a p (inr h) = found_below (atom y) k l a p h

  pub all-behind : (t : Bool) (y : Factor) (l xs : List Factor) → Above cmp (atom y) xs → AllFound xs (drop_if t y l) → AllFound xs l
  all-behind t y l [] a h = tt
  all-behind t y l (x ∷ xs) a h = (found_behind t y l (atom x) a.0 h.0, all-behind t y l xs a.1 h.1)

  -- ---- factors that all come behind y leave it where it is
  gather-behind : (y : Factor) (ys xs : List Factor) → Above cmp (atom y) xs → gather cmp (y ∷ ys) xs ≡ apply (λ zs. y ∷ zs) (gather cmp ys xs)
  unfolding gather insert place
  gather-behind y ys [] a = refl
  gather-behind y ys (x ∷ xs) a =
      ap (λ o. bind (place o x y ys (insert cmp x ys)) (λ b. gather cmp b xs)) (O.swaps (atom y) (atom x) ∙ ap swap a.0)
      ∙ bind_apply (insert cmp x ys) (λ zs. y ∷ zs) (λ b. gather cmp b xs)
      ∙ bind_same (insert cmp x ys) (λ zs. gather cmp (y ∷ zs) xs) (λ zs. apply (λ ws. y ∷ ws) (gather cmp zs xs)) (λ zs. gather-behind y zs xs a.1)
      ∙ sym (apply_bind (insert cmp x ys) (λ b. gather cmp b xs) (λ ws. y ∷ ws))

  -- zeros gone after that
  nonzero-behind : (y : Factor) (ys xs : List Factor) → Above cmp (atom y) xs →
      apply nonzero (gather cmp (y ∷ ys) xs) ≡ apply (drop_if (same y.exponent nought) y) (apply nonzero (gather cmp ys xs))
  unfolding nonzero
  nonzero-behind y ys xs a =
      ap (apply nonzero) (gather-behind y ys xs a)
      ∙ apply_apply (λ zs. y ∷ zs) nonzero (gather cmp ys xs)
      ∙ sym (apply_apply nonzero (drop_if (same y.exponent nought) y) (gather cmp ys xs))

  -- ---- x behind y: y stays
  lessen_behind : (t : Bool) (y : Factor) (l : List Factor) (x : Factor) (xs : List Factor) → cmp (atom x) (atom y) ≡ Ordering.gt →
      apply (drop_if t y) (lessen cmp l (x ∷ xs)) ≡ lessen cmp (drop_if t y l) (x ∷ xs)
  unfolding drop_if lessen taken
  lessen_behind true y l x xs e = apply_same (lessen cmp l (x ∷ xs))
  lessen_behind false y l x xs e = sym (ap (λ o. taken o y x (λ e. apply (drop_if (same e nought) (of (atom y) e)) (lessen cmp l xs)) (lessen cmp l (x ∷ xs))) e)

  -- what is claimed of a walk
  abbrev Merges : List Factor → List Factor → Type 0
  Merges a xs = apply nonzero (gather cmp a xs) ≡ lessen cmp (nonzero a) xs

  module _ (y : Factor) (ys : List Factor) (x : Factor) (xs : List Factor) (r : Rising cmp (y ∷ ys)) (s : Rising cmp (x ∷ xs)) where
    -- x merged with y, which is no zero
    merge_on : cmp (atom x) (atom y) ≡ Ordering.eq → (t : Bool) → AllFound (x ∷ xs) (drop_if t y (nonzero ys)) → (AllFound xs (nonzero ys) → Merges ys xs) →
        apply nonzero (gather cmp (y ∷ ys) (x ∷ xs)) ≡ lessen cmp (drop_if t y (nonzero ys)) (x ∷ xs)
    unfolding drop_if gather insert place lessen taken
    merge_on e true h go = absurd (lt_not_eq (above_found (atom y) (atom x) (nonzero ys) (nonzero-above cmp O (atom y) ys r.0) h.0) (O.swaps (atom x) (atom y) ∙ ap swap e))
    merge_on e false h go =
        let a : Above cmp (atom y) xs = above_like (atom x) (atom y) xs e s.0 in
        let k = go (all-behind false y (nonzero ys) xs a h.1) in
        ap (λ o. apply nonzero (bind (place o x y ys (insert cmp x ys)) (λ b. gather cmp b xs))) e
        ∙ ap (apply nonzero) (bind_apply (add? y.exponent x.exponent) (λ v. of (atom y) v ∷ ys) (λ b. gather cmp b xs))
        ∙ apply_bind (add? y.exponent x.exponent) (λ v. gather cmp (of (atom y) v ∷ ys) xs) nonzero
        ∙ bind_same (add? y.exponent x.exponent) (λ v. apply nonzero (gather cmp (of (atom y) v ∷ ys) xs)) (λ v. apply (drop_if (same v nought) (of (atom y) v)) (lessen cmp (nonzero ys) xs))
        (λ v. nonzero-behind (of (atom y) v) ys xs a ∙ ap (apply (drop_if (same v nought) (of (atom y) v))) k)
        ∙ sym (ap (λ o. taken o y x (λ v. apply (drop_if (same v nought) (of (atom y) v)) (lessen cmp (nonzero ys) xs)) (lessen cmp (nonzero ys) (x ∷ xs))) e)

    turn : (o : Ordering) → cmp (atom x) (atom y) ≡ o → AllFound (x ∷ xs) (nonzero (y ∷ ys)) → (AllFound xs (nonzero ys) → Merges ys xs) → (AllFound (x ∷ xs) (nonzero ys) → Merges ys (x ∷ xs)) → Merges (y ∷ ys) (x ∷ xs)
    unfolding nonzero
    turn Ordering.lt e h go past = absurd (found_before (same y.exponent nought) y (nonzero ys) (atom x) (nonzero-above cmp O (atom y) ys r.0) e h.0)
    turn Ordering.eq e h go past = merge_on e (same y.exponent nought) h go
    turn Ordering.gt e h go past =
        let b : cmp (atom y) (atom x) ≡ Ordering.lt = O.swaps (atom x) (atom y) ∙ ap swap e in
        let a : Above cmp (atom y) (x ∷ xs) = (b, above_trans cmp O (atom y) (atom x) xs b s.0) in
        nonzero-behind y ys (x ∷ xs) a
        ∙ ap (apply (drop_if (same y.exponent nought) y)) (past (all-behind (same y.exponent nought) y (nonzero ys) (x ∷ xs) a h))
        ∙ lessen_behind (same y.exponent nought) y (nonzero ys) x xs e

  merges : (a xs : List Factor) → Rising cmp a → Rising cmp xs → AllFound xs (nonzero a) → Merges a xs
  unfolding gather nonzero lessen
  merges [] [] r s h = refl
  merges [] (x ∷ xs) r s h = absurd h.0
  merges (y ∷ ys) [] r s h = sym (lessen_none cmp (nonzero (y ∷ ys)))
  merges (y ∷ ys) (x ∷ xs) r s h = turn y ys x xs r s _ refl h (merges ys xs r.1 s.1) (merges ys (x ∷ xs) r.1 s)

  -- ---- the common factors, inverted, rise too, and each is found in the second list
  with_above : (k : Atom) (s : Option Exponent) (f : Factor) (l : List Factor) → cmp k (atom f) ≡ Ordering.lt → Above cmp k (map inverted l) → Above cmp k (map inverted (with_shared s f l))
  unfolding with_shared inverted with_exponent
  with_above k (Some e) f l p a = (p, a)
  with_above k None f l p a = a

  common_above : (k : Atom) (l m : List Factor) → Above cmp k l → Above cmp k (map inverted (common cmp l m))
  unfolding common
  common_above k [] m a = tt
  common_above k (f ∷ l) m a = with_above k _ f (common cmp l m) a.0 (common_above k l m a.1)

  with_rising : (s : Option Exponent) (f : Factor) (l : List Factor) → Above cmp (atom f) (map inverted l) → Rising cmp (map inverted l) → Rising cmp (map inverted (with_shared s f l))
  unfolding with_shared inverted with_exponent
  with_rising (Some e) f l a r = (a, r)
  with_rising None f l a r = r

  pub common_rising : (l m : List Factor) → Rising cmp l → Rising cmp (map inverted (common cmp l m))
  unfolding common
  common_rising [] m r = tt
  common_rising (f ∷ l) m r = with_rising _ f (common cmp l m) (common_above (atom f) l m r.0) (common_rising l m r.1)

  -- only what is found is shared
  abbrev FoundIf : Option Exponent → Atom → List Factor → Type 0
  FoundIf (Some e) k m = Found k m
  FoundIf None k m = Unit {0}

  found_later : (s : Option Exponent) (k : Atom) (g : Factor) (m : List Factor) → FoundIf s k m → FoundIf s k (g ∷ m)
  found_later (Some e) k g m h = inr h
  found_later None k g m h = tt

  found_here : (s : Option Exponent) (k : Atom) (g : Factor) (m : List Factor) → cmp k (atom g) ≡ Ordering.eq → FoundIf s k (g ∷ m)
  found_here (Some e) k g m p = inl p
  found_here None k g m p = tt

  if_found : (o : Ordering) (a b : Option Exponent) (k : Atom) (g : Factor) (m : List Factor) → cmp k (atom g) ≡ o → FoundIf b k m → FoundIf (if_same o a b) k (g ∷ m)
  unfolding if_same
  if_found Ordering.lt a b k g m p h = found_later b k g m h
  if_found Ordering.eq a b k g m p h = found_here a k g m p
  if_found Ordering.gt a b k g m p h = found_later b k g m h

  shared_found : (f : Factor) (m : List Factor) → FoundIf (shared_with_lem cmp f m) (atom f) m
  unfolding shared_with_lem
  shared_found f [] = tt
  shared_found f (g ∷ m) = if_found _ (meet f.exponent g.exponent) (shared_with_lem cmp f m) (atom f) g m refl (shared_found f m)

  with_found : (s : Option Exponent) (f : Factor) (l m : List Factor) → FoundIf s (atom f) m → AllFound (map inverted l) m → AllFound (map inverted (with_shared s f l)) m
  unfolding with_shared inverted with_exponent
  with_found (Some e) f l m p h = (p, h)
  with_found None f l m p h = h

  pub common_found : (l m : List Factor) → AllFound (map inverted (common cmp l m)) m
  unfolding common
  common_found [] m = tt
  common_found (f ∷ l) m = with_found _ f (common cmp l m) m (shared_found f m) (common_found l m)

  -- and in the first
  pub self : (k : Atom) → cmp k k ≡ Ordering.eq
  self k = go (cmp k k) refl
    where
      go : (o : Ordering) → cmp k k ≡ o → cmp k k ≡ Ordering.eq
      go Ordering.lt e = absurd (lt_not_gt e (O.swaps k k ∙ ap swap e))
      go Ordering.eq e = e
      go Ordering.gt e = absurd (lt_not_gt (O.swaps k k ∙ ap swap e) e)

  all_later : (f : Factor) (l xs : List Factor) → AllFound xs l → AllFound xs (f ∷ l)
  all_later f l [] h = tt
  all_later f l (x ∷ xs) h = (inr h.0, all_later f l xs h.1)

  pub common_own : (l m : List Factor) → AllFound (map inverted (common cmp l m)) l
  unfolding common
  common_own [] m = tt
  common_own (f ∷ l) m = with_found _ f (common cmp l m) (f ∷ l) (found_here (shared_with_lem cmp f m) (atom f) f l (self (atom f))) (all_later f l (map inverted (common cmp l m)) (common_own l m))

  -- ---- gathered one list after the other
  gather_join : (a l m : List Factor) → gather cmp a (l ++ m) ≡ bind (gather cmp a l) (λ b. gather cmp b m)
  unfolding gather bind
  gather_join a [] m = refl
  gather_join a (x ∷ l) m =
      bind_same (insert cmp x a) (λ b. gather cmp b (l ++ m)) (λ b. bind (gather cmp b l) (λ b. gather cmp b m)) (λ b. gather_join b l m)
      ∙ sym (bind_bind (insert cmp x a) (λ b. gather cmp b l) (λ b. gather cmp b m))

  -- a list whose canonical form is c, and factors that rise and are found in that
  canon_join : (o : Outcome (List Factor)) (m c xs : List Factor) → gather cmp [] m ≡ o → apply nonzero o ≡ Ok c → Rising cmp xs → AllFound xs c → canon cmp (m ++ xs) ≡ lessen cmp c xs
  unfolding canon
  canon_join (Ok a) m c xs g e r h =
      let n : nonzero a ≡ c = cc in
      ap (apply nonzero) (gather_join [] m xs ∙ bind_given _ g)
      ∙ merges a xs (take_out (gather_rising cmp O [] m tt) g) r (subst (λ (c : List Factor). AllFound xs c) (sym n) h)
      ∙ ap (λ c. lessen cmp c xs) n
  canon_join (Err w) m c xs g e r h = absurd (let z : ◌≡◌ {A = ℕ} 0 1 = cc in omega arith)

  -- l has the canonical form cl: a list whose form is ck, over what cl shares with cm, is that form lessened, if the shared factors are found in it
  over_found : (l k cl cm ck : List Factor) → canon cmp l ≡ Ok cl → canon cmp k ≡ Ok ck → AllFound (map inverted (common cmp cl cm)) ck → canon cmp (over k (common cmp cl cm)) ≡ lessen cmp ck (map inverted (common cmp cl cm))
  unfolding canon
  over_found l k cl cm ck p q h = canon_join (gather cmp [] k) k ck (map inverted (common cmp cl cm)) refl q (common_rising cl cm (take_out (canon_canonical cmp O l) p).rising) h

  -- the target over the common factors of both forms, merged, is the target's form lessened
  pub over_common : (l m cl cm : List Factor) → canon cmp l ≡ Ok cl → canon cmp m ≡ Ok cm → canon cmp (over m (common cmp cl cm)) ≡ lessen cmp cm (map inverted (common cmp cl cm))
  over_common l m cl cm p q = over_found l m cl cm cm p q (common_found cl cm)

  -- and so is the own list
  pub own_common : (l cl cm : List Factor) → canon cmp l ≡ Ok cl → canon cmp (over l (common cmp cl cm)) ≡ lessen cmp cl (map inverted (common cmp cl cm))
  own_common l cl cm p = over_found l l cl cm cl p p (common_own cl cm)
