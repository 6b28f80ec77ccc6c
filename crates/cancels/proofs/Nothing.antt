-- Nothing is left in common (02, order 3): the two reduced lists share no row and prefix with exponents of one sign, in any order of rows, ties among them too.
use mathlib.Core.Path.{◌≡◌, refl, sym, ◌∙◌, ap, ap₂, subst}
use mathlib.Core.Bool.{Bool, true, false}
use mathlib.Core.List.{List, [], ◌∷◌, map}
use mathlib.Core.Logic.{◌⊎◌, inl, inr}
use Prim.Native.Nat.{ℕ, Ordering}
use native.Mathlib.Omega.{arith}
use Rattle.std.specs.declared.option.Option.{Option}
use Rattle.std.specs.declared.option.Option.TheVariants.{Some, None}
use Rattle.exponents.specs.Words.{pick}
use Rattle.exponents.specs.Outcome.{Ok, apply}
use Rattle.exponents.specs.Fractions.{nought, neg, add?, same, same_z}
use Rattle.exponents.specs.declared.Exponent.{Exponent}
use Rattle.exponents.proofs.Holds.{Holds, held, take_out, holds_eq, holds_imp, holds_both, holds_map, holds_bind}
use Rattle.exponents.proofs.Value.{Value}
use Rattle.exponents.proofs.Rationals.{value}
use Rattle.units.specs.declared.Factor.{Factor}
use Rattle.units.specs.Lists.{with_exponent, inverted}
use Rattle.tables.specs.Rows.{Facts}
use Rattle.tables.specs.Order.{Atom, atom, of, order_in}
use Rattle.tables.proofs.Total.{swap}
use Rattle.canonical.specs.Canonical.{drop_if, canon}
use Rattle.canonical.proofs.Sorted.{Above, Rising, above_trans, canon_canonical}
use Rattle.canonical.proofs.Total.{Weak, through_weak, order_in_total}
use Rattle.common.specs.Common.{meet, if_same, with_shared, shared_with_lem, common, over}
use Rattle.common.specs.Held.{taken, lessen}
use Rattle.common.proofs.Shaped.{Has, meet_has}
use Rattle.common.proofs.Merging.{AllFound, above_like, found_before, all-behind, common_rising, common_found, common_own, self, over_common, own_common}

-- ---- of one row and prefix: its exponent in a list, or nothing

-- what two lists have in common of it
abbrev shared : Option Exponent → Option Exponent → Option Exponent
shared (Some x) (Some y) = meet x y
shared (Some x) None = None
shared None s = None

shared_none : (s : Option Exponent) → shared s None ≡ None
shared_none (Some x) = refl
shared_none None = refl

abbrev negated : Option Exponent → Option Exponent
negated (Some e) = Some (neg e)
negated None = None

-- r is left of the first when the second is added: a zero is nothing. The last case is never met
abbrev Leaves : Option Exponent → Option Exponent → Option Exponent → Type 0
Leaves s None r = r ≡ s
Leaves (Some x) (Some z) r = (v : Exponent) × (add? x z ≡ Ok v) × (r ≡ pick (same v nought) None (Some v))
Leaves None (Some z) r = Unit {0}

-- an exponent less itself is zero
gone : (W : Value) (x : Exponent) → Holds (λ v. v ≡ nought) (add? x (neg x))
gone W x =
    holds_imp (holds_both (W.add?-low x (neg x)) (W.add?-act x (neg x))) λ v h.
    W.low_same v nought h.0 W.nil_low
    (h.1 W.one ∙ ap (W.add (W.act x W.one)) (W.neg_act x W.one) ∙ W.add-neg (W.act x W.one) ∙ sym (W.nil_act W.one))

none_left : (x : Exponent) (r : Option Exponent) → Leaves (Some x) (Some (neg x)) r → r ≡ None
unfolding same same_z
none_left x r h = h.2 ∙ ap (λ v. pick (same v nought) None (Some v)) (take_out (gone value x) h.1)

-- what both have in common is the exponent of the one or of the other: taken off both, it leaves nothing of that one
nothing_left : (x y r s : Option Exponent) → Leaves x (negated (shared x y)) r → Leaves y (negated (shared x y)) s → shared r s ≡ None
nothing_left None y r s p q = ap (λ o. shared o s) p
nothing_left (Some a) None r s p q = ap (shared r) q ∙ shared_none r
nothing_left (Some a) (Some b) r s p q = go (meet a b) refl (meet_has (λ e. (e ≡ a) ⊎ (e ≡ b)) a b (inl refl) (inr refl)) p q
  where
    go : (o : Option Exponent) → meet a b ≡ o → Has (λ e. (e ≡ a) ⊎ (e ≡ b)) o → Leaves (Some a) (negated o) r → Leaves (Some b) (negated o) s → shared r s ≡ None
    go (Some e) m (inl i) p q = ap (λ o. shared o s) (none_left a r (subst (λ e. Leaves (Some a) (Some (neg e)) r) i p))
    go (Some e) m (inr i) p q = ap (shared r) (none_left b s (subst (λ e. Leaves (Some b) (Some (neg e)) s) i q)) ∙ shared_none r
    go None m h p q = ap₂ shared p q ∙ m

-- as two factors compare: alike, or not
as_compared : {C : Type 0} (o : Ordering) → (o ≡ Ordering.eq → C) → ((o ≡ Ordering.eq → ⊥) → C) → C
as_compared Ordering.lt f g = g λ e. let z : ◌≡◌ {A = ℕ} 0 1 = cc in omega arith
as_compared Ordering.eq f g = f refl
as_compared Ordering.gt f g = g λ e. let z : ◌≡◌ {A = ℕ} 0 1 = cc in omega arith

if_map : (h : Option Exponent → Option Exponent) (o : Ordering) (a b : Option Exponent) → if_same o (h a) (h b) ≡ h (if_same o a b)
unfolding if_same
if_map h Ordering.lt a b = refl
if_map h Ordering.eq a b = refl
if_map h Ordering.gt a b = refl

module _ (cmp : Atom → Atom → Ordering) (O : Weak cmp) where
  -- ---- the exponent that a list has of k
  abbrev seek : Atom → List Factor → Option Exponent
  seek k [] = None
  seek k (f ∷ l) = if_same (cmp k (atom f)) (Some f.exponent) (seek k l)

  module _ (k : Atom) (f : Factor) (l : List Factor) where
    seek_here : cmp k (atom f) ≡ Ordering.eq → seek k (f ∷ l) ≡ Some f.exponent
    unfolding if_same
    seek_here e = ap (λ o. if_same o (Some f.exponent) (seek k l)) e

    seek_past : (cmp k (atom f) ≡ Ordering.eq → ⊥) → seek k (f ∷ l) ≡ seek k l
    unfolding if_same
    seek_past n = go (cmp k (atom f)) n
      where
        go : (o : Ordering) → (o ≡ Ordering.eq → ⊥) → if_same o (Some f.exponent) (seek k l) ≡ seek k l
        go Ordering.lt n = refl
        go Ordering.eq n = absurd (n refl)
        go Ordering.gt n = refl

  -- nothing if all come behind
  seek_none : (k : Atom) (l : List Factor) → Above cmp k l → seek k l ≡ None
  unfolding if_same
  seek_none k [] a = refl
  seek_none k (f ∷ l) a = ap (λ o. if_same o (Some f.exponent) (seek k l)) a.0 ∙ seek_none k l a.1

  seek_like : (j k : Atom) (l : List Factor) → cmp j k ≡ Ordering.eq → seek j l ≡ seek k l
  seek_like j k [] e = refl
  seek_like j k (f ∷ l) e = ap₂ (λ o s. if_same o (Some f.exponent) s) (O.like j k (atom f) e) (seek_like j k l e)

  back : (j k : Atom) → cmp j k ≡ Ordering.eq → cmp k j ≡ Ordering.eq
  back j k e = O.swaps j k ∙ ap swap e

  -- nothing behind f, if k compares as f does
  seek_behind : (k : Atom) (f : Factor) (l : List Factor) → cmp k (atom f) ≡ Ordering.eq → Above cmp (atom f) l → seek k l ≡ None
  seek_behind k f l e a = seek_none k l (above_like cmp O (atom f) k l (back k (atom f) e) a)

  seek_inverted : (k : Atom) (l : List Factor) → seek k (map inverted l) ≡ negated (seek k l)
  unfolding inverted with_exponent
  seek_inverted k [] = refl
  seek_inverted k (f ∷ l) = ap (if_same (cmp k (atom f)) (Some (neg f.exponent))) (seek_inverted k l) ∙ if_map negated (cmp k (atom f)) (Some f.exponent) (seek k l)

  -- ---- in the common factors
  shared_with : (f : Factor) (m : List Factor) → shared_with_lem cmp f m ≡ shared (Some f.exponent) (seek (atom f) m)
  unfolding shared_with_lem
  shared_with f [] = refl
  shared_with f (g ∷ m) =
      ap (if_same (cmp (atom f) (atom g)) (meet f.exponent g.exponent)) (shared_with f m)
      ∙ if_map (shared (Some f.exponent)) (cmp (atom f) (atom g)) (Some g.exponent) (seek (atom f) m)

  with_here : (k : Atom) (s : Option Exponent) (f : Factor) (l : List Factor) → cmp k (atom f) ≡ Ordering.eq → seek k l ≡ None → seek k (with_shared s f l) ≡ s
  unfolding with_shared
  with_here k (Some e) f l p n = seek_here k (of (atom f) e) l p
  with_here k None f l p n = n

  with_past : (k : Atom) (s : Option Exponent) (f : Factor) (l : List Factor) → (cmp k (atom f) ≡ Ordering.eq → ⊥) → seek k (with_shared s f l) ≡ seek k l
  unfolding with_shared
  with_past k (Some e) f l n = seek_past k (of (atom f) e) l n
  with_past k None f l n = refl

  seek_common : (k : Atom) (l m : List Factor) → Rising cmp l → seek k (common cmp l m) ≡ shared (seek k l) (seek k m)
  unfolding common
  seek_common k [] m r = refl
  seek_common k (f ∷ l) m r =
      let rest = seek_common k l m r.1 in
      as_compared (cmp k (atom f))
      (λ e. with_here k _ f (common cmp l m) e (rest ∙ ap (λ s. shared s (seek k m)) (seek_behind k f l e r.0))
      ∙ shared_with f m
      ∙ ap (shared (Some f.exponent)) (sym (seek_like k (atom f) m e))
      ∙ sym (ap (λ s. shared s (seek k m)) (seek_here k f l e)))
      (λ n. with_past k _ f (common cmp l m) n ∙ rest ∙ sym (ap (λ s. shared s (seek k m)) (seek_past k f l n)))

  -- ---- in a list lessened
  abbrev Lessens : List Factor → List Factor → List Factor → Type 0
  Lessens m cs r = (k : Atom) → Leaves (seek k m) (seek k cs) (seek k r)

  drop_here : (k : Atom) (t : Bool) (f : Factor) (r : List Factor) → cmp k (atom f) ≡ Ordering.eq → seek k r ≡ None → seek k (drop_if t f r) ≡ pick t None (Some f.exponent)
  unfolding drop_if
  drop_here k true f r e n = n
  drop_here k false f r e n = seek_here k f r e

  drop_past : (k : Atom) (t : Bool) (f : Factor) (r : List Factor) → (cmp k (atom f) ≡ Ordering.eq → ⊥) → seek k (drop_if t f r) ≡ seek k r
  unfolding drop_if
  drop_past k true f r n = refl
  drop_past k false f r n = seek_past k f r n

  module _ (g : Factor) (m : List Factor) (c : Factor) (cs : List Factor) (r : Rising cmp (g ∷ m)) (s : Rising cmp (c ∷ cs)) where
    -- c comes behind g, which stays
    stays : (z : List Factor) → Above cmp (atom g) (c ∷ cs) → Lessens m (c ∷ cs) z → Lessens (g ∷ m) (c ∷ cs) (g ∷ z)
    stays z a w k =
        as_compared (cmp k (atom g))
        (λ q. subst (λ y. Leaves (seek k (g ∷ m)) y (seek k (g ∷ z))) (sym (seek_behind k g (c ∷ cs) q a)) (seek_here k g z q ∙ sym (seek_here k g m q)))
        (λ n. subst (λ x. Leaves x (seek k (c ∷ cs)) (seek k (g ∷ z))) (sym (seek_past k g m n))
        (subst (Leaves (seek k m) (seek k (c ∷ cs))) (sym (seek_past k g z n)) (w k)))

    -- c is merged with g
    merged : cmp (atom c) (atom g) ≡ Ordering.eq → (v : Exponent) → add? g.exponent c.exponent ≡ Ok v → (z : List Factor) → Above cmp (atom g) cs → Lessens m cs z → Lessens (g ∷ m) (c ∷ cs) (drop_if (same v nought) (of (atom g) v) z)
    merged e v p z a w k =
        let as_g : cmp k (atom c) ≡ cmp k (atom g) = O.swaps (atom c) k ∙ ap swap (O.like (atom c) (atom g) k e) ∙ sym (O.swaps (atom g) k) in
        let y = drop_if (same v nought) (of (atom g) v) z in
        as_compared (cmp k (atom g))
        (λ q.
        let none = subst (λ x. Leaves (seek k m) x (seek k z)) (seek_behind k g cs q a) (w k) ∙ seek_behind k g m q r.0 in
        subst (λ x. Leaves x (seek k (c ∷ cs)) (seek k y)) (sym (seek_here k g m q))
        (subst (λ x. Leaves (Some g.exponent) x (seek k y)) (sym (seek_here k c cs (as_g ∙ q)))
        (v, p, drop_here k (same v nought) (of (atom g) v) z q none)))
        (λ n. subst (λ x. Leaves x (seek k (c ∷ cs)) (seek k y)) (sym (seek_past k g m n))
        (subst (λ x. Leaves (seek k m) x (seek k y)) (sym (seek_past k c cs λ q. n (sym as_g ∙ q)))
        (subst (Leaves (seek k m) (seek k cs)) (sym (drop_past k (same v nought) (of (atom g) v) z n)) (w k))))

    turn : (o : Ordering) → cmp (atom c) (atom g) ≡ o → AllFound cmp O (c ∷ cs) (g ∷ m) →
        (AllFound cmp O cs m → Holds (Lessens m cs) (lessen cmp m cs)) → (AllFound cmp O (c ∷ cs) m → Holds (Lessens m (c ∷ cs)) (lessen cmp m (c ∷ cs))) →
        Holds (Lessens (g ∷ m) (c ∷ cs)) (taken o g c (λ v. apply (drop_if (same v nought) (of (atom g) v)) (lessen cmp m cs)) (lessen cmp m (c ∷ cs)))
    unfolding taken drop_if
    turn Ordering.lt e h go past = absurd (found_before cmp O false g m (atom c) r.0 e h.0)
    turn Ordering.eq e h go past =
        let a : Above cmp (atom g) cs = above_like cmp O (atom c) (atom g) cs e s.0 in
        holds_bind _ (holds_eq (add? g.exponent c.exponent)) λ v p. holds_map _ (go (all-behind cmp O false g m cs a h.1)) λ z w. merged e v p z a w
    turn Ordering.gt e h go past =
        let b : cmp (atom g) (atom c) ≡ Ordering.lt = O.swaps (atom c) (atom g) ∙ ap swap e in
        let a : Above cmp (atom g) (c ∷ cs) = (b, above_trans cmp O (atom g) (atom c) cs b s.0) in
        holds_map _ (past (all-behind cmp O false g m (c ∷ cs) a h)) λ z w. stays z a w

  seek_lessen : (m cs : List Factor) → Rising cmp m → Rising cmp cs → AllFound cmp O cs m → Holds (Lessens m cs) (lessen cmp m cs)
  unfolding lessen
  seek_lessen [] [] r s h = held {a = []} λ k. refl
  seek_lessen [] (c ∷ cs) r s h = absurd h.0
  seek_lessen (g ∷ m) [] r s h = held {a = g ∷ m} λ k. refl
  seek_lessen (g ∷ m) (c ∷ cs) r s h = turn g m c cs r s _ refl h (seek_lessen m cs r.1 s.1) (seek_lessen m (c ∷ cs) r.1 s)

  -- ---- the reduced lists
  sought_none : (l : List Factor) → ((k : Atom) → seek k l ≡ None) → l ≡ []
  sought_none [] h = refl
  sought_none (f ∷ l) h = absurd (let p = sym (seek_here (atom f) f l (self cmp O (atom f))) ∙ h (atom f) in let z : ◌≡◌ {A = ℕ} 0 1 = cc in omega arith)

  module _ (l m cl cm own t : List Factor) (p : canon cmp l ≡ Ok cl) (q : canon cmp m ≡ Ok cm) where
    -- the common factors of the two lists over their common factors, both merged: none
    pub nothing_common : canon cmp (over l (common cmp cl cm)) ≡ Ok own → canon cmp (over m (common cmp cl cm)) ≡ Ok t → common cmp own t ≡ []
    nothing_common u w =
        let cs = map inverted (common cmp cl cm) in
        let rl = (take_out (canon_canonical cmp O l) p).rising in
        let rm = (take_out (canon_canonical cmp O m) q).rising in
        let rc = common_rising cmp O cl cm rl in
        let off : (k : Atom) → seek k cs ≡ negated (shared (seek k cl) (seek k cm)) = λ k. seek_inverted k (common cmp cl cm) ∙ ap negated (seek_common k cl cm rl) in
        let a = take_out (seek_lessen cl cs rl rc (common_own cmp O cl cm)) (sym (own_common cmp O l cl cm p) ∙ u) in
        let b = take_out (seek_lessen cm cs rm rc (common_found cmp O cl cm)) (sym (over_common cmp O l m cl cm p q) ∙ w) in
        sought_none (common cmp own t) λ k.
        seek_common k own t (take_out (canon_canonical cmp O (over l (common cmp cl cm))) u).rising
        ∙ nothing_left (seek k cl) (seek k cm) (seek k own) (seek k t)
        (subst (λ x. Leaves (seek k cl) x (seek k own)) (off k) (a k))
        (subst (λ x. Leaves (seek k cm) x (seek k t)) (off k) (b k))

-- in a table
pub nothing_common_in : (ks : List Facts) (l m cl cm own t : List Factor) → canon (order_in ks) l ≡ Ok cl → canon (order_in ks) m ≡ Ok cm →
    canon (order_in ks) (over l (common (order_in ks) cl cm)) ≡ Ok own → canon (order_in ks) (over m (common (order_in ks) cl cm)) ≡ Ok t → common (order_in ks) own t ≡ []
nothing_common_in ks = nothing_common (order_in ks) (through_weak (order_in_total ks) (λ u. u))
