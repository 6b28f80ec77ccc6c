-- A canonical list over the common factors, as code makes it: what is left of a factor, and one turn of the walk that fills an array with it.
use mathlib.Core.Path.{◌≡◌, refl, sym, ap, ap₂, ◌∙◌, subst}
use mathlib.Core.Bool.{Bool, true, false}
use mathlib.Core.List.{List, [], ◌∷◌, ◌++◌, append_assoc, append-nil}
use Prim.Native.Nat.{ℕ, ◌+◌, ◌≤◌, ◌<◌, Ordering}
use native.Mathlib.Omega.{arith}
use lib.ListN.{length, drop, get_or, set, drop_of_length-le}
use lib.Seq.{drop-drop}
use Rattle.exponents.specs.Outcome.{Refusal, Outcome, Ok, Err, apply}
use Rattle.exponents.specs.Fractions.{nought, add?, same}
use Rattle.exponents.specs.declared.Exponent.{Exponent}
use Rattle.exponents.proofs.Holds.{one_answer, bind_given, bind_refused}
use Rattle.exponents.proofs.Numbers.{clash, apply_answers, apply_refuses}
use Rattle.units.specs.declared.Factor.{Factor}
use Rattle.units.specs.Lists.{no_factor}
use Rattle.tables.specs.Held.{View, item_of, pack_items, packed, by_place}
use Rattle.std.specs.declared.option.Option.{Option}
use Rattle.std.specs.declared.option.Option.TheVariants.{Some, None}
use Rattle.tables.specs.declared.Item.{Item}
use Rattle.tables.specs.declared.Items.{Items}
use Rattle.exponents.proofs.Places.{rest}
use Rattle.tables.specs.Order.{Atom, atom, of}
use Rattle.canonical.specs.Canonical.{drop_if}
use Rattle.canonical.specs.Held.{spots, with_factor, form_of}
use Rattle.exponents.proofs.Following.{apply_same, apply_apply}
use Rattle.common.specs.Held.{taken, lessen, left_of}
use Rattle.common.proofs.Sharing.{Filled, filled_none, filled_on, filled_end}

-- ---- what is left of one factor, where cs is what is left of the inverted common factors
abbrev pub left_by : (Atom → Atom → Ordering) → Factor → List Factor → Outcome (Option Exponent)
left_by cmp g [] = Ok None
left_by cmp g (c ∷ cs) = left_of (cmp (atom c) (atom g)) g c

none_some : {C A : Type 0} {a : A} → ◌≡◌ {A = Option A} None (Some a) → C
none_some p = absurd (let z : ◌≡◌ {A = ℕ} 0 1 = cc in omega arith)

part_given : (o : Outcome Exponent) (e : Exponent) → apply Some o ≡ Ok (Some e) → o ≡ Ok e
part_given o e p = let a = apply_answers Some o (Some e) p in let q : a.answer ≡ e = (let m = a.made in cc) in a.is ∙ ap Ok q

part-whole : {C : Type 0} (o : Outcome Exponent) → apply Some o ≡ Ok None → C
part-whole o p = let a = apply_answers Some o None p in none_some (sym a.made)

-- `merged` and `rest` as in `taken`
module _ (g c : Factor) (merged : Exponent → Outcome (List Factor)) (rest : Outcome (List Factor)) where
  taken-whole : (o : Ordering) → left_of o g c ≡ Ok None → taken o g c merged rest ≡ apply (drop_if false g) rest
  unfolding taken drop_if
  taken-whole Ordering.lt p = refl
  taken-whole Ordering.eq p = part-whole (add? g.exponent c.exponent) p
  taken-whole Ordering.gt p = refl

  taken-part : (o : Ordering) (e : Exponent) → left_of o g c ≡ Ok (Some e) → taken o g c merged rest ≡ merged e
  unfolding taken
  taken-part Ordering.lt e p = none_some (one_answer p)
  taken-part Ordering.eq e p = bind_given merged (part_given (add? g.exponent c.exponent) e p)
  taken-part Ordering.gt e p = none_some (one_answer p)

  taken_refuses : (o : Ordering) (r : Refusal) → left_of o g c ≡ Err r → taken o g c merged rest ≡ Err r
  unfolding taken
  taken_refuses Ordering.lt r p = absurd (clash p)
  taken_refuses Ordering.eq r p = bind_refused merged (apply_refuses Some (add? g.exponent c.exponent) r p)
  taken_refuses Ordering.gt r p = absurd (clash p)

module _ (cmp : Atom → Atom → Ordering) where
  -- nothing is taken off
  pub lessen_none : (m : List Factor) → lessen cmp m [] ≡ Ok m
  unfolding lessen
  lessen_none [] = refl
  lessen_none (g ∷ m) = refl

  module _ (g : Factor) (m : List Factor) where
    lessen_whole : (cs : List Factor) → left_by cmp g cs ≡ Ok None → lessen cmp (g ∷ m) cs ≡ apply (drop_if false g) (lessen cmp m cs)
    unfolding lessen drop_if
    lessen_whole [] p = sym (ap (apply (λ r. g ∷ r)) (lessen_none m))
    lessen_whole (c ∷ cs) p = taken-whole g c _ (lessen cmp m (c ∷ cs)) (cmp (atom c) (atom g)) p

    lessen_part : (cs : List Factor) (e : Exponent) → left_by cmp g cs ≡ Ok (Some e) → lessen cmp (g ∷ m) cs ≡ apply (drop_if (same e nought) (of (atom g) e)) (lessen cmp m (drop 1 cs))
    unfolding lessen
    lessen_part [] e p = none_some (one_answer p)
    lessen_part (c ∷ cs) e p = taken-part g c _ (lessen cmp m (c ∷ cs)) (cmp (atom c) (atom g)) e p

    lessen_refuses : (cs : List Factor) (r : Refusal) → left_by cmp g cs ≡ Err r → lessen cmp (g ∷ m) cs ≡ Err r
    unfolding lessen
    lessen_refuses [] r p = absurd (clash p)
    lessen_refuses (c ∷ cs) r p = taken_refuses g c _ (lessen cmp m (c ∷ cs)) (cmp (atom c) (atom g)) r p

-- ---- what code finds to be left: y and x are the items that it reads
module _ (v : View) (y : Item) (g : Factor) (is : y ≡ item_of v g) (cs : List Factor) (j : ℕ) where
  pub left_none : length cs ≤ j → Ok None ≡ left_by (by_place v) g (drop j cs)
  left_none h = sym (ap (left_by (by_place v) g) (drop_of_length-le cs h))

  pub left-next : j < length cs → (x : Item) → x ≡ item_of v (get_or cs j no_factor) → left_of (spots x.place x.factor.prefix y.place y.factor.prefix) y.factor x.factor ≡ left_by (by_place v) g (drop j cs)
  left-next h x e =
      ap₂ (λ (x y : Item). left_of (spots x.place x.factor.prefix y.place y.factor.prefix) y.factor x.factor) e is
      ∙ sym (ap (left_by (by_place v) g) (rest cs no_factor j h))

-- ---- the walk: the factors before i are done, with the first j of cs, and what is left of them stands in o
pub record Lessens (v : View) (gs cs : List Factor) (o : Items) (k j i : ℕ) : Type 0 where
  pub done : List Factor
  pub filled : Filled v done o k
  pub so_far : lessen (by_place v) gs cs ≡ apply (λ r. done ++ r) (lessen (by_place v) (drop i gs) (drop j cs))

pub lessens_none : (v : View) (gs cs : List Factor) (o : Items) → o ≡ packed [] → Lessens v gs cs o 0 0 0
lessens_none v gs cs o e = record { done = []; filled = filled_none v o e; so_far = sym (apply_same (lessen (by_place v) gs cs)) }

module _ (v : View) (gs cs : List Factor) (o : Items) (k j i : ℕ) (s : Lessens v gs cs o k j i) where
  pub lessens_end : length gs ≤ i → ◌≡◌ {A = Outcome Items} (Ok (record { at = o.at; len = k })) (form_of v (lessen (by_place v) gs cs))
  unfolding lessen
  lessens_end h =
      ap Ok (filled_end v s.done o k s.filled ∙ ap (pack_items v) (sym (append-nil s.done)))
      ∙ sym (ap (form_of v) (s.so_far ∙ ap (λ l. apply (λ r. s.done ++ r) (lessen (by_place v) l (drop j cs))) (drop_of_length-le gs h)))

  module _ (h : i < length gs) where
    abbrev here : Factor
    here = get_or gs i no_factor

    so_far_here : lessen (by_place v) gs cs ≡ apply (λ r. s.done ++ r) (lessen (by_place v) (here ∷ drop (i + 1) gs) (drop j cs))
    so_far_here = s.so_far ∙ ap (λ l. apply (λ r. s.done ++ r) (lessen (by_place v) l (drop j cs))) (rest gs no_factor i h)

    pub lessens_refused : (r : Refusal) → left_by (by_place v) here (drop j cs) ≡ Err r → ◌≡◌ {A = Outcome Items} (Err r) (form_of v (lessen (by_place v) gs cs))
    lessens_refused r p = sym (ap (form_of v) (so_far_here ∙ ap (apply (λ r. s.done ++ r)) (lessen_refuses (by_place v) here (drop (i + 1) gs) (drop j cs) r p)))

    -- f is put in, and j' of cs are done
    module _ (j' : ℕ) (f : Factor) where
      put : k < 16 → (y : Item) (n : ℕ) → y ≡ item_of v f → lessen (by_place v) (here ∷ drop (i + 1) gs) (drop j cs) ≡ apply (drop_if false f) (lessen (by_place v) (drop (i + 1) gs) (drop j' cs)) →
          Lessens v gs cs (record { at = set o.at k y; len = n }) (k + 1) j' (i + 1)
      unfolding drop_if
      put r y n e p =
          let l = lessen (by_place v) (drop (i + 1) gs) (drop j' cs) in record {
            done = s.done ++ (f ∷ []);
            filled = filled_on v s.done o k s.filled r f y n e;
            so_far = so_far_here
                ∙ ap (apply (λ r. s.done ++ r)) p
                ∙ apply_apply (λ r. f ∷ r) (λ r. s.done ++ r) l
                ∙ ap (λ (t : List Factor → List Factor). apply t l) (λ i r. sym (append_assoc s.done (f ∷ []) r) i);
          }

    pub lessens_whole : k < 16 → (y : Item) (n : ℕ) → y ≡ item_of v here → left_by (by_place v) here (drop j cs) ≡ Ok None → Lessens v gs cs (record { at = set o.at k y; len = n }) (k + 1) j (i + 1)
    lessens_whole r y n e p = put j here r y n e (lessen_whole (by_place v) here (drop (i + 1) gs) (drop j cs) p)

    module _ (e : Exponent) (p : left_by (by_place v) here (drop j cs) ≡ Ok (Some e)) where
      part : {t : Bool} → same e nought ≡ t → lessen (by_place v) (here ∷ drop (i + 1) gs) (drop j cs) ≡ apply (drop_if t (of (atom here) e)) (lessen (by_place v) (drop (i + 1) gs) (drop (j + 1) cs))
      part q =
          lessen_part (by_place v) here (drop (i + 1) gs) (drop j cs) e p
          ∙ ap₂ (λ (t : Bool) (l : List Factor). apply (drop_if t (of (atom here) e)) (lessen (by_place v) (drop (i + 1) gs) l)) q (drop-drop 1 j cs)

      pub lessens_part : same e nought ≡ false → k < 16 → (x y : Item) (n : ℕ) → x ≡ item_of v here → y ≡ with_factor x (of (atom x.factor) e) → Lessens v gs cs (record { at = set o.at k y; len = n }) (k + 1) (j + 1) (i + 1)
      lessens_part q r x y n is w = put (j + 1) (of (atom here) e) r y n (w ∙ ap (λ (x : Item). with_factor x (of (atom x.factor) e)) is) (part q)

      pub lessens_gone : same e nought ≡ true → Lessens v gs cs o k (j + 1) (i + 1)
      unfolding drop_if
      lessens_gone q = record {
        done = s.done;
        filled = s.filled;
        so_far = so_far_here ∙ ap (apply (λ r. s.done ++ r)) (part q ∙ apply_same (lessen (by_place v) (drop (i + 1) gs) (drop (j + 1) cs)));
      }

pub moved : {v : View} {gs cs : List Factor} {o o' : Items} {k k' j j' i : ℕ} → o' ≡ o → k' ≡ k → j' ≡ j → Lessens v gs cs o k j i → Lessens v gs cs o' k' j' i
moved {v} {gs} {cs} {o} {o'} {k} {k'} {j} {j'} {i} p q r h =
    subst (λ (o : Items). Lessens v gs cs o k' j' i) (sym p)
    (subst (λ (k : ℕ). Lessens v gs cs o k j' i) (sym q)
    (subst (λ (j : ℕ). Lessens v gs cs o k j i) (sym r) h))
