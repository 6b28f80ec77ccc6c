-- Groups as the code finds them: a list's first group and what stands behind it, the greatest of a group, and items put one by one into a list.
use mathlib.Core.Path.{◌≡◌, refl, sym, ◌∙◌, ap, ap₂}
use mathlib.Core.Bool.{Bool, true, false}
use mathlib.Core.List.{List, [], ◌∷◌, ◌++◌, append_assoc, append-nil}
use Prim.Native.Nat.{ℕ, zero, suc, ◌+◌, ◌-◌, ◌≤◌, ◌<◌}
use native.Mathlib.Numerals.{add-one}
use native.Mathlib.Omega.{arith}
use borrow.Author.Tests.{eq-eqb, ne_eqb}
use lib.Dec.{eqb}
use lib.ListN.{length, take, drop, get_or, set, length-append, length-drop, drop_of_length-le}
use lib.Seq.{take-suc, length-take-le}
use Rattle.units.specs.declared.Factor.{Factor}
use Rattle.units.specs.Lists.{no_factor, factor_fault}
use Rattle.exponents.specs.Words.{pick, All}
use Rattle.tables.specs.Held.{View, Stands, item_of, pack_items, packed, Resolved}
use Rattle.tables.specs.declared.Item.{Item}
use Rattle.tables.specs.declared.Items.{Items}
use Rattle.exponents.proofs.Places.{rest}
use Rattle.exponents.proofs.Words.{pick_is}
use Rattle.canonical.proofs.Keeping.{each_faultless, none_faulty, Kept}
use Rattle.canonical.proofs.Seen.{len_items, read_items}
use Rattle.tables.proofs.Resolved.{push_items}
use Rattle.targets.specs.Groups.{onto, groups, above, greatest}
use Rattle.targets.specs.Held.{following, leading}

-- what holds of each of a list holds of each behind a place
pub all_drop : {A : Type 0} (P : A → Type 0) (n : ℕ) (l : List A) → All P l → All P (drop n l)
all_drop P zero l a = a
all_drop P (suc n) [] a = tt
all_drop P (suc n) (x ∷ l) a = all_drop P n l a.1

-- ---- the first group of a list

module _ (alike : ℕ → ℕ → Bool) where
  -- the groups are the first one and those of what stands behind it
  groups_lead : (f : Factor) (l : List Factor) → groups alike (f ∷ l) ≡ leading alike (f ∷ l) ∷ groups alike (drop (length (following alike f l)) l)
  unfolding groups leading following onto
  groups_lead f [] = refl
  groups_lead f (g ∷ l) = ap (onto alike f) (groups_lead g l) ∙ go (alike f.row g.row) (groups alike (drop (length (following alike g l)) l)) refl (groups_lead g l)
    where
      go : (t : Bool) (gs : List (List Factor)) → groups alike (drop (length (following alike g l)) l) ≡ gs → groups alike (g ∷ l) ≡ (g ∷ following alike g l) ∷ gs →
          pick t ((f ∷ g ∷ following alike g l) ∷ gs) ((f ∷ []) ∷ (g ∷ following alike g l) ∷ gs)
          ≡ (f ∷ pick t (g ∷ following alike g l) []) ∷ groups alike (drop (length (pick t (g ∷ following alike g l) [])) (g ∷ l))
      go true gs e h = ap (λ m. (f ∷ g ∷ following alike g l) ∷ m) (sym e)
      go false gs e h = ap (λ m. (f ∷ []) ∷ m) (sym h)

  following_short : (f : Factor) (l : List Factor) → length (following alike f l) ≤ length l
  unfolding following
  following_short f [] = omega arith
  following_short f (g ∷ l) = pick_is (λ m. length m ≤ suc (length l)) (alike f.row g.row) {a = g ∷ following alike g l} {b = []} (omega (arith, following_short g l)) (omega arith)

  pub leading_short : (l : List Factor) → length (leading alike l) ≤ length l
  unfolding leading
  leading_short [] = omega arith
  leading_short (f ∷ l) = omega (arith, following_short f l)

  leading_long : (f : Factor) (l : List Factor) → length (leading alike (f ∷ l)) ≡ suc (length (following alike f l))
  unfolding leading
  leading_long f l = refl

  pub leading_some : (l : List Factor) → 0 < length l → 0 < length (leading alike l)
  leading_some [] h = absurd (omega arith)
  leading_some (f ∷ l) h = omega (arith, leading_long f l)

  -- the groups again, by the length of the first
  pub groups-next : (l : List Factor) → 0 < length l → groups alike l ≡ leading alike l ∷ groups alike (drop (length (leading alike l)) l)
  groups-next [] h = absurd (omega arith)
  groups-next (f ∷ l) h = groups_lead f l ∙ ap (λ n. leading alike (f ∷ l) ∷ groups alike (drop n (f ∷ l))) (sym (leading_long f l))

  -- what holds of each of a list holds of each of its first group
  module _ (P : Factor → Type 0) where
    following_all : (f : Factor) (l : List Factor) → All P l → All P (following alike f l)
    unfolding following
    following_all f [] h = tt
    following_all f (g ∷ l) h = pick_is (All P) (alike f.row g.row) {a = g ∷ following alike g l} {b = []} (h.0, following_all g l h.1) tt

    leading_all : (l : List Factor) → All P l → All P (leading alike l)
    unfolding leading
    leading_all [] h = tt
    leading_all (f ∷ l) h = (h.0, following_all f l h.1)

-- tests that agree on the rows of a list give it the same first group
module _ (P : ℕ → Type 0) (alike alike' : ℕ → ℕ → Bool) (agree : (r s : ℕ) → P r → P s → alike r s ≡ alike' r s) where
  following_agrees : (f : Factor) (l : List Factor) → P f.row → All (λ g. P g.row) l → following alike f l ≡ following alike' f l
  unfolding following
  following_agrees f [] p h = refl
  following_agrees f (g ∷ l) p h = ap₂ (λ t m. pick t (g ∷ m) []) (agree f.row g.row p h.0) (following_agrees g l h.0 h.1)

  leading_agrees : (l : List Factor) → All (λ g. P g.row) l → leading alike l ≡ leading alike' l
  unfolding leading
  leading_agrees [] h = refl
  leading_agrees (f ∷ l) h = ap (λ m. f ∷ m) (following_agrees f l h.0 h.1)

-- ---- items put one by one into a list

pub one_len : (g : Items) (x : Item) → g ≡ packed (x ∷ []) → g.len ≡ 1
unfolding packed
one_len g x e = ap (λ (g : Items). g.len) e

module _ (v : View) where
  pub one_item : (f : Factor) (x : Item) → x ≡ item_of v f → packed (x ∷ []) ≡ pack_items v (f ∷ [])
  unfolding packed pack_items
  one_item f x e = ap (λ x. packed (x ∷ [])) e

  -- a second list behind a first: its items before i are there
  module _ (fs gs : List Factor) (i : ℕ) (o : Items) (so_far : o ≡ pack_items v (fs ++ take i gs)) where
    pub joined_long : i ≤ length gs → o.len ≡ length fs + i
    joined_long h = len_items v (fs ++ take i gs) o so_far ∙ length-append fs (take i gs) ∙ ap (λ n. length fs + n) (length-take-le i gs h)

    pub joined_on : (x : Item) → i < length gs → length fs + length gs ≤ 16 → x ≡ item_of v (get_or gs i no_factor) →
        ◌≡◌ {A = Items} (record { at = set o.at o.len x; len = o.len + 1 }) (pack_items v (fs ++ take (i + 1) gs))
    joined_on x h k q =
        let n = joined_long (omega arith) in
        push_items v (fs ++ take i gs) (get_or gs i no_factor) o x o.len so_far q (sym (len_items v (fs ++ take i gs) o so_far)) (omega arith)
        ∙ ap (pack_items v) (append_assoc fs (take i gs) (get_or gs i no_factor ∷ []) ∙ ap (λ l. fs ++ l) (sym (ap (λ n. take n gs) (add-one i) ∙ take-suc gs i no_factor h)))

-- ---- the group from place i on: g holds its factors before place j

abbrev pub same_class : View → ℕ → ℕ → Bool
same_class v a b = eqb (v.class a) (v.class b)

module _ {v : View} {c : Items} {fs : List Factor} (r : Resolved v c fs) (i : ℕ) where
  abbrev Known : Factor → Type 0
  Known f = Stands f.row v.among

  -- the group by classes is the group by keys
  pub by_class : leading (same_class v) (drop i fs) ≡ leading v.alike (drop i fs)
  by_class = leading_agrees (λ s. Stands s v.among) (same_class v) v.alike r.placed.class (drop i fs) (all_drop Known i fs r.named)

  -- it is resolved
  pub group_resolved : (x : Items) → x ≡ pack_items v (leading v.alike (drop i fs)) → Resolved v x (leading v.alike (drop i fs))
  group_resolved x e = record {
    is = e;
    short = omega (arith, leading_short v.alike (drop i fs), length-drop i fs, r.short);
    shaped = none_faulty factor_fault _ (leading_all v.alike Kept (drop i fs) (all_drop Kept i fs (each_faultless factor_fault fs r.shaped)));
    named = leading_all v.alike Known (drop i fs) (all_drop Known i fs r.named);
    placed = r.placed;
  }

module _ (v : View) (fs : List Factor) (i : ℕ) where
  abbrev row : ℕ → ℕ
  row j = (get_or fs j no_factor).row

  pub record Grown (g : Items) (j : ℕ) : Type 0 where
    pub done : List Factor
    pub sized : length done ≡ j - i
    pub held : g ≡ pack_items v done
    pub so_far : leading (same_class v) (drop i fs) ≡ done ++ following (same_class v) (get_or fs (j - 1) no_factor) (drop j fs)

  pub grown_one : (g : Items) (x : Item) → i < length fs → x ≡ item_of v (get_or fs i no_factor) → g ≡ packed (x ∷ []) → Grown g (i + 1)
  unfolding leading
  grown_one g x h q e =
      let back : i ≡ (i + 1) - 1 = omega arith in
      record {
        done = get_or fs i no_factor ∷ [];
        sized = omega arith;
        held = e ∙ one_item v (get_or fs i no_factor) x q;
        so_far = ap (leading (same_class v)) (rest fs no_factor i h) ∙ ap (λ n. get_or fs i no_factor ∷ following (same_class v) (get_or fs n no_factor) (drop (i + 1) fs)) back;
      }

  module _ (g : Items) (j : ℕ) (s : Grown g j) where
    over : following (same_class v) (get_or fs (j - 1) no_factor) (drop j fs) ≡ [] → g ≡ pack_items v (leading (same_class v) (drop i fs))
    over e = s.held ∙ ap (pack_items v) (sym (s.so_far ∙ ap (λ l. s.done ++ l) e ∙ append-nil s.done))

    -- the list is over
    pub grown_end : length fs ≤ j → g ≡ pack_items v (leading (same_class v) (drop i fs))
    unfolding following
    grown_end h = over (ap (following (same_class v) (get_or fs (j - 1) no_factor)) (drop_of_length-le fs h))

    module _ (h : j < length fs) where
      next : {t : Bool} → same_class v (row (j - 1)) (row j) ≡ t → following (same_class v) (get_or fs (j - 1) no_factor) (drop j fs) ≡ pick t (get_or fs j no_factor ∷ following (same_class v) (get_or fs j no_factor) (drop (j + 1) fs)) []
      unfolding following
      next e = ap (following (same_class v) (get_or fs (j - 1) no_factor)) (rest fs no_factor j h) ∙ ap (λ t. pick t (get_or fs j no_factor ∷ following (same_class v) (get_or fs j no_factor) (drop (j + 1) fs)) []) e

      -- another class
      pub grown_off : same_class v (row (j - 1)) (row j) ≡ false → g ≡ pack_items v (leading (same_class v) (drop i fs))
      grown_off e = over (next e)

      -- the same class
      pub grown_on : same_class v (row (j - 1)) (row j) ≡ true → i ≤ j → j < i + 16 → (x : Item) → x ≡ item_of v (get_or fs j no_factor) → Grown (record { at = set g.at (j - i) x; len = j - i + 1 }) (j + 1)
      grown_on e k m x q =
          let back : j ≡ (j + 1) - 1 = omega arith in
          record {
            done = s.done ++ (get_or fs j no_factor ∷ []);
            sized = simp length-append (omega (arith, s.sized));
            held = push_items v s.done (get_or fs j no_factor) g x (j - i) s.held q s.sized (omega arith);
            so_far = s.so_far
                ∙ ap (λ l. s.done ++ l) (next e)
                ∙ sym (append_assoc s.done (get_or fs j no_factor ∷ []) (following (same_class v) (get_or fs j no_factor) (drop (j + 1) fs)))
                ∙ ap (λ n. (s.done ++ (get_or fs j no_factor ∷ [])) ++ following (same_class v) (get_or fs n no_factor) (drop (j + 1) fs)) back;
          }

-- what code tells of the classes at two places
module _ (v : View) (fs : List Factor) (c : Items) (e : c ≡ pack_items v fs) (i j : ℕ) (h : i < length fs) (k : j < length fs) (d : Item) where
  class_read : (n : ℕ) → n < length fs → (get_or c.at n d).class ≡ v.class (get_or fs n no_factor).row
  class_read n l = ap (λ (x : Item). x.class) (read_items v fs c e n d l)

  pub class_same : (get_or c.at i d).class ≡ (get_or c.at j d).class → same_class v (get_or fs i no_factor).row (get_or fs j no_factor).row ≡ true
  class_same q = eq-eqb _ _ (sym (class_read i h) ∙ q ∙ class_read j k)

  pub class_other : ((get_or c.at i d).class ≡ (get_or c.at j d).class → ⊥) → same_class v (get_or fs i no_factor).row (get_or fs j no_factor).row ≡ false
  class_other n = ne_eqb _ _ (λ q. n (class_read i h ∙ q ∙ sym (class_read j k)))

-- ---- the greatest

-- what holds of each holds of the greatest
pub greatest_all : (P : Factor → Type 0) (base : ℕ → Bool) (f : Factor) (l : List Factor) → P f → All P l → P (greatest base f l)
unfolding greatest
greatest_all P base f [] p h = p
greatest_all P base f (g ∷ l) p h = greatest_all P base (pick (above base f g) f g) l (pick_is P (above base f g) p h.0) h.1

-- the place r holds the greatest of those before i
module _ (base : ℕ → Bool) (f : Factor) (fs : List Factor) (r i : ℕ) (so_far : greatest base (get_or (f ∷ fs) r f) (drop i (f ∷ fs)) ≡ greatest base f fs) where
  pub greatest_end : length (f ∷ fs) ≤ i → get_or (f ∷ fs) r f ≡ greatest base f fs
  unfolding greatest
  greatest_end h = sym (ap (greatest base (get_or (f ∷ fs) r f)) (drop_of_length-le (f ∷ fs) h)) ∙ so_far

  module _ (h : i < length (f ∷ fs)) where
    turn : {t : Bool} → above base (get_or (f ∷ fs) r f) (get_or (f ∷ fs) i f) ≡ t → greatest base (pick t (get_or (f ∷ fs) r f) (get_or (f ∷ fs) i f)) (drop (i + 1) (f ∷ fs)) ≡ greatest base f fs
    unfolding greatest
    turn e =
        ap (λ t. greatest base (pick t (get_or (f ∷ fs) r f) (get_or (f ∷ fs) i f)) (drop (i + 1) (f ∷ fs))) (sym e)
        ∙ sym (ap (greatest base (get_or (f ∷ fs) r f)) (rest (f ∷ fs) f i h))
        ∙ so_far

    -- it stays
    pub greatest_stays : above base (get_or (f ∷ fs) r f) (get_or (f ∷ fs) i f) ≡ true → greatest base (get_or (f ∷ fs) r f) (drop (i + 1) (f ∷ fs)) ≡ greatest base f fs
    greatest_stays e = turn e

    -- place i takes over
    pub greatest_moves : above base (get_or (f ∷ fs) r f) (get_or (f ∷ fs) i f) ≡ false → greatest base (get_or (f ∷ fs) i f) (drop (i + 1) (f ∷ fs)) ≡ greatest base f fs
    greatest_moves e = turn e
