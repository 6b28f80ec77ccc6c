-- Laws of packed lists, of arrays filled from the front, and of a fault looked for. Over the element, the fault or the step.
use mathlib.Core.Path.{◌≡◌, refl, sym, ap, ap₂, ◌∙◌}
use mathlib.Core.Bool.{Bool, false, ◌||◌}
use mathlib.Core.List.{List, [], ◌∷◌, ◌++◌, map, map-append, append_assoc}
use Prim.Native.Nat.{ℕ, zero, suc, ◌+◌, ◌-◌, ◌≤◌, ◌<◌}
use native.Mathlib.Omega.{arith}
use native.Mathlib.Numerals.{add-one}
use lib.ListN.{length, take, drop, get_or, set, replicate, length-map, length-append}
use lib.Seq.{paste, set_at, take_all, take-suc, take-append_seam, drop-append-add, length-take-le, get_or-take}
use Rattle.std.specs.List.{list_any}
use Rattle.std.proofs.lemmas.List.{drop-replicate, length-take}
use Rattle.std.proofs.lemmas.List.Recursion.{same_from_clauses}
use Rattle.exponents.proofs.InRange.{or_left, or_right}
use Rattle.units.specs.declared.Factor.{Factor}
use Rattle.units.specs.declared.Factors.{Factors}
use Rattle.units.specs.Lists.{no_factor, pack, list_of, some}

-- ---- packed lists

pub list_pack : (fs : List Factor) → list_of (pack fs) ≡ fs
unfolding pack
list_pack fs = take-append_seam fs _

pub len_pack : (fs : List Factor) → (pack fs).len ≡ length fs
unfolding pack
len_pack fs = refl

-- one more element, stored behind those of l in an array that is clean from there on
pub stored : {A : Type 0} (l : List A) (z y : A) (k : ℕ) → length l ≡ k → k < 16 → set (l ++ replicate (16 - length l) z) k y ≡ (l ++ (y ∷ [])) ++ replicate (16 - length (l ++ (y ∷ []))) z
stored l z y k n h =
    let tail : 16 - length l ≡ suc (15 - length l) = omega arith in
    let left : 16 - length (l ++ (y ∷ [])) ≡ 15 - length l = simp length-append (omega arith) in
    ap (λ m. set (l ++ replicate m z) k y) tail
    ∙ set_at l z (replicate (15 - length l) z) y k n
    ∙ sym (append_assoc l (y ∷ []) (replicate (15 - length l) z))
    ∙ ap (λ m. (l ++ (y ∷ [])) ++ replicate m z) (sym left)

pub push_pack : (fs : List Factor) (f : Factor) → length fs < 16
    → ◌≡◌ {A = Factors} (record { at = set (pack fs).at (length fs) f; len = length fs + 1 }) (pack (fs ++ (f ∷ [])))
unfolding pack
push_pack fs f h = ap₂ (λ (l : List Factor) (k : ℕ). record { at = l; len = k }) (stored fs no_factor f (length fs) refl h) (sym (length-append fs (f ∷ [])))

-- one factor more, and a list more, behind those of a value with a clean tail
module _ (l : Factors) (fs : List Factor) (e : l ≡ pack fs) where
  len_is : l.len ≡ length fs
  len_is = ap (λ (l : Factors). l.len) e ∙ len_pack fs

  pub pushed : (f : Factor) → l.len < 16 → ◌≡◌ {A = Factors} (record { at = set l.at l.len f; len = l.len + 1 }) (pack (fs ++ (f ∷ [])))
  pushed f h = rw (len_is, e) (push_pack fs f (omega (arith, len_is)))

  pub appended : (gs at : List Factor) (n : ℕ) → n ≡ length gs → l.len + n ≤ 16 → at ≡ paste l.at l.len gs n → ◌≡◌ {A = Factors} (record { at = at; len = l.len + n }) (pack (fs ++ gs))
  unfolding pack
  appended gs at n h k q = ap₂ (λ (l : List Factor) (k : ℕ). record { at = l; len = k }) (q ∙ laid) sum
    where
      sum : l.len + n ≡ length (fs ++ gs)
      sum = omega (arith, len_is, h, length-append fs gs)

      tail : drop (length fs + n) (fs ++ replicate (16 - length fs) no_factor) ≡ replicate (16 - length (fs ++ gs)) no_factor
      tail = drop-append-add fs _ n ∙ drop-replicate n (16 - length fs) no_factor ∙ ap (λ k. replicate k no_factor) (omega (arith, len_is, sum))

      laid : paste l.at l.len gs n ≡ (fs ++ gs) ++ replicate (16 - length (fs ++ gs)) no_factor
      laid = rw (e, take-append_seam fs (replicate (16 - length fs) no_factor), take_all n gs (omega arith), tail)

-- an array field has its 16 elements: owning the struct tells it of the mapped list
pub full : {B : Type 0} (f : Factor → B) (l : Factors) → length (map f l.at) ≡ 16 → length l.at ≡ 16
full f l e = sym (length-map l.at f) ∙ e

pub listed : (l : Factors) → length l.at ≡ 16 → l.len ≤ 16 → length (list_of l) ≡ l.len
listed l e h = length-take-le l.len l.at (omega arith)

-- ---- an array filled from the front, its places past that clean
abbrev pub padded : List Factor → List Factor
padded fs = fs ++ replicate (16 - length fs) no_factor

pub padded_none : (o : Factors) → o ≡ pack [] → o.at ≡ padded []
unfolding pack
padded_none o e = ap (λ (l : Factors). l.at) e

pub padded_more : (fs at : List Factor) (n : ℕ) (f : Factor) → length fs ≡ n → n < 16 → at ≡ padded fs → set at n f ≡ padded (fs ++ (f ∷ []))
padded_more fs at n f h k e = rw e (stored fs no_factor f n h k)

pub padded_all : (fs at : List Factor) (n : ℕ) → n ≡ length fs → at ≡ padded fs → ◌≡◌ {A = Factors} (record { at = at; len = n }) (pack fs)
unfolding pack
padded_all fs at n h e = ap₂ (λ (l : List Factor) (k : ℕ). record { at = l; len = k }) e h

-- the factors before i are mapped and stand in the array, the places from i on are clean
pub record Mapped (f : Factor → Factor) (l : Factors) (at : List Factor) (i : ℕ) : Type 0 where
  pub stands : at ≡ padded (map f (take i (list_of l)))

module _ (f : Factor → Factor) (l : Factors) (at : List Factor) (i : ℕ) (u : Mapped f l at i) where
  pub mapped_more : (d g : Factor) → i < l.len → length (list_of l) ≡ l.len → i < 16 → g ≡ f (get_or l.at i d) → Mapped f l (set at i g) (i + 1)
  mapped_more d g h sized k e = record { stands = padded_more (map f (take i (list_of l))) at i g before k u.stands ∙ ap padded (ap (λ x. map f (take i (list_of l)) ++ (x ∷ [])) e ∙ more) }
    where
      before : length (map f (take i (list_of l))) ≡ i
      before = length-map (take i (list_of l)) f ∙ length-take-le i (list_of l) (omega arith)

      more : map f (take i (list_of l)) ++ (f (get_or l.at i d) ∷ []) ≡ map f (take (i + 1) (list_of l))
      more = let k : i < length (list_of l) = omega arith in sym (rw (add-one, take-suc (list_of l) i d, map-append, get_or-take))

  pub mapped_end : l.len ≤ i → length (list_of l) ≡ l.len → ◌≡◌ {A = Factors} (record { at = at; len = l.len }) (pack (map f (list_of l)))
  mapped_end h sized =
      let t = take_all i (list_of l) (omega arith) in
      padded_all (map f (list_of l)) at l.len (sym (length-map (list_of l) f ∙ sized)) (u.stands ∙ ap (λ m. padded (map f m)) t)

-- what was made of a list mapped has its factors, and is no longer
module _ (f : Factor → Factor) (l r : Factors) (e : r ≡ pack (map f (list_of l))) where
  pub mapped_list : list_of r ≡ map f (list_of l)
  mapped_list = ap list_of e ∙ list_pack _

  pub mapped_short : l.len ≤ 16 → r.len ≤ 16
  mapped_short h = omega (arith, ap (λ (l : Factors). l.len) e ∙ len_pack _, length-map (list_of l) f, length-take l.len l.at)

-- ---- a fault looked for

-- std's search is the definition's
pub any_is : {A : Type 0} (fault : A → Bool) (l : List A) → list_any fault l ≡ some fault l
unfolding some
any_is fault l = same_from_clauses (list_any fault) (some fault) (λ x r. fault x || r) refl (λ _ _. refl) (λ _ _. refl) l

-- a list with no fault has none at a place
pub none_at : (fault : Factor → Bool) (l : List Factor) (i : ℕ) (d : Factor) → i < length l → some fault l ≡ false → fault (get_or l i d) ≡ false
unfolding some
none_at fault [] i d h e = absurd (omega arith)
none_at fault (x ∷ xs) zero d h e = or_left (fault x) (some fault xs) e
none_at fault (x ∷ xs) (suc i) d h e = none_at fault xs i d (omega arith) (or_right (fault x) (some fault xs) e)

pub none_in : (fault : Factor → Bool) (l : Factors) (d : Factor) (i : ℕ) → i < l.len → length (list_of l) ≡ l.len → some fault (list_of l) ≡ false → fault (get_or l.at i d) ≡ false
none_in fault l d i h e q =
    let k : i < length (list_of l) = omega arith in
    rw (← get_or-take l.len l.at i d h) (none_at fault (list_of l) i d k q)
