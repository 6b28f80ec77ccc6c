-- A list walked place by place: what is left of it, and an array filled with what a function gives. Over the element and the function.
use mathlib.Core.Path.{◌≡◌, sym, ◌∙◌, ap, ap₂}
use mathlib.Core.List.{List, [], ◌∷◌, ◌++◌, map, map-append}
use Prim.Native.Nat.{ℕ, suc, ◌+◌, ◌<◌, ◌≤◌}
use native.Mathlib.Numerals.{add-one}
use native.Mathlib.Omega.{arith}
use lib.ListN.{length, take, drop, get_or, set, length-set, length-drop}
use lib.Seq.{sets, drop-cons, take-suc, take-suc-set, take_all, length-take-le, get_or-take, get_or-drop}

-- the rest of a list, with the element as the code reads it
pub rest : {A : Type 0} (l : List A) (d : A) (i : ℕ) → i < length l → drop i l ≡ get_or l i d ∷ drop (i + 1) l
rest l d i h = rw (add-one, drop-cons l i d)

-- a list put into an array number by number: one more, the rest being m
pub put_on : {A : Type 0} (w k m : List A) (x : A) (a i : ℕ) → k ≡ x ∷ m → sets (set w (a + i) x) (a + (i + 1)) m ≡ sets w (a + i) k
put_on w k m x a i e =
    let b : a + (i + 1) ≡ suc (a + i) = omega arith in
    rw (b, e)

-- the places of w before i hold what f gives of those of l
pub record Mapped {A B : Type 0} (f : A → B) (l : List A) (i : ℕ) (w : List B) : Type 0 where
  pub within : i ≤ length l
  pub long : length w ≡ length l
  pub so_far : take i w ≡ map f (take i l)

module _ {A B : Type 0} (f : A → B) (l : List A) where
  pub mapped_on : (d : A) (i : ℕ) (w : List B) (v : B) → i < length l → v ≡ f (get_or l i d) → Mapped f l i w → Mapped f l (i + 1) (set w i v)
  mapped_on d i w v h e p = record {
    within = omega arith;
    long = length-set w i v ∙ p.long;
    so_far = rw (add-one i) (take-suc-set w i v (rw p.long h) ∙ ap₂ (λ (s : List B) (t : B). s ++ (t ∷ [])) p.so_far e ∙ sym (ap (map f) (take-suc l i d h) ∙ map-append f (take i l) (get_or l i d ∷ [])));
  }

  pub mapped_end : (i : ℕ) (w : List B) → length l ≤ i → Mapped f l i w → w ≡ map f l
  mapped_end i w h p = sym (take_all i w (omega (arith, p.long))) ∙ p.so_far ∙ ap (map f) (take_all i l h)

-- ---- the sixteen from place a on
module _ {A : Type 0} (l : List A) (a : ℕ) where
  pub part_long : a + 16 ≤ length l → length (take 16 (drop a l)) ≡ 16
  part_long h = length-take-le 16 (drop a l) (rw (length-drop a l) (omega arith))

  pub part_at : (i : ℕ) (d : A) → i < 16 → get_or (take 16 (drop a l)) i d ≡ get_or l (a + i) d
  part_at i d h = get_or-take 16 (drop a l) i d h ∙ get_or-drop a l i d
