-- `is_multiple_of` as the code works it out: the first base, the products from left to right, and the answer case by case.
use mathlib.Core.Path.{◌≡◌, refl, sym, ap, ap₂, ◌∙◌}
use mathlib.Core.Bool.{Bool, true, false, ◌&&◌, ◌||◌, not, cond}
use Rattle.std.specs.Prelude.{Some, None}
use Rattle.std.specs.Option.{unwrap_or}
use Rattle.std.specs.List.{position_or_len}
use Rattle.std.proofs.lemmas.List.Recursion.{is_position_or_len}
use lib.Dec.{ltb}
use borrow.Author.Tests.{ltb-false}
use mathlib.Core.List.{List, [], ◌∷◌}
use Prim.Native.Nat.{ℕ, suc, ◌+◌, ◌≤◌, ◌<◌}
use native.Mathlib.Omega.{arith}
use lib.ListN.{length, drop, get_or, drop_of_length-le}
use Rattle.exponents.specs.Outcome.{Refusal, Outcome, Ok, Err, apply, bind, each}
use Rattle.exponents.specs.Fractions.{nought, unit, same, faulty, invert, div, ranged, mul?, div?}
use Rattle.exponents.specs.declared.Exponent.{Exponent}
use Rattle.exponents.proofs.Holds.{take_out, bind_given, bind_refused}
use Rattle.exponents.proofs.Exact.{nought_times}
use Rattle.exponents.proofs.InRange.{ranged_given, sound}
use Rattle.exponents.proofs.Equality.{same_is}
use Rattle.exponents.proofs.Sound.{mul_sound}
use Rattle.exponents.specs.Words.{pick}
use Rattle.exponents.proofs.Places.{rest}
use Rattle.tables.proofs.Sound.{nought_sound}
use Rattle.canonical.specs.Canonical.{same_all, all_nought}
use Rattle.canonical.proofs.Packs.{any_default}
use Rattle.reduction.specs.Multiple.{Maybe, times, none, first_base, fits, multiple_of}

-- ---- the first base, as `position` finds it
first_short : (a : List Exponent) → first_base a ≤ length a
unfolding first_base
first_short [] = omega arith
first_short (x ∷ a) = go (same x nought) (first_short a)
  where
    go : (t : Bool) → first_base a ≤ length a → pick t (suc (first_base a)) 0 ≤ suc (length a)
    go true h = omega arith
    go false h = omega arith

first_position : (a : List Exponent) → first_base a ≡ position_or_len (λ x. not (same x nought)) a
unfolding first_base
first_position a = is_position_or_len first_base (λ x. not (same x nought)) refl (λ x xs. step (same x nought) (first_base xs)) a
  where
    step : (t : Bool) (n : ℕ) → pick t (suc n) 0 ≡ cond (not t) 0 (1 + n)
    step true n = omega arith
    step false n = refl

pub first_found : (a : List Exponent) → length a ≡ 16 → unwrap_or (cond (ltb (position_or_len (λ x. not (same x nought)) a) (length a)) (Some (position_or_len (λ x. not (same x nought)) a)) None) 16 ≡ first_base a
first_found a h = ap (λ n. unwrap_or (cond (ltb n (length a)) (Some n) None) 16) (sym (first_position a)) ∙ go (ltb (first_base a) (length a)) refl
  where
    go : (t : Bool) → ltb (first_base a) (length a) ≡ t → unwrap_or (cond t (Some (first_base a)) None) 16 ≡ first_base a
    go true e = refl
    go false e = omega (arith, first_short a, ltb-false (first_base a) (length a) e)

-- what the code reads there
pub at_first : (l a : List Exponent) (i : ℕ) (d : Exponent) → i ≡ first_base a → i < length l → get_or l i d ≡ get_or l (first_base a) nought
at_first l a i d e h = any_default l i d nought h ∙ ap (λ j. get_or l j nought) e

-- there is none exactly where all are zero
pub all-zero : (a : List Exponent) → length a ≤ first_base a → all_nought a ≡ true
unfolding first_base all_nought
all-zero [] h = refl
all-zero (x ∷ a) h = go (same x nought) refl h (all-zero a)
  where
    go : (t : Bool) → same x nought ≡ t → suc (length a) ≤ pick t (suc (first_base a)) 0 → (length a ≤ first_base a → all_nought a ≡ true) → (t && all_nought a) ≡ true
    go true e k f = f (omega arith)
    go false e k f = absurd (omega arith)

pub not_all-zero : (a : List Exponent) → first_base a < length a → all_nought a ≡ false
unfolding first_base all_nought
not_all-zero [] h = absurd (omega arith)
not_all-zero (x ∷ a) h = go (same x nought) h (not_all-zero a)
  where
    go : (t : Bool) → pick t (suc (first_base a)) 0 < suc (length a) → (first_base a < length a → all_nought a ≡ false) → (t && all_nought a) ≡ false
    go true k f = f (omega arith)
    go false k f = refl

-- ---- a zero times what keeps its rule
pub zero-product : (q : Exponent) → faulty q ≡ false → mul? nought q ≡ Ok nought
zero-product q h = ap ranged (nought_times q (sound q h).1) ∙ ranged_given nought nought_sound.range

pub product_skip : (y q : Exponent) → same y nought ≡ true → faulty q ≡ false → Ok y ≡ mul? y q
product_skip y q e h = let z = same_is y nought e in ap Ok z ∙ sym (ap (λ (y : Exponent). mul? y q) z ∙ zero-product q h)

pub quotient_sound : (x y q : Exponent) → div? x y ≡ Ok q → faulty q ≡ false
unfolding div
quotient_sound x y q e = take_out (mul_sound x (invert y)) e

-- ---- the products, from left to right: t tells whether those before were a's
abbrev pub fits_from : Bool → List Exponent → List Exponent → Exponent → Outcome Maybe
fits_from t xs ys q = apply (λ zs. pick (t && same_all zs xs) (times q) none) (each (λ y. mul? y q) ys)

pub fits_start : (xs ys : List Exponent) (q : Exponent) → fits_from true xs ys q ≡ fits xs ys q
unfolding fits
fits_start xs ys q = refl

and_assoc : (a b c : Bool) → (a && (b && c)) ≡ ((a && b) && c)
and_assoc true b c = refl
and_assoc false b c = refl

pub and_true : (a : Bool) → (a && true) ≡ a
and_true true = refl
and_true false = refl

pub fits_cons : (t : Bool) (x : Exponent) (xs : List Exponent) (y : Exponent) (ys : List Exponent) (q : Exponent) → fits_from t (x ∷ xs) (y ∷ ys) q ≡ bind (mul? y q) (λ w. fits_from (t && same w x) xs ys q)
unfolding each bind same_all
fits_cons t x xs y ys q = go (mul? y q) (each (λ y. mul? y q) ys)
  where
    go : (o : Outcome Exponent) (p : Outcome (List Exponent)) → apply (λ zs. pick (t && same_all zs (x ∷ xs)) (times q) none) (bind o (λ b. apply (λ m. b ∷ m) p)) ≡ bind o (λ w. apply (λ zs. pick ((t && same w x) && same_all zs xs) (times q) none) p)
    go (Err r) p = refl
    go (Ok w) (Err r) = refl
    go (Ok w) (Ok zs) = ap (λ b. Ok (pick b (times q) none)) (and_assoc t (same w x) (same_all zs xs))

-- one place more
module _ (a b : List Exponent) (q : Exponent) (t : Bool) (i : ℕ) (so_far : fits_from t (drop i a) (drop i b) q ≡ fits a b q) where
  module _ (x y : Exponent) (h : i < length a) (k : i < length b) where
    here : fits a b q ≡ bind (mul? (get_or b i y) q) (λ w. fits_from (t && same w (get_or a i x)) (drop (i + 1) a) (drop (i + 1) b) q)
    here = sym so_far ∙ ap₂ (λ xs ys. fits_from t xs ys q) (rest a x i h) (rest b y i k) ∙ fits_cons t _ _ _ _ q

    pub fits_on : (w : Exponent) → Ok w ≡ mul? (get_or b i y) q → (u : Bool) → u ≡ same w (get_or a i x) → fits_from (t && u) (drop (i + 1) a) (drop (i + 1) b) q ≡ fits a b q
    fits_on w e u p = sym (here ∙ bind_given _ (sym e) ∙ ap (λ u. fits_from (t && u) (drop (i + 1) a) (drop (i + 1) b) q) (sym p))

    pub fits_off : (r : Refusal) → Err r ≡ mul? (get_or b i y) q → Err r ≡ fits a b q
    fits_off r e = sym (here ∙ bind_refused _ (sym e))

  module _ (h : length a ≤ i) (k : length b ≤ i) where
    over : fits a b q ≡ Ok (pick t (times q) none)
    unfolding each same_all
    over = sym so_far ∙ ap₂ (λ xs ys. fits_from t xs ys q) (drop_of_length-le a h) (drop_of_length-le b k) ∙ ap (λ u. Ok (pick u (times q) none)) (and_true t)

    pub fits_all : t ≡ true → Ok (times q) ≡ fits a b q
    fits_all e = sym (over ∙ ap (λ t. Ok (pick t (times q) none)) e)

    pub fits_not : t ≡ false → Ok none ≡ fits a b q
    fits_not e = sym (over ∙ ap (λ t. Ok (pick t (times q) none)) e)

-- ---- the answer, case by case
or_true : (b : Bool) → (b || true) ≡ true
or_true true = refl
or_true false = refl

module _ (a b : List Exponent) where
  -- what b has at a's first base
  abbrev there : Exponent
  there = get_or b (first_base a) nought

  pub multiple-one : same_all a b ≡ true → Ok (times unit) ≡ multiple_of a b
  unfolding multiple_of
  multiple-one e = rw e

  module _ (e : same_all a b ≡ false) where
    apart : multiple_of a b ≡ pick (all_nought a || same there nought) (Ok none) (bind (div? (get_or a (first_base a) nought) there) (fits a b))
    unfolding multiple_of
    apart = ap (λ t. pick t (Ok (times unit)) (pick (all_nought a || same there nought) (Ok none) (bind (div? (get_or a (first_base a) nought) there) (fits a b)))) e

    pub multiple_scalar : all_nought a ≡ true → Ok none ≡ multiple_of a b
    multiple_scalar h = sym (apart ∙ ap (λ t. pick (t || same there nought) (Ok none) (bind (div? (get_or a (first_base a) nought) there) (fits a b))) h)

    pub multiple-zero : same there nought ≡ true → Ok none ≡ multiple_of a b
    multiple-zero h = sym (apart ∙ ap (λ t. pick t (Ok none) (bind (div? (get_or a (first_base a) nought) there) (fits a b))) (ap (λ t. all_nought a || t) h ∙ or_true (all_nought a)))

    module _ (h : all_nought a ≡ false) (k : same there nought ≡ false) where
      divides : multiple_of a b ≡ bind (div? (get_or a (first_base a) nought) there) (fits a b)
      divides = apart ∙ ap₂ (λ t u. pick (t || u) (Ok none) (bind (div? (get_or a (first_base a) nought) there) (fits a b))) h k

      pub multiple_range : (r : Refusal) → div? (get_or a (first_base a) nought) there ≡ Err r → Err r ≡ multiple_of a b
      multiple_range r e = sym (divides ∙ bind_refused _ e)

      pub multiple-fits : (q : Exponent) → div? (get_or a (first_base a) nought) there ≡ Ok q → fits a b q ≡ multiple_of a b
      multiple-fits q p = sym (divides ∙ bind_given _ p)
