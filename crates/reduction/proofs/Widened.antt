-- `is_multiple_of` over sixteen places: the zeros past the base rows make no difference. And its answer for two lists.
use mathlib.Core.Path.{◌≡◌, refl, sym, ap, ap₂, ◌∙◌}
use mathlib.Core.Bool.{Bool, true, false, ◌&&◌, ◌||◌, true≢false}
use mathlib.Core.List.{List, [], ◌∷◌, ◌++◌}
use Prim.Native.Nat.{ℕ, zero, suc, ◌-◌, ◌<◌}
use native.Mathlib.Omega.{arith}
use lib.ListN.{length, get_or, replicate, get_or-append}
use Rattle.exponents.specs.Outcome.{Refusal, Outcome, Ok, Err, bind, each}
use Rattle.exponents.specs.Fractions.{nought, unit, same_z, same, faulty, mul?, div?}
use Rattle.exponents.specs.declared.Exponent.{Exponent}
use Rattle.exponents.proofs.Holds.{bind_given, bind_refused, either}
use Rattle.units.specs.declared.Factor.{Factor}
use Rattle.tables.specs.Lists.{base}
use Rattle.exponents.specs.Words.{pick}
use Rattle.tables.specs.Held.{pack_exps}
use Rattle.canonical.specs.Canonical.{same_all, all_nought}
use Rattle.reduction.specs.Multiple.{Maybe, times, none, first_base, fits, multiple_of, is_multiple}
use Rattle.reduction.proofs.Compared.{packed-same, packed-nought}
use Rattle.reduction.proofs.Fitting.{zero-product, quotient_sound, fits_from, fits_start, fits_cons, and_true}

-- ---- the products
padded_fits : (k : ℕ) (t : Bool) (q : Exponent) → faulty q ≡ false → (es fs : List Exponent) → length es ≡ length fs → fits_from t (es ++ replicate k nought) (fs ++ replicate k nought) q ≡ fits_from t es fs q
unfolding each same_all same same_z
padded_fits zero t q h [] [] e = refl
padded_fits (suc k) t q h [] [] e =
    fits_cons t nought (replicate k nought) nought (replicate k nought) q
    ∙ bind_given _ (zero-product q h)
    ∙ ap (λ u. fits_from u (replicate k nought) (replicate k nought) q) (and_true t)
    ∙ padded_fits k t q h [] [] refl
padded_fits k t q h [] (f ∷ fs) e = absurd (omega arith)
padded_fits k t q h (x ∷ es) [] e = absurd (omega arith)
padded_fits k t q h (x ∷ es) (y ∷ fs) e =
    fits_cons t x (es ++ replicate k nought) y (fs ++ replicate k nought) q
    ∙ ap (bind (mul? y q)) (λ i w. padded_fits k (t && same w x) q h es fs (omega arith) i)
    ∙ sym (fits_cons t x es y fs q)

fits_padded : (k : ℕ) (q : Exponent) → faulty q ≡ false → (es fs : List Exponent) → length es ≡ length fs → fits (es ++ replicate k nought) (fs ++ replicate k nought) q ≡ fits es fs q
fits_padded k q h es fs e = sym (fits_start _ _ q) ∙ padded_fits k true q h es fs e ∙ fits_start es fs q

-- ---- the first base of a list that isn't all zero stays where it is
abbrev Stays : List Exponent → List Exponent → Type 0
Stays es r = (first_base (es ++ r) ≡ first_base es) × (first_base es < length es)

stays : (es r : List Exponent) → all_nought es ≡ false → Stays es r
unfolding first_base all_nought
stays [] r h = absurd (true≢false h)
stays (x ∷ es) r h = go (same x nought) h (stays es r)
  where
    go : (t : Bool) → (t && all_nought es) ≡ false → (all_nought es ≡ false → Stays es r) → (pick t (suc (first_base (es ++ r))) 0 ≡ pick t (suc (first_base es)) 0) × (pick t (suc (first_base es)) 0 < suc (length es))
    go true h f = let s = f h in (ap suc s.0, omega (arith, s.1))
    go false h f = (refl, omega arith)

-- ---- `multiple_of` by its tests
abbrev cased : Bool → Bool → Exponent → Exponent → (Exponent → Outcome Maybe) → Outcome Maybe
cased s t x y f = pick s (Ok (times unit)) (pick (t || same y nought) (Ok none) (bind (div? x y) f))

by_cases : (xs ys : List Exponent) → multiple_of xs ys ≡ cased (same_all xs ys) (all_nought xs) (get_or xs (first_base xs) nought) (get_or ys (first_base xs) nought) (fits xs ys)
unfolding multiple_of
by_cases xs ys = refl

-- the quotient keeps its rule
cased_by : (s t : Bool) (x y : Exponent) (f g : Exponent → Outcome Maybe) → ((q : Exponent) → faulty q ≡ false → f q ≡ g q) → cased s t x y f ≡ cased s t x y g
cased_by s t x y f g h =
    ap (λ o. pick s (Ok (times unit)) (pick (t || same y nought) (Ok none) o))
    (either (div? x y) (λ q e. bind_given f e ∙ h q (quotient_sound x y q e) ∙ sym (bind_given g e)) (λ r e. bind_refused f e ∙ sym (bind_refused g e)))

module _ (k : ℕ) (es fs : List Exponent) (n : length es ≡ length fs) where
  abbrev wide : List Exponent → List Exponent
  wide l = l ++ replicate k nought

  scalar : (s : Bool) → all_nought es ≡ true → cased s (all_nought es) (get_or (wide es) (first_base (wide es)) nought) (get_or (wide fs) (first_base (wide es)) nought) (fits (wide es) (wide fs)) ≡ cased s (all_nought es) (get_or es (first_base es) nought) (get_or fs (first_base es) nought) (fits es fs)
  scalar s e = rw e

  other : (s : Bool) → all_nought es ≡ false → cased s (all_nought es) (get_or (wide es) (first_base (wide es)) nought) (get_or (wide fs) (first_base (wide es)) nought) (fits (wide es) (wide fs)) ≡ cased s (all_nought es) (get_or es (first_base es) nought) (get_or fs (first_base es) nought) (fits es fs)
  other s e =
      let w = stays es (replicate k nought) e in
      cased_by s (all_nought es) (get_or (wide es) (first_base (wide es)) nought) (get_or (wide fs) (first_base (wide es)) nought) (fits (wide es) (wide fs)) (fits es fs) (λ q h. fits_padded k q h es fs n)
      ∙ ap (λ i. cased s (all_nought es) (get_or (wide es) i nought) (get_or (wide fs) i nought) (fits es fs)) w.0
      ∙ ap₂ (λ x y. cased s (all_nought es) x y (fits es fs)) (get_or-append es (replicate k nought) nought (first_base es) w.1) (get_or-append fs (replicate k nought) nought (first_base es) (omega (arith, w.1)))

  padded_multiple : same_all (wide es) (wide fs) ≡ same_all es fs → all_nought (wide es) ≡ all_nought es → multiple_of (wide es) (wide fs) ≡ multiple_of es fs
  padded_multiple p q =
      by_cases (wide es) (wide fs)
      ∙ ap₂ (λ s t. cased s t (get_or (wide es) (first_base (wide es)) nought) (get_or (wide fs) (first_base (wide es)) nought) (fits (wide es) (wide fs))) p q
      ∙ go (all_nought es) refl
      ∙ sym (by_cases es fs)
    where
      go : (t : Bool) → all_nought es ≡ t → cased (same_all es fs) (all_nought es) (get_or (wide es) (first_base (wide es)) nought) (get_or (wide fs) (first_base (wide es)) nought) (fits (wide es) (wide fs)) ≡ cased (same_all es fs) (all_nought es) (get_or es (first_base es) nought) (get_or fs (first_base es) nought) (fits es fs)
      go true e = scalar (same_all es fs) e
      go false e = other (same_all es fs) e

pub packed-multiple : (es fs : List Exponent) → length es ≡ length fs → multiple_of (pack_exps es) (pack_exps fs) ≡ multiple_of es fs
unfolding pack_exps
packed-multiple es fs n =
    ap (λ k. multiple_of (es ++ replicate (16 - length es) nought) (fs ++ replicate (16 - k) nought)) (sym n)
    ∙ padded_multiple (16 - length es) es fs n (ap (λ k. same_all (es ++ replicate (16 - length es) nought) (fs ++ replicate (16 - k) nought)) n ∙ packed-same es fs n) (packed-nought es)

-- ---- of two lists
module _ (bs : List (ℕ → Exponent)) (fs gs : List Factor) where
  pub first_range : (r : Refusal) → base bs fs ≡ Err r → Err r ≡ is_multiple bs fs gs
  unfolding is_multiple
  first_range r e = sym (bind_refused _ e)

  module _ (xs : List Exponent) (e : base bs fs ≡ Ok xs) where
    pub second_range : (r : Refusal) → base bs gs ≡ Err r → Err r ≡ is_multiple bs fs gs
    unfolding is_multiple
    second_range r q = sym (bind_given _ e ∙ bind_refused _ q)

    pub both_given : (ys : List Exponent) → base bs gs ≡ Ok ys → length xs ≡ length ys → multiple_of (pack_exps xs) (pack_exps ys) ≡ is_multiple bs fs gs
    unfolding is_multiple
    both_given ys f n = packed-multiple xs ys n ∙ sym (bind_given _ e ∙ bind_given _ f)
