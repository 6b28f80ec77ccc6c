-- Where exponents are whole, no step is refused by DENOMINATOR, and what it answers is whole (02, order 2): ranged steps, base exponents, canonical forms, conversion.
use mathlib.Core.Path.{◌≡◌, refl, ap₂, subst}
use mathlib.Core.Bool.{Bool, true, false, true≢false}
use mathlib.Core.List.{List, [], ◌∷◌, map}
use Prim.Native.Nat.{ℕ, ◌*◌, Ordering}
use lib.IntN.{ℤ, nat_abs}
use lib.Dec.{eqb}
use Rattle.exponents.specs.Words.{All}
use Rattle.exponents.specs.Outcome.{Refusal, RANGE, DENOMINATOR, number, Outcome, Ok, Err, unless, apply, bind, each}
use Rattle.exponents.specs.Fractions.{lowest, add, mul, neg, nought, numerator_beyond, ranged, sum?}
use Rattle.exponents.specs.declared.Exponent.{Exponent}
use Rattle.exponents.proofs.Divisors.{gcd-one}
use Rattle.exponents.proofs.Holds.{Only, fine, only}
use Rattle.units.specs.declared.Factor.{Factor}
use Rattle.units.specs.Lists.{with_exponent, inverted}
use Rattle.tables.specs.Lists.{base_at, base}
use Rattle.tables.specs.Order.{Atom}
use Rattle.tables.specs.Rules.{Rules, scale_by}
use Rattle.canonical.specs.Canonical.{place, nonzero, insert, gather, canon, same_all}
use Rattle.canonical.proofs.Keeping.{all_append, drop_keeps}
use Rattle.common.specs.Common.{common, over}
use Rattle.common.proofs.Shaped.{common_all}
use Rattle.conversion.specs.Conversion.{judged, choose, against, unlike, standing, convert_by, convert, cancelling}
use Rattle.conversion.proofs.Refusals.{fraction_only, scale_is, rescaled_is}
use Rattle.halves.specs.Wholes.{WholeExponent, WholeFactor}

-- ---- outcomes that are never refused by DENOMINATOR

-- a refusal other than DENOMINATOR
abbrev pub Other : Refusal → Type 0
Other r = eqb (number r) (number DENOMINATOR) ≡ false

-- if it refuses, then by another refusal; if it answers, P holds of its answer
pub data Spared {A : Type 0} (P : A → Type 0) : Outcome A → Type 0 where
  gives : {a : A} → P a → Spared P (Ok a)
  stops : {r : Refusal} → Other r → Spared P (Err r)

-- whatever is answered
abbrev pub Any : {A : Type 0} → A → Type 0
Any a = Unit {0}

abbrev of_refused : {A : Type 0} (P : A → Type 0) {r : Refusal} → Spared P (Err r) → Other r
of_refused P (stops h) = h

module _ {A : Type 0} {P : A → Type 0} where
  pub never : {o : Outcome A} → Spared P o → o ≡ Err DENOMINATOR → ⊥
  never h e = true≢false (of_refused P (subst (λ q. Spared P q) e h))

  pub spared_unless : (t : Bool) (r : Refusal) {o : Outcome A} → Other r → Spared P o → Spared P (unless t r o)
  unfolding unless
  spared_unless true r s h = stops s
  spared_unless false r s h = h

pub spared_only : {A : Type 0} {o : Outcome A} → Only Other o → Spared Any o
spared_only fine = gives tt
spared_only (only h) = stops h

module _ {A B : Type 0} {P : A → Type 0} {Q : B → Type 0} where
  pub spared_map : (f : A → B) {o : Outcome A} → Spared P o → ((a : A) → P a → Q (f a)) → Spared Q (apply f o)
  spared_map f (gives {a = a} h) g = gives (g a h)
  spared_map f (stops s) g = stops s

  pub spared_bind : (f : A → Outcome B) {o : Outcome A} → Spared P o → ((a : A) → P a → Spared Q (f a)) → Spared Q (bind o f)
  unfolding bind
  spared_bind f (gives {a = a} h) g = g a h
  spared_bind f (stops s) g = stops s

pub spared_each : {A B : Type 0} {P : A → Type 0} {Q : B → Type 0} (f : A → Outcome B) → ((a : A) → P a → Spared Q (f a)) → (l : List A) → All P l → Spared (All Q) (each f l)
unfolding each
spared_each f g [] h = gives {a = []} tt
spared_each f g (a ∷ l) h = spared_bind _ (g a h.0) λ b q. spared_map _ (spared_each f g l h.1) λ m k. (q, k)

-- ---- exponents

lowest-whole : (z : ℤ) (d : ℕ) → d ≡ 1 → WholeExponent (lowest z d)
unfolding lowest
lowest-whole z d e = rw (e, gcd-one (nat_abs z))

module _ (x y : Exponent) (p : WholeExponent x) (q : WholeExponent y) where
  pub add-whole : WholeExponent (add x y)
  unfolding add
  add-whole = lowest-whole _ (x.den * y.den) (ap₂ ◌*◌ p q)

  pub mul-whole : WholeExponent (mul x y)
  unfolding mul
  mul-whole = lowest-whole _ (x.den * y.den) (ap₂ ◌*◌ p q)

-- a ranged step looks at its denominator, which is 1
pub ranged-whole : (x : Exponent) → WholeExponent x → Spared WholeExponent (ranged x)
unfolding ranged unless
ranged-whole x h = rw h (spared_unless (numerator_beyond x.num) RANGE refl (gives refl))

module _ {A : Type 0} {P : A → Type 0} (term : A → Outcome Exponent) (terms : (a : A) → P a → Spared WholeExponent (term a)) where
  pub sum-whole : (s : Exponent) (l : List A) → WholeExponent s → All P l → Spared WholeExponent (sum? term s l)
  unfolding sum?
  sum-whole s [] p h = gives p
  sum-whole s (a ∷ l) p h = spared_bind _ (terms a h.0) λ t q. spared_bind _ (ranged-whole (add s t) (add-whole s t p q)) λ u r. sum-whole u l r h.1

-- ---- base exponents

-- every row's exponent at one base row
abbrev pub WholeBase : (ℕ → Exponent) → Type 0
WholeBase b = (r : ℕ) → WholeExponent (b r)

pub base-whole : (bs : List (ℕ → Exponent)) (l : List Factor) → All WholeBase bs → All WholeFactor l → Spared (All WholeExponent) (base bs l)
unfolding base base_at
base-whole bs l w h = spared_each (base_at l) (λ b p. sum-whole _ (λ f q. ranged-whole _ (mul-whole f.exponent (b f.row) q (p f.row))) nought l refl h) bs w

-- ---- canonical forms

nonzero-whole : (l : List Factor) → All WholeFactor l → All WholeFactor (nonzero l)
unfolding nonzero
nonzero-whole [] h = tt
nonzero-whole (f ∷ l) h = drop_keeps WholeFactor _ f (nonzero l) h.0 (nonzero-whole l h.1)

module _ (cmp : Atom → Atom → Ordering) where
  place-whole : (o : Ordering) (x y : Factor) (ys : List Factor) (r : Outcome (List Factor)) → WholeFactor x → All WholeFactor (y ∷ ys) → Spared (All WholeFactor) r → Spared (All WholeFactor) (place o x y ys r)
  unfolding place
  place-whole Ordering.lt x y ys r p h k = gives {a = x ∷ y ∷ ys} (p, h)
  place-whole Ordering.eq x y ys r p h k = spared_map _ (ranged-whole _ (add-whole y.exponent x.exponent h.0 p)) λ e q. (q, h.1)
  place-whole Ordering.gt x y ys r p h k = spared_map _ k λ zs q. (h.0, q)

  insert-whole : (x : Factor) (l : List Factor) → WholeFactor x → All WholeFactor l → Spared (All WholeFactor) (insert cmp x l)
  unfolding insert
  insert-whole x [] p h = gives {a = x ∷ []} (p, tt)
  insert-whole x (y ∷ ys) p h = place-whole _ x y ys _ p h (insert-whole x ys p h.1)

  gather-whole : (a l : List Factor) → All WholeFactor a → All WholeFactor l → Spared (All WholeFactor) (gather cmp a l)
  unfolding gather
  gather-whole a [] h k = gives h
  gather-whole a (x ∷ l) h k = spared_bind _ (insert-whole x a k.0 h) λ b q. gather-whole b l q k.1

  pub canon_whole : (l : List Factor) → All WholeFactor l → Spared (All WholeFactor) (canon cmp l)
  unfolding canon
  canon_whole l h = spared_map _ (gather-whole [] l tt h) nonzero-whole

-- ---- common factors: what two share is one of their exponents
pub common_whole : (cmp : Atom → Atom → Ordering) (l m : List Factor) → All WholeFactor l → All WholeFactor m → All WholeFactor (common cmp l m)
common_whole = common_all WholeExponent WholeFactor (λ f h. h) (λ f e h p. p)

-- the negative has the same denominator
pub inverted-whole : (l : List Factor) → All WholeFactor l → All WholeFactor (map inverted l)
unfolding inverted with_exponent neg
inverted-whole [] h = tt
inverted-whole (f ∷ l) h = (h.0, inverted-whole l h.1)

pub over-whole : (l c : List Factor) → All WholeFactor l → All WholeFactor c → All WholeFactor (over l c)
over-whole l c h k = all_append WholeFactor l (map inverted c) h (inverted-whole c k)

-- ---- scales are refused by FRACTION alone, and conversions

pub scale_spared : {A : Type 0} (R : Rules A) (l : List Factor) → Spared Any (scale_by R l)
scale_spared R l = spared_only (fraction_only Other refl (scale_is R R.numbers.one l))

module _ {A : Type 0} where
  judged_whole : (t : Bool) {o : Outcome A} → Spared Any o → Spared Any (judged t o)
  unfolding judged
  judged_whole true h = h
  judged_whole false h = stops refl

  choose_whole : (t : Bool) (v : A) {o : Outcome A} → Spared Any o → Spared Any (choose t v o)
  unfolding choose
  choose_whole true v h = gives tt
  choose_whole false v h = h

-- by rules whose base exponents are whole
module _ {A : Type 0} (R : Rules A) (w : All WholeBase R.bases) where
  pub against_whole : (own : List Factor) {target : Outcome (List Factor)} (v : A) → All WholeFactor own → Spared (All WholeFactor) target → Spared Any (against R own target v)
  unfolding against
  against_whole own v h k =
      spared_bind _ (base-whole R.bases own w h) λ x _.
      spared_bind _ k λ t q.
      spared_bind _ (base-whole R.bases t w q) λ y _.
      judged_whole (same_all x y) (spared_only (fraction_only Other refl (rescaled_is R own t v)))

  -- by either rule: `ready` is how the own list over the common factors is made ready, and keeps its exponents whole
  module _ (ready : List Factor → Outcome (List Factor)) (readied : (l : List Factor) → All WholeFactor l → Spared (All WholeFactor) (ready l)) where
    unlike_whole : (c l m : List Factor) (v : A) → All WholeFactor c → All WholeFactor l → All WholeFactor m → Spared Any (unlike R ready c l m v)
    unfolding unlike
    unlike_whole c l m v d h k = spared_bind _ (readied (over l c) (over-whole l c h d)) λ own p. against_whole own v p (canon_whole R.order (over m c) (over-whole m c k d))

    pub by_whole : (l m : List Factor) (v : A) → All WholeFactor l → All WholeFactor m → Spared Any (convert_by R ready l m v)
    unfolding convert_by
    by_whole l m v h k =
        spared_bind _ (canon_whole R.order l h) λ cl p.
        spared_bind _ (canon_whole R.order m k) λ cm q.
        choose_whole _ v (unlike_whole _ l m v (common_whole R.order cl cm p q) h k)

  pub convert_whole : (l m : List Factor) (v : A) → All WholeFactor l → All WholeFactor m → Spared Any (convert R l m v)
  convert_whole = by_whole standing (λ l h. gives h)

  pub cancelling_whole : (l m : List Factor) (v : A) → All WholeFactor l → All WholeFactor m → Spared Any (cancelling R l m v)
  cancelling_whole = by_whole (canon R.order) (canon_whole R.order)
