-- The base exponents of a definition, as the code works them out from the arrays of all rows' exponents.
use mathlib.Core.Path.{◌≡◌, refl, sym, ap, ap₂, ◌∙◌}
use mathlib.Core.Bool.{true, false, not}
use mathlib.Core.List.{List, [], ◌∷◌, ◌++◌, map}
use Prim.Native.Nat.{ℕ, zero, suc, ◌+◌, ◌-◌, ◌*◌, ◌≤◌, ◌<◌}
use native.Mathlib.Omega.{arith}
use lib.Dec.{ltb}
use lib.ListN.{length, drop, get_or, set, replicate, length-map}
use borrow.Author.Tests.{ltb-true, not-false}
use Rattle.exponents.specs.Outcome.{Refusal, Outcome, Ok, Err, bind}
use Rattle.exponents.specs.Fractions.{nought, add?, mul?, sum?, same, faulty}
use Rattle.exponents.specs.declared.Exponent.{Exponent}
use Rattle.exponents.proofs.Holds.{take_out, holds_bind, holds_eq}
use Rattle.exponents.proofs.Equality.{same_is}
use Rattle.exponents.proofs.Sound.{zero_term, add_sound}
use Rattle.exponents.proofs.Summing.{sum_on, sum_off, sum_end}
use Rattle.exponents.proofs.Traversal as each
use Rattle.units.specs.declared.Factor.{Factor}
use lib.IntN.{ℤ, pos}
use Rattle.units.specs.declared.Prefix.TheVariants.{Metric}
use Rattle.units.specs.declared.Kind.TheVariants.{Base}
use Rattle.units.specs.declared.Row.{Row}
use Rattle.units.specs.Lists.{some, factor_fault}
use Rattle.units.proofs.Laws.{none_at, stored}
use Rattle.units.proofs.Sound.{exponent_sound}
use Rattle.tables.specs.Lists.{base_at, base}
use Rattle.tables.specs.Rows.{Facts, exp_at, places, bases}
use Rattle.tables.specs.Held.{pack_exps, exps_of, Filed}

-- ---- one term more
module _ (acc e d : Exponent) where
  pub term_skip : faulty e ≡ false → faulty acc ≡ false → same d nought ≡ true → Ok acc ≡ bind (mul? e d) (λ t. add? acc t)
  term_skip he ha h = sym (ap (λ (d : Exponent). bind (mul? e d) (λ t. add? acc t)) (same_is d nought h) ∙ zero_term e acc he ha)

  pub term_sound : (x : Exponent) → bind (mul? e d) (λ t. add? acc t) ≡ Ok x → faulty x ≡ false
  term_sound x h = take_out (holds_bind _ (holds_eq (mul? e d)) λ t _. add_sound acc t) h

-- ---- base exponents in sixteen places
pub padded : (k : ℕ) (es : List Exponent) (s : ℕ) (x : Exponent) → s < k → get_or (es ++ replicate (k - length es) nought) s x ≡ get_or es s nought
padded zero es s x h = absurd (omega arith)
padded (suc k) [] s x h = ap (λ n. get_or (replicate n nought) s x) (less (suc k)) ∙ blank (suc k) s h
  where
    less : (k : ℕ) → k - 0 ≡ k
    less k = omega arith

    blank : (k s : ℕ) → s < k → get_or (replicate k nought) s x ≡ nought
    blank zero s h = absurd (omega arith)
    blank (suc k) zero h = refl
    blank (suc k) (suc s) h = blank k s (omega arith)
padded (suc k) (e ∷ es) zero x h = refl
padded (suc k) (e ∷ es) (suc s) x h = ap (λ n. get_or (es ++ replicate n nought) s x) (less k (length es)) ∙ padded k es s x (omega arith)
  where
    less : (k n : ℕ) → suc k - suc n ≡ k - n
    less k n = omega arith

-- a base exponent more, stored behind the others
pub push_exps : (es : List Exponent) (e : Exponent) (s : ℕ) → length es ≡ s → s < 16 → set (pack_exps es) s e ≡ pack_exps (es ++ (e ∷ []))
unfolding pack_exps
push_exps es e s n h = stored es nought e s n h

-- ---- the base rows of a table
pub get_map : {A B : Type 0} (f : A → B) (l : List A) (i : ℕ) (a : A) (b : B) → i < length l → get_or (map f l) i b ≡ f (get_or l i a)
get_map f [] i a b h = absurd (omega arith)
get_map f (x ∷ l) zero a b h = refl
get_map f (x ∷ l) (suc i) a b h = get_map f l i a b (omega arith)

-- a place inside a list reads the same whatever stands for those outside
pub get_any : {A : Type 0} (l : List A) (i : ℕ) (a b : A) → i < length l → get_or l i a ≡ get_or l i b
get_any [] i a b h = absurd (omega arith)
get_any (x ∷ l) zero a b h = refl
get_any (x ∷ l) (suc i) a b h = get_any l i a b (omega arith)

get_places : (p n i d : ℕ) → i < n → get_or (places p n) i d ≡ p + i
unfolding places
get_places p zero i d h = absurd (omega arith)
get_places p (suc n) zero d h = omega arith
get_places p (suc n) (suc i) d h = get_places (suc p) n i d (omega arith) ∙ omega arith

long_places : (p n : ℕ) → length (places p n) ≡ n
unfolding places
long_places p zero = refl
long_places p (suc n) = ap suc (long_places (suc p) n)

pub long_bases : (n : ℕ) (ks : List Facts) → length (bases n ks) ≡ n
long_bases n ks = length-map (places 0 n) (exp_at ks) ∙ long_places 0 n

pub get_bases : (n : ℕ) (ks : List Facts) (s : ℕ) (d : ℕ → Exponent) → s < n → get_or (bases n ks) s d ≡ exp_at ks s
get_bases n ks s d h = get_map (exp_at ks) (places 0 n) s 0 d (rw (long_places 0 n) h) ∙ ap (exp_at ks) (get_places 0 n s 0 h ∙ omega arith)

-- what a read past the end of an array gives: never met
abbrev pub nil_factor : Factor
nil_factor = record { row = 0; prefix = Metric (pos 0); exponent = record { num = pos 0; den = 0 } }

abbrev pub nil_row : Row
nil_row = record { def = []; len = 0; rank = 0; kind = Base }

-- ---- the factors of a checked definition: their exponents keep their rule, and the rows that they name are among the first n
pub sound_at : (l : List Factor) (i : ℕ) (d : Factor) → i < length l → some factor_fault l ≡ false → faulty (get_or l i d).exponent ≡ false
sound_at l i d h e = exponent_sound (get_or l i d) (none_at factor_fault l i d h e)

pub named_at : (n : ℕ) (l : List Factor) (i : ℕ) (d : Factor) → i < length l → some (λ f. not (ltb f.row n)) l ≡ false → (get_or l i d).row < n
named_at n l i d h e = ltb-true _ n (not-false _ (none_at (λ f. not (ltb f.row n)) l i d h e))

-- what the code reads of row r at the base row s
pub exponent_is : (ks : List Facts) (nums : List ℤ) (dens : List ℕ) (r s : ℕ) (d : Exponent) → Filed ks nums dens → r < length ks → s < 16
    → d.num ≡ get_or nums (r * 16 + s) (pos 0) → d.den ≡ get_or dens (r * 16 + s) 1 → d ≡ exp_at ks s r
exponent_is ks nums dens r s d p h k t b = ap₂ (λ (n : ℤ) (m : ℕ). record { num = n; den = m }) (t ∙ p.top r s h k) (b ∙ p.bottom r s h k)

-- ---- the inner loop: one base row
abbrev pub term_at : List Facts → ℕ → Factor → Outcome Exponent
term_at ks s f = mul? f.exponent (exp_at ks s f.row)

module _ (l : List Factor) (ks : List Facts) (s j : ℕ) (acc : Exponent) (so_far : sum? (term_at ks s) acc (drop j l) ≡ base_at l (exp_at ks s)) where
  pub inner_end : length l ≤ j → base_at l (exp_at ks s) ≡ Ok acc
  inner_end h = sym so_far ∙ sum_end (term_at ks s) l acc j h

  module _ (f : Factor) (d : Exponent) (h : j < length l) (is : d ≡ exp_at ks s (get_or l j f).row) where
    step : bind (mul? (get_or l j f).exponent d) (λ t. add? acc t) ≡ bind (term_at ks s (get_or l j f)) (λ t. add? acc t)
    step = ap (λ (y : Exponent). bind (mul? (get_or l j f).exponent y) (λ t. add? acc t)) is

    pub inner_on : (u : Exponent) → bind (mul? (get_or l j f).exponent d) (λ t. add? acc t) ≡ Ok u → sum? (term_at ks s) u (drop (j + 1) l) ≡ base_at l (exp_at ks s)
    inner_on u e = sym (sum_on (term_at ks s) l acc j f h u (sym step ∙ e)) ∙ so_far

    pub inner_off : (r : Refusal) → bind (mul? (get_or l j f).exponent d) (λ t. add? acc t) ≡ Err r → base_at l (exp_at ks s) ≡ Err r
    inner_off r e = sym so_far ∙ sum_off (term_at ks s) l acc j f h r (sym step ∙ e)

-- ---- the outer loop: the base rows before s are worked out, and stand in `out`
pub record Exping (l : List Factor) (bs : List (ℕ → Exponent)) (out : List Exponent) (s : ℕ) : Type 0 where
  pub done : List Exponent
  pub packed : out ≡ pack_exps done
  pub so_far : each.Upto (base_at l) bs s done

pub exping_none : (l : List Factor) (bs : List (ℕ → Exponent)) → Exping l bs (replicate 16 nought) 0
unfolding pack_exps
exping_none l bs = record { done = []; packed = refl; so_far = each.upto_none (base_at l) bs }

module _ (l : List Factor) (n : ℕ) (ks : List Facts) (out : List Exponent) (s : ℕ) (p : Exping l (bases n ks) out s) where
  pub exping_end : n ≤ s → Ok out ≡ exps_of (base (bases n ks) l)
  unfolding base
  exping_end h = ap Ok p.packed ∙ sym (ap exps_of (each.upto_end (base_at l) (bases n ks) s p.done p.so_far (omega (arith, long_bases n ks))))

  module _ (h : s < n) (k : s < 16) where
    here : base_at l (get_or (bases n ks) s (exp_at ks 0)) ≡ base_at l (exp_at ks s)
    here = ap (base_at l) (get_bases n ks s (exp_at ks 0) h)

    pub exping_on : (e : Exponent) → base_at l (exp_at ks s) ≡ Ok e → Exping l (bases n ks) (set out s e) (s + 1)
    exping_on e q = record {
      done = p.done ++ (e ∷ []);
      packed = ap (λ (o : List Exponent). set o s e) p.packed ∙ push_exps p.done e s p.so_far.sized k;
      so_far = each.upto_on (base_at l) (bases n ks) s p.done p.so_far (exp_at ks 0) (rw (long_bases n ks) h) e (here ∙ q);
    }

    pub exping_off : (r : Refusal) → base_at l (exp_at ks s) ≡ Err r → Err r ≡ exps_of (base (bases n ks) l)
    unfolding base
    exping_off r e = sym (ap exps_of (each.upto_off (base_at l) (bases n ks) s p.done p.so_far (exp_at ks 0) (rw (long_bases n ks) h) r (here ∙ e)))
