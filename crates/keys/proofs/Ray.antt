-- A row's base exponents are its key's numbers times one fraction that isn't zero: `key` divides by it.
use mathlib.Core.Path.{◌≡◌, refl, sym, ◌∙◌, ap, subst}
use mathlib.Core.Bool.{Bool, true, false}
use mathlib.Core.List.{List, [], ◌∷◌}
use Prim.Native.Nat.{ℕ, zero, suc, ◌*◌, ◌/◌, ◌<◌, ◌≤◌, ◌∣◌}
use native.Mathlib.Nat.{dvd_refl, dvd_trans, mul-div_cancel', zero-lt-suc, eq-zero_of_zero-dvd}
use native.Mathlib.Omega.{arith}
use lib.Dec.{ltb}
use lib.IntN.{ℤ, pos, negsuc, neg_ℤ, nat_abs, ◌*ℤ◌, neg_ℤ-neg_ℤ}
use lib.Signed.{quot_z}
use borrow.Author.Tests.{ltb-false}
use Rattle.exponents.specs.Gcd.{gcd, lcm}
use Rattle.exponents.specs.Outcome.{DENOMINATOR}
use Rattle.exponents.specs.Fractions.{lowest, most, denominator_beyond, lcm?}
use Rattle.exponents.specs.declared.Exponent.{Exponent}
use Rattle.exponents.proofs.Divisors.{gcd_dvd, lcm-left, lcm_right}
use Rattle.exponents.proofs.Exact as fl
use Rattle.exponents.proofs.Exact.{Low}
use Rattle.exponents.proofs.Holds.{Holds, held, holds_unless, holds_imp, holds_map, holds_bind}
use Rattle.exponents.proofs.InRange.{or_left, or_right}
use Rattle.exponents.proofs.Ring.{*ℤ-neg}
use Rattle.keys.specs.Key.{multiple, whole, wholes, divisor, below, turn, shrink, reduce, key}
use Rattle.exponents.proofs.Each.{Along, done, next}
use Rattle.exponents.specs.Words.{All}

-- ---- the least common multiple

-- a common multiple that answers is one, from 1 to `most`
pub record Common (a b n : ℕ) : Type 0 where
  pub is : n ≡ lcm a b
  pub some : zero < n
  pub small : n ≤ most

pub lcm_common : (a b : ℕ) → Holds (Common a b) (lcm? a b)
unfolding lcm?
lcm_common a b =
    holds_unless (denominator_beyond (lcm a b)) DENOMINATOR λ e.
    held (record { is = refl; some = ltb-false _ _ (or_left (ltb (lcm a b) 1) (ltb most (lcm a b)) e); small = ltb-false _ _ (or_right (ltb (lcm a b) 1) (ltb most (lcm a b)) e) })

pub record Multiple (m : ℕ) (l : List Exponent) (n : ℕ) : Type 0 where
  pub start : m ∣ n
  pub each : All (λ x. x.den ∣ n) l
  pub some : zero < n
  pub small : n ≤ most

pub multiple_is_lem : (m : ℕ) (l : List Exponent) → zero < m → m ≤ most → Holds (Multiple m l) (multiple m l)
unfolding multiple
multiple_is_lem m [] p q = held (record { start = dvd_refl m; each = tt; some = p; small = q })
multiple_is_lem m (x ∷ l) p q =
    holds_bind _ (lcm_common m x.den) λ n c.
    holds_imp (multiple_is_lem n l c.some c.small) λ o h.
    record {
      start = dvd_trans m (subst (λ t. m ∣ t) (sym c.is) (lcm-left m x.den)) h.start;
      each = (dvd_trans x.den (subst (λ t. x.den ∣ t) (sym c.is) (lcm_right m x.den)) h.start, h.each);
      some = h.some;
      small = h.small;
    }

-- ---- the greatest common divisor
pub record Divides (g : ℕ) (l : List ℤ) (d : ℕ) : Type 0 where
  pub start : d ∣ g
  pub each : All (λ w. d ∣ nat_abs w) l

pub divisor_is : (g : ℕ) (l : List ℤ) → Divides g l (divisor g l)
unfolding divisor
divisor_is g [] = record { start = dvd_refl g; each = tt }
divisor_is g (w ∷ l) =
    let h = divisor_is (gcd g (nat_abs w)) l in
    record { start = dvd_trans _ h.start (gcd_dvd g (nat_abs w)).0; each = (dvd_trans _ h.start (gcd_dvd g (nat_abs w)).1, h.each) }

-- ---- the sign
turn_twice : (s : Bool) (w : ℤ) → turn s (turn s w) ≡ w
unfolding turn
turn_twice true w = neg_ℤ-neg_ℤ w
turn_twice false w = refl

abs_neg : (w : ℤ) → nat_abs (neg_ℤ w) ≡ nat_abs w
abs_neg (pos n) = fl.nat_abs-neg n
abs_neg (negsuc n) = refl

pub abs_turn : (s : Bool) (w : ℤ) → nat_abs (turn s w) ≡ nat_abs w
unfolding turn
abs_turn true w = abs_neg w
abs_turn false w = refl

turn_times : (s : Bool) (z w : ℤ) → z *ℤ turn s w ≡ turn s (z *ℤ w)
unfolding turn
turn_times true z w = *ℤ-neg z w
turn_times false z w = refl

-- ---- the exponents d are the whole numbers k times c / m
abbrev pub Ray : ℤ → ℕ → List ℤ → List Exponent → Type 0
Ray c m k d = Along (λ z x. x ≡ lowest (z *ℤ c) m) k d

whole_back : (m : ℕ) (x : Exponent) → zero < m → Low x → x.den ∣ m → x ≡ lowest (whole m x) m
unfolding whole
whole_back m x p h e =
    let b : x.den * (m / x.den) ≡ m = mul-div_cancel' x.den e in
    sym h.low
    ∙ sym (fl.lowest_scale x.num x.den (m / x.den) (factor (m / x.den) (subst (λ t. zero < t) (sym b) p)))
    ∙ ap (λ t. lowest (x.num *ℤ pos (m / x.den)) t) b
  where
    factor : (k : ℕ) → zero < x.den * k → zero < k
    factor zero q = absurd (omega (arith, q))
    factor (suc k) q = zero-lt-suc k

-- the divided number, times the divisor with the sign
shrunk : (s : Bool) (g : ℕ) (w : ℤ) → g ∣ nat_abs w → quot_z (turn s w) (pos g) *ℤ turn s (pos g) ≡ w
shrunk s g w h =
    turn_times s (quot_z (turn s w) (pos g)) (pos g) ∙ ap (turn s) (fl.quot_back (turn s w) g (subst (λ t. g ∣ t) (sym (abs_turn s w)) h)) ∙ turn_twice s w

abs_zero : (w : ℤ) → nat_abs w ≡ 0 → w ≡ pos 0
abs_zero (pos n) e = ap pos e
abs_zero (negsuc n) e = absurd (omega arith)

module _ (m : ℕ) (p : zero < m) (s : Bool) (g : ℕ) (c : ℤ) (back : (w : ℤ) → g ∣ nat_abs w → quot_z (turn s w) (pos g) *ℤ c ≡ w) where
  ray : (l : List Exponent) → All Low l → All (λ x. x.den ∣ m) l → All (λ w. g ∣ nat_abs w) (wholes m l) → Ray c m (shrink s g (wholes m l)) l
  unfolding wholes shrink
  ray [] h e d = done
  ray (x ∷ l) h e d =
      next (whole_back m x p h.0 e.0 ∙ ap (λ t. lowest t m) (sym (back (whole m x) d.0))) (ray l h.1 e.1 d.1)

pub record OnRay (k : List ℤ) (d : List Exponent) : Type 0 where
  pub c : ℤ
  pub m : ℕ
  pub some_c : c ≡ pos 0 → ⊥
  pub some_m : zero < m
  pub is : Ray c m k d

nothing : (s : Bool) → quot_z (turn s (pos 0)) (pos 0) *ℤ pos 1 ≡ pos 0
unfolding turn
nothing true = refl
nothing false = refl

shrunk_none : (s : Bool) (w : ℤ) → 0 ∣ nat_abs w → quot_z (turn s w) (pos 0) *ℤ pos 1 ≡ w
shrunk_none s w h =
    let e : w ≡ pos 0 = abs_zero w (eq-zero_of_zero-dvd h) in
    ap (λ t. quot_z (turn s t) (pos 0) *ℤ pos 1) e ∙ nothing s ∙ sym e

turn-some : (s : Bool) (n : ℕ) → turn s (pos (suc n)) ≡ pos 0 → ⊥
unfolding turn
turn-some true n e = let z : ◌≡◌ {A = ℕ} 0 1 = cc in omega arith
turn-some false n e = let z : suc n ≡ 0 = cc in omega arith

module _ (m : ℕ) (p : zero < m) (s : Bool) (l : List Exponent) (h : All Low l) (e : All (λ x. x.den ∣ m) l) where
  on_ray : (g : ℕ) → All (λ w. g ∣ nat_abs w) (wholes m l) → OnRay (shrink s g (wholes m l)) l
  on_ray zero d = record { c = pos 1; m = m; some_c = λ q. let z : ◌≡◌ {A = ℕ} 1 0 = cc in omega arith; some_m = p; is = ray m p s zero (pos 1) (shrunk_none s) l h e d }
  on_ray (suc g) d = record { c = turn s (pos (suc g)); m = m; some_c = turn-some s g; some_m = p; is = ray m p s (suc g) (turn s (pos (suc g))) (shrunk s (suc g)) l h e d }

pub key_ray : (d : List Exponent) → All Low d → Holds (λ k. OnRay k d) (key d)
unfolding key reduce
key_ray d h =
    holds_map _ (multiple_is_lem 1 d (zero-lt-suc 0) (omega arith)) λ m q.
    on_ray m q.some (below (wholes m d)) d h q.each (divisor 0 (wholes m d)) (divisor_is 0 (wholes m d)).each
