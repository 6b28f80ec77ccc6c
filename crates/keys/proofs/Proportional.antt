-- Rows with one key have proportional base exponents: each is to the other as their first exponents other than zero.
use mathlib.Core.Path.{◌≡◌, refl, sym, ◌∙◌, ap, ap₂}
use mathlib.Core.List.{List, [], ◌∷◌}
use Prim.Native.Nat.{ℕ, zero, suc, ◌*◌, ◌<◌}
use native.Mathlib.Nat.{mul_comm, mul-pos, zero-lt-suc}
use native.Mathlib.Omega.{arith}
use lib.IntN.{ℤ, pos, negsuc, nat_abs, ◌*ℤ◌, *ℤ_comm, zero-*ℤ}
use lib.ListN.{get_or}
use Rattle.exponents.specs.Outcome.{Ok}
use Rattle.exponents.specs.Fractions.{nought, lowest, mul}
use Rattle.exponents.specs.declared.Exponent.{Exponent}
use Rattle.exponents.proofs.Exact as fl
use Rattle.exponents.proofs.Exact.{Low}
use Rattle.exponents.proofs.Holds.{take_out}
use Rattle.exponents.proofs.Ring.{*ℤ-swap}
use Rattle.keys.specs.Key.{key, other, first}
use Rattle.exponents.proofs.Each.{done, next}
use Rattle.exponents.specs.Words.{All}
use Rattle.keys.proofs.Ray.{Ray, OnRay, key_ray}

module _ (c : ℤ) (m : ℕ) (p : zero < m) where
  ray_at : {k : List ℤ} {d : List Exponent} → Ray c m k d → (b : ℕ) → get_or d b nought ≡ lowest (get_or k b (pos 0) *ℤ c) m
  ray_at done b = sym (ap (λ t. lowest t m) (zero-*ℤ c) ∙ fl.lowest-nought m p)
  ray_at (next e r) zero = e
  ray_at (next e r) (suc b) = ray_at r b

-- ---- a key's first number other than zero
abbrev lead_of : ℤ → ℤ → ℤ
lead_of (pos zero) r = r
lead_of (pos (suc n)) r = pos (suc n)
lead_of (negsuc n) r = negsuc n

abbrev lead : List ℤ → ℤ
lead [] = pos 0
lead (z ∷ k) = lead_of z (lead k)

-- no first: all are zero
lead_none : (k : List ℤ) → lead k ≡ pos 0 → (b : ℕ) → get_or k b (pos 0) ≡ pos 0
lead_none [] h b = refl
lead_none (pos zero ∷ k) h zero = refl
lead_none (pos zero ∷ k) h (suc b) = lead_none k h b
lead_none (pos (suc n) ∷ k) h b = absurd (let z : suc n ≡ 0 = cc in omega arith)
lead_none (negsuc n ∷ k) h b = absurd (let z : ◌≡◌ {A = ℕ} 0 1 = cc in omega arith)

-- ---- products that aren't zero
abs_times : (a b : ℤ) → nat_abs (a *ℤ b) ≡ nat_abs a * nat_abs b
abs_times (pos a) (pos b) = refl
abs_times (pos a) (negsuc b) = fl.nat_abs-neg (a * suc b)
abs_times (negsuc a) (pos b) = fl.nat_abs-neg (suc a * b)
abs_times (negsuc a) (negsuc b) = refl

abs_pos : (z : ℤ) → (z ≡ pos 0 → ⊥) → zero < nat_abs z
abs_pos (pos zero) h = absurd (h refl)
abs_pos (pos (suc n)) h = zero-lt-suc n
abs_pos (negsuc n) h = zero-lt-suc n

some_times : (z c : ℤ) → (z ≡ pos 0 → ⊥) → (c ≡ pos 0 → ⊥) → z *ℤ c ≡ pos 0 → ⊥
some_times z c hz hc e = let p : zero < nat_abs z * nat_abs c = mul-pos (abs_pos z hz) (abs_pos c hc) in omega (arith, sym (abs_times z c) ∙ ap nat_abs e)

-- a nonzero fraction has a nonzero numerator
some_num : (z : ℤ) (m : ℕ) → (z ≡ pos 0 → ⊥) → (lowest z m).num ≡ pos 0 → ⊥
some_num z m h e = h (sym (fl.num_back z m) ∙ ap (λ t. t *ℤ pos (fl.div-of z m)) e ∙ zero-*ℤ (pos (fl.div-of z m)))

-- ---- a row's first exponent other than zero: the key's first number times c / m
other-some : (x r : Exponent) → (x.num ≡ pos 0 → ⊥) → other x.num x r ≡ x
unfolding other
other-some x r h = go x.num h
  where
    go : (z : ℤ) → (z ≡ pos 0 → ⊥) → other z x r ≡ x
    go (pos zero) h = absurd (h refl)
    go (pos (suc n)) h = refl
    go (negsuc n) h = refl

module _ (c : ℤ) (m : ℕ) (some_c : c ≡ pos 0 → ⊥) (p : zero < m) where
  other_is : (x r : Exponent) (z : ℤ) → (z ≡ pos 0 → ⊥) → x ≡ lowest (z *ℤ c) m → other x.num x r ≡ lowest (z *ℤ c) m
  other_is x r z h e = other-some x r (λ n. some_num (z *ℤ c) m (some_times z c h some_c) (ap (λ t. t.num) (sym e) ∙ n)) ∙ e

  step : (k : List ℤ) (d : List Exponent) (z : ℤ) (x : Exponent) → x ≡ lowest (z *ℤ c) m → ((lead k ≡ pos 0 → ⊥) → first d ≡ lowest (lead k *ℤ c) m) →
      (lead_of z (lead k) ≡ pos 0 → ⊥) → other x.num x (first d) ≡ lowest (lead_of z (lead k) *ℤ c) m
  unfolding other
  step k d (pos zero) x e ih h = ap (λ t. other t.num t (first d)) (e ∙ ap (λ t. lowest t m) (zero-*ℤ c) ∙ fl.lowest-nought m p) ∙ ih h
  step k d (pos (suc n)) x e ih h = other_is x (first d) (pos (suc n)) h e
  step k d (negsuc n) x e ih h = other_is x (first d) (negsuc n) h e

  first_is : {k : List ℤ} {d : List Exponent} → Ray c m k d → (lead k ≡ pos 0 → ⊥) → first d ≡ lowest (lead k *ℤ c) m
  unfolding first
  first_is done h = absurd (h refl)
  first_is (next {a = z} {b = x} {l = k} {m = d} e r) h = step k d z x e (first_is r) h

-- it is in lowest terms, and not zero
pub record Some (x : Exponent) : Type 0 where
  pub low : Low x
  pub some : x.num ≡ pos 0 → ⊥

other_Some : (z : ℤ) (x r : Exponent) → x.num ≡ z → Low x → Some r → Some (other z x r)
unfolding other
other_Some (pos zero) x r e l h = h
other_Some (pos (suc n)) x r e l h = record { low = l; some = λ q. let z : suc n ≡ 0 = cc in omega arith }
other_Some (negsuc n) x r e l h = record { low = l; some = λ q. let z : ◌≡◌ {A = ℕ} 0 1 = cc in omega arith }

pub first_Some : (d : List Exponent) → All Low d → Some (first d)
unfolding first
first_Some [] h = record { low = fl.unit_low; some = λ q. let z : ◌≡◌ {A = ℕ} 1 0 = cc in omega arith }
first_Some (x ∷ d) h = other_Some x.num x (first d) refl h.0 (first_Some d h.1)

-- ---- rows with one key
module _ (d e : List Exponent) (k : List ℤ) (hd : All Low d) (he : All Low e) (kd : key d ≡ Ok k) (ke : key e ≡ Ok k) where
  r : OnRay k d
  r = take_out (key_ray d hd) kd

  s : OnRay k e
  s = take_out (key_ray e he) ke

  at_zero : {l : List Exponent} → OnRay k l → (b : ℕ) → lead k ≡ pos 0 → get_or l b nought ≡ nought
  at_zero o b h =
      ray_at o.c o.m o.some_m o.is b ∙ ap (λ t. lowest (t *ℤ o.c) o.m) (lead_none k h b) ∙ ap (λ t. lowest t o.m) (zero-*ℤ o.c) ∙ fl.lowest-nought o.m o.some_m

  both_zero : (b : ℕ) → lead k ≡ pos 0 → mul (get_or d b nought) (first e) ≡ mul (get_or e b nought) (first d)
  both_zero b h =
      ap (λ t. mul t (first e)) (at_zero r b h) ∙ fl.nought_times (first e) (first_Some e he).low
      ∙ sym (ap (λ t. mul t (first d)) (at_zero s b h) ∙ fl.nought_times (first d) (first_Some d hd).low)

  some_first : (b : ℕ) → (lead k ≡ pos 0 → ⊥) → mul (get_or d b nought) (first e) ≡ mul (get_or e b nought) (first d)
  some_first b h =
      let z = get_or k b (pos 0) in
      let K = lead k in
      ap₂ mul (ray_at r.c r.m r.some_m r.is b) (first_is s.c s.m s.some_c s.some_m s.is h)
      ∙ fl.mul-lowest (z *ℤ r.c) (K *ℤ s.c) r.m s.m r.some_m s.some_m
      ∙ ap₂ lowest (*ℤ-swap z r.c K s.c ∙ ap (λ t. (z *ℤ K) *ℤ t) (*ℤ_comm r.c s.c) ∙ sym (*ℤ-swap z s.c K r.c)) (mul_comm r.m s.m)
      ∙ sym (ap₂ mul (ray_at s.c s.m s.some_m s.is b) (first_is r.c r.m r.some_c r.some_m r.is h)
      ∙ fl.mul-lowest (z *ℤ s.c) (K *ℤ r.c) s.m r.m s.some_m r.some_m)

  pub proportional : (b : ℕ) → mul (get_or d b nought) (first e) ≡ mul (get_or e b nought) (first d)
  proportional b = split (lead k) refl
    where
      split : (z : ℤ) → lead k ≡ z → mul (get_or d b nought) (first e) ≡ mul (get_or e b nought) (first d)
      split (pos zero) h = both_zero b h
      split (pos (suc n)) h = some_first b (λ q. let z : suc n ≡ 0 = cc in omega arith)
      split (negsuc n) h = some_first b (λ q. let z : ◌≡◌ {A = ℕ} 0 1 = cc in omega arith)
