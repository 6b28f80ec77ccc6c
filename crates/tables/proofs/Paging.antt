-- Exponents held in two arrays, numerators and denominators apart.
use mathlib.Core.Path.{◌≡◌, refl, sym, ◌∙◌, ap, ap₂}
use mathlib.Core.Bool.{Bool}
use mathlib.Core.List.{List, [], ◌∷◌, ◌++◌, map}
use Prim.Native.Nat.{ℕ, zero, suc, ◌+◌, ◌-◌, ◌*◌, ◌<◌, ◌≤◌}
use native.Mathlib.Numerals.{add-one}
use native.Mathlib.Omega.{arith}
use lib.IntN.{ℤ, pos}
use lib.Ieee.{Float}
use lib.ListN.{length, take, drop, get_or, set, replicate, length-append, length-replicate, length-map, get_or-map}
use lib.Seq.{ext_get_or, take-suc, take-suc-set, take_all}
use Rattle.exponents.proofs.Places.{part_at}
use Rattle.exponents.specs.Fractions.{nought}
use Rattle.exponents.specs.declared.Exponent.{Exponent}
use Rattle.tables.specs.Rows.{Facts, nobody, exp_at}
use Rattle.tables.specs.Held.{pack_exps, tops, bottoms, Paged}
use Rattle.tables.proofs.Terms.{padded}

-- ---- what f gives of the elements of an array, as of numerators or of denominators

module _ {A B : Type 0} (f : A → B) where
  map-set : (e : List A) (i : ℕ) (x : A) → map f (set e i x) ≡ set (map f e) i (f x)
  map-set [] i x = refl
  map-set (y ∷ e) zero x = refl
  map-set (y ∷ e) (suc i) x = ap (λ (l : List B). f y ∷ l) (map-set e i x)

  -- read one after the other into e
  pub read_on : (e : List A) (l : List B) (s : ℕ) (x : A) (d : B) → s < length e → s < length l → f x ≡ get_or l s d → take s (map f e) ≡ take s l → take (s + 1) (map f (set e s x)) ≡ take (s + 1) l
  read_on e l s x d h k v p =
      let m : s < length (map f e) = rw (length-map e f) h in
      rw (add-one s, map-set e s x, take-suc-set (map f e) s (f x) m, take-suc l s d k) (ap₂ (λ (t : List B) (y : B). t ++ (y ∷ [])) p v)

  pub read_end : (e : List A) (l : List B) (s : ℕ) → length e ≤ s → length l ≤ s → take s (map f e) ≡ take s l → map f e ≡ l
  read_end e l s h k p = sym (take_all s (map f e) (rw (length-map e f) h)) ∙ p ∙ take_all s l k

-- ---- a row's base exponents, and all that is known of it

module _ (es e : List Exponent) where
  -- sixteen exponents are those of a packed list if numerators and denominators are
  pub packed_is : length es ≤ 16 → length e ≡ 16 → ((i : ℕ) → i < 16 → get_or (tops e) i (pos 0) ≡ (get_or es i nought).num) → ((i : ℕ) → i < 16 → get_or (bottoms e) i 1 ≡ (get_or es i nought).den) → e ≡ pack_exps es
  unfolding pack_exps
  packed_is m n t b =
      let long : length (es ++ replicate (16 - length es) nought) ≡ 16 = length-append es (replicate (16 - length es) nought) ∙ ap (λ (k : ℕ). length es + k) (length-replicate (16 - length es) nought) ∙ omega arith in
      ext_get_or nought e (es ++ replicate (16 - length es) nought) (n ∙ sym long) λ i h. both i (omega (arith, n)) ∙ sym (padded 16 es i nought (omega (arith, n, h)))
    where
      both : (i : ℕ) → i < 16 → get_or e i nought ≡ get_or es i nought
      both i h j = record {
        num = (sym (get_or-map (λ (x : Exponent). x.num) e i nought) ∙ t i h) j;
        den = (sym (get_or-map (λ (x : Exponent). x.den) e i nought) ∙ b i h) j;
      }

module _ (ks : List Facts) (nums : List ℤ) (dens : List ℕ) (scales : List Float) (ranks : List ℕ) (based : List Bool) (r : ℕ) (e : List Exponent) (p : Paged ks nums dens scales ranks based) (h : r < length ks)
    (t : tops e ≡ take 16 (drop (r * 16) nums)) (b : bottoms e ≡ take 16 (drop (r * 16) dens)) where
  pub known_exps : length e ≡ 16 → e ≡ pack_exps (get_or ks r nobody).exps
  unfolding exp_at
  known_exps n =
      packed_is (get_or ks r nobody).exps e (p.short r h) n
      (λ i k. ap (λ (l : List ℤ). get_or l i (pos 0)) t ∙ part_at nums (r * 16) i (pos 0) k ∙ p.filed.top r i h k)
      (λ i k. ap (λ (l : List ℕ). get_or l i 1) b ∙ part_at dens (r * 16) i 1 k ∙ p.filed.bottom r i h k)
