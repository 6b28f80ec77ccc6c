-- What the arrays of an admitted table tell of any row, whether the table has it or not; and that new arrays tell nothing.
use mathlib.Core.Path.{◌≡◌, refl, sym, ap, ap₂, ◌∙◌}
use mathlib.Core.Bool.{Bool, true, false}
use mathlib.Core.List.{List}
use Prim.Native.Nat.{ℕ, zero, suc, ◌+◌, ◌*◌, ◌≤◌, ◌<◌}
use native.Mathlib.Omega.{arith}
use lib.Dec.{ltb}
use lib.IntN.{ℤ, pos}
use lib.Ieee.{Float}
use lib.ListN.{length, get_or, replicate, get_or-eq_default}
use borrow.Author.Tests.{ltb-true, ltb-false}
use Rattle.exponents.specs.Fractions.{nought}
use Rattle.exponents.specs.declared.Exponent.{Exponent}
use Rattle.units.specs.declared.Factor.{Factor}
use Rattle.tables.specs.Rows.{Facts, nobody, exp_at}
use Rattle.tables.specs.Held.{pack_exps, told, Blank, Paged, view_of, Lent}
use Rattle.tables.proofs.Terms.{padded}

abbrev exponent : ℤ → ℕ → Exponent
exponent n d = record { num = n; den = d }

module _ (ks : List Facts) (l : List Factor) (nums : List ℤ) (dens : List ℕ) (scales : List Float) (ranks : List ℕ) (based : List Bool) (p : Paged ks nums dens scales ranks based) where
  pub lent_view : Lent (view_of ks l) nums dens
  unfolding pack_exps told exp_at
  lent_view r s h = padded 16 (get_or ks r nobody).exps s nought h ∙ go (ltb r (length ks)) refl
    where
      go : (t : Bool) → ltb r (length ks) ≡ t → get_or (get_or ks r nobody).exps s nought ≡ told nums dens r s
      go true e =
          let q : r < length ks = ltb-true r (length ks) e in
          ap₂ exponent (sym (p.filed.top r s q h)) (sym (p.filed.bottom r s q h))
      go false e =
          let q : length ks ≤ r = ltb-false r (length ks) e in
          ap (λ (k : Facts). get_or k.exps s nought) (get_or-eq_default ks nobody {n = r} q)
          ∙ ap₂ exponent (sym (p.rest.top (r * 16 + s) (omega arith))) (sym (p.rest.bottom (r * 16 + s) (omega arith)))

same-all : {A : Type 0} (n i : ℕ) (a : A) → get_or (replicate n a) i a ≡ a
same-all zero i a = refl
same-all (suc n) zero a = refl
same-all (suc n) (suc i) a = same-all n i a

pub blank_new : (n m : ℕ) → Blank 0 (replicate n (pos 0)) (replicate m 1)
blank_new n m = record { top = λ i h. same-all n i (pos 0); bottom = λ i h. same-all m i 1 }

-- zeros and ones: of no row
pub blank_filled : (nums : List ℤ) (m : ℕ) (dens : List ℕ) → ((i : ℕ) → get_or nums i (pos 0) ≡ pos 0) → dens ≡ replicate m 1 → Blank 0 nums dens
blank_filled nums m dens z e = rw e (record { top = λ i h. z i; bottom = λ i h. same-all m i 1 })
