-- The base factors of a list are themselves a list that passes: few, of base rows of the table, with exponents that keep their rule.
use mathlib.Core.Path.{◌≡◌}
use mathlib.Core.List.{List, [], ◌∷◌}
use Prim.Native.Nat.{ℕ, ◌≤◌, ◌<◌}
use native.Mathlib.Omega.{arith}
use borrow.Author.Tests.{lt-ltb}
use lib.ListN.{length}
use Rattle.exponents.specs.Outcome.{Ok}
use Rattle.exponents.specs.Fractions.{nought, same}
use Rattle.exponents.specs.declared.Exponent.{Exponent}
use Rattle.exponents.proofs.Holds.{take_out}
use Rattle.exponents.proofs.InRange.{keeps_rule}
use Rattle.units.specs.declared.Factor.{Factor}
use Rattle.units.specs.declared.Rows.{Rows}
use Rattle.units.specs.Lists.{pack, factor_fault, checked}
use Rattle.tables.specs.declared.Slot.{Slot}
use Rattle.tables.specs.Lists.{base_at, base}
use Rattle.tables.specs.Rows.{Facts, slots, rows_of, admitted, admit, base_rows}
use Rattle.exponents.proofs.Each.{all_imp, each_holds, along_all}
use Rattle.tables.proofs.Filled.{admit-rows, table-length}
use Rattle.exponents.specs.Words.{All}
use Rattle.tables.proofs.Slotting.{slots_few}
use Rattle.tables.proofs.Sound.{Sound, base_at_sound}
use Rattle.tables.proofs.Terms.{nil_row}
use Rattle.canonical.specs.Canonical.{nonzero}
use Rattle.canonical.proofs.Keeping.{drop_keeps}
use Rattle.reduction.specs.Reduction.{base_factor, base_factors, reduced}
use Rattle.reduction.proofs.Reducing.{reduced-short}
use Rattle.simplification.proofs.Sounding.{Passes, passed_checked}
use Rattle.registry.proofs.BaseSlots.{slots-base}

-- ---- the base rows are rows of the table
base-rows_there : (t : Rows) (ks : List Facts) → admit t ≡ admitted ks → All (λ s. s.row < length ks) (base_rows t)
base-rows_there t ks e =
    let n = table-length (slots (rows_of t)) (rows_of t) ks (admit-rows t ks e) in
    all_imp (base_rows t) (λ s p. omega (arith, p.0)) (slots-base (rows_of t) nil_row)

-- ---- base exponents that are worked out keep their rule
base_sound : (bs : List (ℕ → Exponent)) (l : List Factor) (xs : List Exponent) → base bs l ≡ Ok xs → All Sound xs
unfolding base
base_sound bs l xs e = along_all (take_out (each_holds {R = λ b x. Sound x} (base_at l) (base_at_sound l) bs) e)

-- ---- what holds of each base factor holds of the reduced list
module _ (S : Slot → Type 0) (E : Exponent → Type 0) (P : Factor → Type 0) (made : (s : Slot) (e : Exponent) → S s → E e → P (base_factor s e)) where
  reduced-all : (ss : List Slot) (es : List Exponent) → All S ss → All E es → All P (reduced ss es)
  unfolding reduced base_factors nonzero
  reduced-all [] es h k = tt
  reduced-all (s ∷ ss) [] h k = tt
  reduced-all (s ∷ ss) (e ∷ es) h k = drop_keeps P (same e nought) (base_factor s e) (reduced ss es) (made s e h.0 k.0) (reduced-all ss es h.1 k.1)

-- a base factor passes
factor_passes : (rows : ℕ) (s : Slot) (e : Exponent) → s.row < rows → Sound e → Passes rows (base_factor s e)
unfolding factor_fault
factor_passes rows s e h k = (keeps_rule e k.range k.low, rw (lt-ltb s.row rows h))

module _ (t : Rows) (xs : List Exponent) where
  pub base_list_few : length (reduced (base_rows t) xs) ≤ 16
  base_list_few = omega (arith, reduced-short (base_rows t) xs, slots_few (rows_of t))

  pub base_list_checked : (ks : List Facts) (bs : List (ℕ → Exponent)) (l : List Factor) → admit t ≡ admitted ks → base bs l ≡ Ok xs → checked (length ks) (pack (reduced (base_rows t) xs)) ≡ Ok (reduced (base_rows t) xs)
  base_list_checked ks bs l a e =
      passed_checked (length ks) (reduced (base_rows t) xs)
      (base_list_few, reduced-all (λ s. s.row < length ks) Sound (Passes (length ks)) (factor_passes (length ks)) (base_rows t) xs (base-rows_there t ks a) (base_sound bs l xs e))
