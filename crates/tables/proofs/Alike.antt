-- In an admitted table, rows whose keys compare as equal have proportional base exponents (01, "Canonical form", "Simplification").
use mathlib.Core.Path.{◌≡◌, sym, ◌∙◌, ap}
use mathlib.Core.List.{List, []}
use Prim.Native.Nat.{ℕ, ◌<◌}
use lib.ListN.{length, get_or}
use Rattle.exponents.specs.Outcome.{Ok}
use Rattle.exponents.specs.Fractions.{mul}
use Rattle.exponents.proofs.Exact.{Low}
use Rattle.exponents.proofs.Holds.{take_out}
use Rattle.units.specs.declared.Row.{Row}
use Rattle.keys.specs.Key.{entries, first}
use Rattle.tables.specs.Rows.{Facts, nobody, exp_at, admitted, admit_from}
use Rattle.tables.specs.declared.Slot.{Slot}
use Rattle.exponents.proofs.Each.{all_imp, along_length}
use Rattle.exponents.specs.Words.{All}
use Rattle.tables.proofs.Filled.{row_known}
use Rattle.tables.proofs.Sound.{SoundRow, row_sound}
use Rattle.keys.proofs.Ray.{key_ray}
use Rattle.keys.proofs.Proportional.{proportional}
use Rattle.keys.proofs.Entries.{entries-one}

module _ (ss : List Slot) (rs : List Row) (ks : List Facts) (h : admit_from ss [] rs ≡ admitted ks) (d : Row) where
  -- a row's base exponents keep the rule, one for each base row
  pub table_sound : (i : ℕ) → i < length rs → SoundRow (length ss) (get_or ks i nobody).exps
  table_sound i p = take_out (row_sound _ ss _ (get_or rs i d)) (row_known ss rs ks h d i p).exps

  low : (i : ℕ) → i < length rs → All Low (get_or ks i nobody).exps
  low i p = all_imp (get_or ks i nobody).exps (λ x s. s.low) (table_sound i p).each

  -- a key has as many numbers
  key-length : (i : ℕ) → i < length rs → length (get_or ks i nobody).key ≡ length ss
  key-length i p = sym (along_length (take_out (key_ray (get_or ks i nobody).exps (low i p)) (row_known ss rs ks h d i p).key).is) ∙ (table_sound i p).sized

  pub alike : (i j : ℕ) → i < length rs → j < length rs → entries 0 (get_or ks i nobody).key ≡ entries 0 (get_or ks j nobody).key →
      (b : ℕ) → mul (exp_at ks b i) (first (get_or ks j nobody).exps) ≡ mul (exp_at ks b j) (first (get_or ks i nobody).exps)
  unfolding exp_at
  alike i j p q e b =
      let same : (get_or ks i nobody).key ≡ (get_or ks j nobody).key = entries-one 0 _ _ (key-length i p ∙ sym (key-length j q)) e in
      proportional (get_or ks i nobody).exps (get_or ks j nobody).exps (get_or ks i nobody).key (low i p) (low j q)
      (row_known ss rs ks h d i p).key ((row_known ss rs ks h d j q).key ∙ ap Ok (sym same)) b
