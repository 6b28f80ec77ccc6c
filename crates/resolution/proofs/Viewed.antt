-- A table seen by way of lists is the table: places and classes tell the order and the keys of the rows that the lists name, and the rules that the view has are the table's.
use mathlib.Core.Path.{◌≡◌, refl, ap, ap₂, ◌∙◌}
use mathlib.Core.Bool.{Bool, true, false}
use mathlib.Core.Logic.{inl, inr}
use mathlib.Core.List.{List, [], ◌∷◌, ◌++◌, map}
use Prim.Native.Nat.{ℕ, zero, suc, ◌+◌, ◌-◌, ◌<◌, ◌≤◌, Ordering}
use native.Mathlib.Omega.{arith}
use lib.Dec.{ltb, eqb}
use lib.ListN.{length, get_or, replicate, get_or-eq_default}
use borrow.Author.Tests.{ltb-true, ltb-false, eq-eqb, ne_eqb}
use Rattle.exponents.specs.Words.{All}
use Rattle.exponents.specs.Outcome.{Ok}
use Rattle.exponents.specs.declared.Exponent.{Exponent}
use Rattle.exponents.specs.Fractions.{nought}
use Rattle.units.specs.declared.Factor.{Factor}
use Rattle.units.specs.declared.Rows.{Rows}
use Rattle.keys.specs.Key.{other, first}
use Rattle.tables.specs.Scale.{doubles, size_by}
use Rattle.keys.specs.Orders.{is_eq, then, pairs}
use Rattle.tables.specs.Order.{code, key_order, order_in}
use Rattle.tables.specs.Rows.{Facts, nobody, exp_at, scale_at, places, bases, slots, rows_of, table, base_rows}
use Rattle.tables.specs.Rules.{rules_in}
use Rattle.tables.specs.Held.{pack_exps, view_at, view_bases, rules_by, view_of, before, Stands, Placed}
use Rattle.tables.proofs.Alike.{table_sound}
use Rattle.exponents.proofs.Each.{all_imp}
use Rattle.tables.proofs.Filled.{admit-rows, table-length}
use Rattle.tables.proofs.Slotting.{slots_few}
use Rattle.tables.proofs.Storing.{long_exps}
use Rattle.tables.proofs.Terms.{padded, nil_row}
use Rattle.resolution.proofs.Keyed.{admits}
use Rattle.resolution.proofs.Ordered.{stands_first, stands_second, place_tells, one_key, one_class}

-- ---- the rows that the lists name

own : (l : List Factor) → All (λ f. Stands f.row l) l
own [] = tt
own (f ∷ l) = (inl refl, all_imp l (λ g s. inr s) (own l))

pub first-named : (fs gs : List Factor) → All (λ f. Stands f.row (fs ++ gs)) fs
first-named fs gs = all_imp fs (λ f s. stands_first f.row fs gs s) (own fs)

pub second-named : (fs gs : List Factor) → All (λ f. Stands f.row (fs ++ gs)) gs
second-named fs gs = all_imp gs (λ f s. stands_second f.row fs gs s) (own gs)

-- rows of one key, and only those, have one class
class_told : (ks : List Facts) (l : List Factor) (r s : ℕ) → Stands r l → Stands s l → eqb (before (key_order ks) l r) (before (key_order ks) l s) ≡ is_eq (key_order ks r s)
unfolding is_eq
class_told ks l r s p q = go (key_order ks r s) refl
  where
    go : (o : Ordering) → key_order ks r s ≡ o → eqb (before (key_order ks) l r) (before (key_order ks) l s) ≡ is_eq o
    go Ordering.lt e = ne_eqb _ _ λ h. let y = one_key ks l r s p q h in let z : ◌≡◌ {A = ℕ} 0 1 = cc in omega arith
    go Ordering.eq e = eq-eqb _ _ (one_class ks l r s e)
    go Ordering.gt e = ne_eqb _ _ λ h. let y = one_key ks l r s p q h in let z : ◌≡◌ {A = ℕ} 0 1 = cc in omega arith

pub view_placed : (ks : List Facts) (l : List Factor) → Placed (view_of ks l)
view_placed ks l = record {
  order = λ u w p q. ap (λ o. then o (pairs (code u.prefix) (code w.prefix))) (place_tells ks l u.row w.row p q);
  class = class_told ks l;
}

-- ---- base exponents: what is padded to sixteen places reads as zero past the end

module _ (ks : List Facts) (l : List Factor) where
  view_at_lem : (j r : ℕ) → j < 16 → view_at (view_of ks l) j r ≡ exp_at ks j r
  unfolding exp_at pack_exps
  view_at_lem j r h = padded 16 (get_or ks r nobody).exps j nought h

  view_places : (p n : ℕ) → p + n ≤ 16 → map (view_at (view_of ks l)) (places p n) ≡ map (exp_at ks) (places p n)
  unfolding places
  view_places p zero h = refl
  view_places p (suc n) h = ap₂ (λ (b : ℕ → Exponent) (m : List (ℕ → Exponent)). b ∷ m) (λ i r. view_at_lem p r (omega arith) i) (view_places (suc p) n (omega arith))

  view_bases_lem : (n : ℕ) → n ≤ 16 → view_bases (view_of ks l) n ≡ bases n ks
  view_bases_lem n h = view_places 0 n (omega arith)

-- nor do the zeros make a difference to the first
padded_first : (k : ℕ) (es : List Exponent) → first (es ++ replicate k nought) ≡ first es
unfolding first other
padded_first zero [] = refl
padded_first (suc k) [] = padded_first k []
padded_first k (e ∷ es) = ap (other e.num e) (padded_first k es)

first-packed : (es : List Exponent) → first (pack_exps es) ≡ first es
unfolding pack_exps
first-packed es = padded_first (16 - length es) es

-- ---- THE RULES of a table by way of lists are its own

pub rules_told : (t : Rows) (ks : List Facts) (l : List Factor) (n : ℕ) → n ≡ length (base_rows t) → rules_by (view_of ks l) n ≡ rules_in t ks
rules_told t ks l n e =
    let told = view_bases_lem ks l n (omega (arith, slots_few (rows_of t))) ∙ ap (λ n. bases n ks) e in
    λ i. record {
      order = order_in ks;
      bases = told i;
      numbers = doubles;
      size = size_by (scale_at ks);
      alike = λ r s. is_eq (key_order ks r s);
      is_base = λ r. (get_or ks r nobody).base;
      lead = λ r. first-packed (get_or ks r nobody).exps i;
    }

-- ---- an admitted table's rows have at most sixteen base exponents

module _ (t : Rows) (ks : List Facts) (k : table t ≡ Ok ks) where
  few_exps : (r : ℕ) → length (get_or ks r nobody).exps ≤ 16
  few_exps r = go (ltb r (length ks)) refl
    where
      go : (b : Bool) → ltb r (length ks) ≡ b → length (get_or ks r nobody).exps ≤ 16
      go true e =
          let h : r < length ks = ltb-true r (length ks) e in
          let rows = admit-rows t ks (admits t ks k) in
          let there : r < length (rows_of t) = omega (arith, table-length (slots (rows_of t)) (rows_of t) ks rows) in
          let long = (table_sound (slots (rows_of t)) (rows_of t) ks rows nil_row r there).sized in
          omega (arith, slots_few (rows_of t))
      go false e =
          let h : length ks ≤ r = ltb-false r (length ks) e in
          let none = ap (λ (k : Facts). length k.exps) (get_or-eq_default ks nobody {n = r} h) in
          omega arith

  pub view_short : (l : List Factor) (r : ℕ) → length ((view_of ks l).exps r) ≤ 16
  view_short l r = let long = long_exps (get_or ks r nobody).exps (few_exps r) in omega arith
