-- A table whose definitions have whole exponents alone is never refused by DENOMINATOR, and what is known of its rows is whole (02, order 2).
use mathlib.Core.Path.{◌≡◌, refl, ◌∙◌, ap}
use mathlib.Core.List.{List, [], ◌∷◌, ◌++◌, map}
use Prim.Native.Nat.{ℕ, zero, suc}
use native.Mathlib.Omega.{arith}
use lib.Dec.{eqb, ltb}
use lib.Ieee.{Float}
use lib.ListN.{length, get_or}
use Rattle.exponents.specs.Words.{All}
use Rattle.exponents.specs.Outcome.{TABLE, SHAPE, Outcome, Ok}
use Rattle.exponents.specs.Fractions.{nought, unit, lcm?}
use Rattle.exponents.specs.declared.Exponent.{Exponent}
use Rattle.exponents.proofs.Holds.{bind_given}
use Rattle.exponents.proofs.Words.{pick_is}
use Rattle.units.specs.declared.Kind.{Kind}
use Rattle.units.specs.declared.Kind.TheVariants.{Base, Derived}
use Rattle.units.specs.declared.Row.{Row}
use Rattle.units.specs.declared.Rows.{Rows}
use Rattle.keys.specs.Key.{multiple, key}
use Rattle.keys.proofs.KeyLaws.{lcm-one}
use Rattle.tables.specs.declared.Slot.{Slot}
use Rattle.tables.specs.Rows.{Facts, nobody, exp_at, places, bases, def_of, self_exp, row_exps, row_scale, worked_out, row_facts, slots, Admission, stopped, admit_on, admit_from, rows_of, admit, known, table, base_rows}
use Rattle.tables.specs.Rules.{rules_in}
use Rattle.canonical.proofs.Keeping.{all_append}
use Rattle.halves.specs.Wholes.{WholeExponent, WholeRow, WholeRows}
use Rattle.halves.proofs.Wholes.{Spared, gives, stops, Any, spared_unless, spared_map, spared_bind, WholeBase, base-whole, scale_spared}

-- the base exponents of a row
abbrev pub WholeFacts : Facts → Type 0
WholeFacts k = All WholeExponent k.exps

-- ---- looked up in a list, at any place
all_found : {A : Type 0} (P : A → Type 0) (d : A) → P d → (l : List A) (i : ℕ) → All P l → P (get_or l i d)
all_found P d p [] i h = p
all_found P d p (x ∷ l) zero h = h.0
all_found P d p (x ∷ l) (suc i) h = all_found P d p l i h.1

all_mapped : {A B : Type 0} (P : B → Type 0) (f : A → B) → ((a : A) → P (f a)) → (l : List A) → All P (map f l)
all_mapped P f h [] = tt
all_mapped P f h (a ∷ l) = (h a, all_mapped P f h l)

pub bases-whole : (n : ℕ) (ks : List Facts) → All WholeFacts ks → All WholeBase (bases n ks)
unfolding exp_at
bases-whole n ks h = all_mapped WholeBase (exp_at ks) (λ j r. all_found WholeExponent nought refl (get_or ks r nobody).exps j (all_found WholeFacts nobody tt ks r h)) (places 0 n)

-- ---- a key: the common multiple of ones is 1
multiple-whole : (l : List Exponent) → All WholeExponent l → multiple 1 l ≡ Ok 1
unfolding multiple
multiple-whole [] h = refl
multiple-whole (x ∷ l) h = bind_given _ (ap (lcm? 1) h.0 ∙ lcm-one 1 (omega arith) (omega arith)) ∙ multiple-whole l h.1

key-whole : (l : List Exponent) → All WholeExponent l → Spared Any (key l)
unfolding key
key-whole l h = rw (multiple-whole l h) (gives tt)

-- ---- rows
module _ (t : Rows) (ss : List Slot) where
  exps_whole : (k : Kind) (js : List Facts) (r : Row) → All WholeFacts js → WholeRow r → Spared (All WholeExponent) (row_exps k ss js r)
  unfolding row_exps
  exps_whole Base js r h w = gives (all_mapped WholeExponent (self_exp (length js)) (λ s. pick_is WholeExponent (eqb s.row (length js)) {a = unit} {b = nought} refl refl) ss)
  exps_whole (Derived f) js r h w = base-whole (bases (length ss) js) (def_of r) (bases-whole (length ss) js h) w

  row_scale_lem : (k : Kind) (js : List Facts) (r : Row) → Spared {A = Float} Any (row_scale k js r)
  unfolding row_scale
  row_scale_lem Base js r = gives tt
  row_scale_lem (Derived f) js r = spared_map _ (scale_spared (rules_in t js) (def_of r)) λ s _. tt

  facts_whole : (js : List Facts) (r : Row) → All WholeFacts js → WholeRow r → Spared WholeFacts (row_facts ss js r)
  unfolding row_facts worked_out
  facts_whole js r h w =
      spared_unless _ TABLE refl (spared_unless _ SHAPE refl
      (spared_bind _ (exps_whole r.kind js r h w) λ e p.
      spared_bind _ (key-whole e p) λ k _.
      spared_bind _ (row_scale_lem r.kind js r) λ s _. gives p))

  on_whole : {o : Outcome Facts} (js : List Facts) (next : Facts → Admission) → Spared WholeFacts o → ((k : Facts) → WholeFacts k → Spared (All WholeFacts) (known (next k))) → Spared (All WholeFacts) (known (admit_on o js next))
  on_whole js next (gives {a = k} h) g = g k h
  on_whole js next (stops s) g = stops s

  from_whole : (js : List Facts) (rs : List Row) → All WholeFacts js → All WholeRow rs → Spared (All WholeFacts) (known (admit_from ss js rs))
  unfolding admit_from
  from_whole js [] h w = gives h
  from_whole js (r ∷ rs) h w = on_whole js _ (facts_whole js r h w.0) λ k p. from_whole (js ++ (k ∷ [])) rs (all_append WholeFacts js (k ∷ []) h (p, tt)) w.1

-- ---- the table, and the rules by which it is read
module _ (t : Rows) where
  pub table-whole : WholeRows t → Spared (All WholeFacts) (table t)
  unfolding admit
  table-whole w = pick_is (λ a. Spared (All WholeFacts) (known a)) (ltb 128 t.len) {a = stopped TABLE []} (stops refl) (from_whole t (slots (rows_of t)) [] (rows_of t) tt w)

  pub rules_whole : (ks : List Facts) → All WholeFacts ks → All WholeBase (rules_in t ks).bases
  rules_whole ks h = bases-whole (length (base_rows t)) ks h
