-- An admitted table row by row: what is known of a row follows from the rows before it, and its definition, looked up in the whole table, has its base exponents.
use mathlib.Core.Path.{◌≡◌, refl, sym, ◌∙◌, ap, ap₂, subst}
use mathlib.Core.Bool.{Bool, true, false, ◌||◌}
use mathlib.Core.List.{List, [], ◌∷◌, ◌++◌, append_assoc, append-nil, map}
use Prim.Native.Nat.{ℕ, zero, suc, ◌<◌}
use native.Mathlib.Omega.{arith}
use lib.Dec.{ltb, eqb}
use lib.Ieee.{Float, mul}
use lib.Ieee as ieee
use lib.ListN.{length, get_or, take}
use lib.Seq.{length-take-le, get_or-take}
use borrow.Author.Tests.{ltb-true, not-false}
use Rattle.exponents.specs.Outcome.{TABLE, Outcome, Ok, Err, bind, each, apply}
use Rattle.exponents.specs.Fractions.{nought, unit, add?, mul?, sum?}
use Rattle.exponents.specs.declared.Exponent.{Exponent}
use Rattle.exponents.proofs.Holds.{one_answer, Holds, held, take_out, holds_unless, holds_bind, holds_eq}
use Rattle.exponents.proofs.InRange.{or_left, or_right}
use Rattle.floats.specs.Power.{one}
use Rattle.units.specs.declared.Factor.{Factor}
use Rattle.units.specs.declared.Kind.{Kind}
use Rattle.units.specs.declared.Kind.TheVariants.{Base, Derived}
use Rattle.units.specs.declared.Row.{Row}
use Rattle.units.specs.declared.Rows.{Rows}
use Rattle.units.specs.Prefixes.{factor_of}
use Rattle.units.specs.Lists.{some, unknown, factor_fault}
use Rattle.tables.specs.Lists.{base_at, base}
use Rattle.keys.specs.Key as key
use Rattle.tables.specs.Scale.{doubles, raised_to, scale_from_lem, size_by}
use Rattle.exponents.specs.Words.{pick}
use Rattle.tables.specs.Rows.{Facts, nobody, exp_at, scale_at, places, bases, def_of, is_base, kind_fault, count, table_fault, row_exps, row_scale, worked_out, row_facts, slots, Admission, admitted, stopped, admit_on, admit_from, rows_of, admit}
use Rattle.tables.specs.declared.Slot.{Slot}
use Rattle.exponents.proofs.Each.{each_map}

-- ---- one row, over the rows js before it

pub record Known (ss : List Slot) (js : List Facts) (r : Row) (k : Facts) : Type 0 where
  pub table : table_fault js r ≡ false
  pub shape : some factor_fault (def_of r) ≡ false
  pub exps : row_exps r.kind ss js r ≡ Ok k.exps
  pub key : key.key k.exps ≡ Ok k.key
  pub scale : row_scale r.kind js r ≡ Ok k.scale
  pub rank : k.rank ≡ r.rank
  pub base : k.base ≡ is_base r.kind

pub known : (ss : List Slot) (js : List Facts) (r : Row) → Holds (Known ss js r) (row_facts ss js r)
unfolding row_facts worked_out
known ss js r =
    holds_unless (table_fault js r) _ λ t.
    holds_unless (some factor_fault (def_of r)) _ λ s.
    holds_bind _ (holds_eq (row_exps r.kind ss js r)) λ e p.
    holds_bind _ (holds_eq (key.key e)) λ k q.
    holds_bind _ (holds_eq (row_scale r.kind js r)) λ c v.
    held (record { table = t; shape = s; exps = p; key = q; scale = v; rank = refl; base = refl })

-- ---- the table row after row

-- the rows rs, admitted after js
pub record Filled (ss : List Slot) (js : List Facts) (rs : List Row) (ks : List Facts) : Type 0 where
  pub more : List Facts
  pub is : ks ≡ js ++ more
  pub sized : length more ≡ length rs
  pub ranks : map (λ (k : Facts). k.rank) more ≡ map (λ (r : Row). r.rank) rs
  pub right : (d : Row) (i : ℕ) → i < length rs → Known ss (js ++ take i more) (get_or rs i d) (get_or more i nobody)

module _ (ss : List Slot) where
  step : (js : List Facts) (r : Row) (rs : List Row) (k : Facts) (ks : List Facts) → row_facts ss js r ≡ Ok k → Filled ss (js ++ (k ∷ [])) rs ks → Filled ss js (r ∷ rs) ks
  step js r rs k ks e h = record {
    more = k ∷ h.more;
    is = h.is ∙ append_assoc js (k ∷ []) h.more;
    sized = ap suc h.sized;
    ranks = ap₂ ◌∷◌ (take_out (known ss js r) e).rank h.ranks;
    right = right;
  }
    where
      right : (d : Row) (i : ℕ) → i < length (r ∷ rs) → Known ss (js ++ take i (k ∷ h.more)) (get_or (r ∷ rs) i d) (get_or (k ∷ h.more) i nobody)
      right d zero p = rw append-nil (take_out (known ss js r) e)
      right d (suc i) p = subst (λ l. Known ss l (get_or rs i d) (get_or h.more i nobody)) (append_assoc js (k ∷ []) (take i h.more)) (h.right d i (omega arith))

  pub admit_on_lem : (js : List Facts) (o : Outcome Facts) (next : Facts → Admission) (ks : List Facts) {P : Type 0} →
      admit_on o js next ≡ admitted ks → ((k : Facts) → o ≡ Ok k → next k ≡ admitted ks → P) → P
  admit_on_lem js (Ok k) next ks e f = f k refl e
  admit_on_lem js (Err w) next ks e f = absurd (let z : ◌≡◌ {A = ℕ} 0 1 = cc in omega arith)

  pub filled : (js : List Facts) (rs : List Row) (ks : List Facts) → admit_from ss js rs ≡ admitted ks → Filled ss js rs ks
  unfolding admit_from
  filled js [] ks e = let p : js ≡ ks = cc in record { more = []; is = sym p ∙ sym (append-nil js); sized = refl; ranks = refl; right = λ d i h. absurd (omega arith) }
  filled js (r ∷ rs) ks e = admit_on_lem js (row_facts ss js r) _ ks e λ k p q. step js r rs k ks p (filled (js ++ (k ∷ [])) rs ks q)

-- ---- rows looked up before and after the others are there

-- terms that agree where nothing is amiss have the same sum
sum_same : {A : Type 0} (fault : A → Bool) (t u : A → Outcome Exponent) → ((a : A) → fault a ≡ false → t a ≡ u a) →
    (s : Exponent) (l : List A) → some fault l ≡ false → sum? t s l ≡ sum? u s l
unfolding sum? some
sum_same fault t u h s [] e = refl
sum_same fault t u h s (a ∷ l) e =
    λ i. bind (h a (or_left (fault a) (some fault l) e) i) (λ x. bind (add? s x) (λ v. sum_same fault t u h v l (or_right (fault a) (some fault l) e) i))

module _ (ks : List Facts) (i : ℕ) where
  row_same : (f : Factor) → unknown i f ≡ false → get_or (take i ks) f.row nobody ≡ get_or ks f.row nobody
  row_same f e = get_or-take i ks f.row nobody (ltb-true f.row i (not-false _ e))

  base_same : (n : ℕ) (l : List Factor) → some (unknown i) l ≡ false → base (bases n (take i ks)) l ≡ base (bases n ks) l
  unfolding base base_at exp_at
  base_same n l e =
      each_map (base_at l) (exp_at (take i ks)) (places 0 n)
      ∙ ap (λ f. each f (places 0 n))
      (λ x j. sum_same (unknown i) _ _ (λ f p. ap (λ k. mul? f.exponent (get_or k.exps j nought)) (row_same f p)) nought l e x)
      ∙ sym (each_map (base_at l) (exp_at ks) (places 0 n))

  scale_same : (s : Float) (l : List Factor) → some (unknown i) l ≡ false → scale_from_lem doubles (size_by (scale_at (take i ks))) s l ≡ scale_from_lem doubles (size_by (scale_at ks)) s l
  unfolding scale_from_lem some scale_at
  scale_same s [] e = refl
  scale_same s (f ∷ l) e =
      let p = row_same f (or_left (unknown i f) (some (unknown i) l) e) in
      λ x. bind (raised_to doubles (mul ieee.binary64 (factor_of f.prefix) (p x).scale) f.exponent) (λ v. scale_same (mul ieee.binary64 s v) l (or_right (unknown i f) (some (unknown i) l) e) x)

-- a definition without a fault names lower rows only
pub lower : (js : List Facts) (r : Row) → table_fault js r ≡ false → some (unknown (length js)) (def_of r) ≡ false
unfolding table_fault
lower js r e = or_right (some (λ k. eqb k.rank r.rank) js || kind_fault r.kind (count js) r.len || ltb 8 r.len) (some (unknown (length js)) (def_of r)) e

-- ---- in the whole table

-- what the call admits is admitted from row 0 on
pub admit-rows : (r : Rows) (ks : List Facts) → admit r ≡ admitted ks → admit_from (slots (rows_of r)) [] (rows_of r) ≡ admitted ks
unfolding admit
admit-rows r ks = go (ltb 128 r.len)
  where
    go : (t : Bool) {a : Admission} → pick t (stopped TABLE []) a ≡ admitted ks → a ≡ admitted ks
    go true e = absurd (let z : ◌≡◌ {A = ℕ} 0 1 = cc in omega arith)
    go false e = e

module _ (ss : List Slot) (rs : List Row) (ks : List Facts) (h : admit_from ss [] rs ≡ admitted ks) where
  all : Filled ss [] rs ks
  all = filled ss [] rs ks h

  pub table-length : length ks ≡ length rs
  table-length = ap length all.is ∙ all.sized

  pub table_ranks : map (λ (k : Facts). k.rank) ks ≡ map (λ (r : Row). r.rank) rs
  table_ranks = ap (map (λ (k : Facts). k.rank)) all.is ∙ all.ranks

  module _ (d : Row) (i : ℕ) (p : i < length rs) where
    -- each row is what it is over the rows before it
    pub row_known : Known ss (take i ks) (get_or rs i d) (get_or ks i nobody)
    row_known = subst (λ l. Known ss (take i l) (get_or rs i d) (get_or l i nobody)) (sym all.is) (all.right d i p)

    before : length (take i ks) ≡ i
    before = length-take-le i ks (omega (arith, table-length))

    pub names_lower : some (unknown i) (def_of (get_or rs i d)) ≡ false
    names_lower = subst (λ n. some (unknown n) (def_of (get_or rs i d)) ≡ false) before (lower (take i ks) (get_or rs i d) row_known.table)

    -- a definition put in place of its unit: it has the row's base exponents
    pub derived_exps : (f : Float) → (get_or rs i d).kind ≡ Derived f → base (bases (length ss) ks) (def_of (get_or rs i d)) ≡ Ok (get_or ks i nobody).exps
    unfolding row_exps
    derived_exps f e = sym (base_same ks i (length ss) (def_of (get_or rs i d)) names_lower) ∙ rw e at row_known.exps

    -- a base row has 1 at itself, 0 elsewhere
    pub base_exps : (get_or rs i d).kind ≡ Base → (get_or ks i nobody).exps ≡ map (λ s. pick (eqb s.row i) unit nought) ss
    unfolding row_exps
    base_exps e = let p = rw e at row_known.exps in one_answer (sym p) ∙ ap (λ n. map (λ (s : Slot). pick (eqb s.row n) unit nought) ss) before

    -- a derived row's scale is its factor times its definition's, in the whole table too
    pub row_scale_lem : row_scale (get_or rs i d).kind ks (get_or rs i d) ≡ Ok (get_or ks i nobody).scale
    unfolding row_scale
    row_scale_lem = sym (go (get_or rs i d).kind) ∙ row_known.scale
      where
        go : (k : Kind) → row_scale k (take i ks) (get_or rs i d) ≡ row_scale k ks (get_or rs i d)
        go Base = refl
        go (Derived f) = ap (apply (mul ieee.binary64 f)) (scale_same ks i one (def_of (get_or rs i d)) names_lower)
