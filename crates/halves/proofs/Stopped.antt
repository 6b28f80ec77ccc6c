-- Where the calls stop (02, order 2): in an admitted table, `convert_to`, `full_simplify` and `full_simplify_with` refuse what leaves the range exactly where a ranged step does, with the refusal of the first; and so does the admission of a table, row by row.
use mathlib.Core.Path.{◌≡◌, refl, sym, ◌∙◌, ap, subst}
use mathlib.Core.Bool.{Bool, true, false}
use mathlib.Core.Logic.{◌↔◌}
use mathlib.Core.List.{List, [], ◌∷◌, ◌++◌}
use Prim.Native.Nat.{ℕ}
use native.Mathlib.Omega.{arith}
use lib.Dec.{ltb}
use lib.Ieee.{Float}
use lib.ListN.{length}
use Rattle.exponents.specs.Words.{pick}
use Rattle.exponents.specs.Outcome.{Refusal, TABLE, SHAPE, DENOMINATOR, Outcome, Ok, Err, unless, apply, bind}
use Rattle.exponents.specs.Fractions.{lcm?}
use Rattle.exponents.specs.declared.Exponent.{Exponent}
use Rattle.exponents.proofs.Holds.{only_out, bind_given, bind_refused}
use Rattle.exponents.proofs.Halves.{OutOfRange, by_numerator, by_denominator, lcm_only}
use Rattle.exponents.proofs.Numbers.{one_refusal}
use Rattle.exponents.proofs.Rationals.{value}
use Rattle.units.specs.declared.Factor.{Factor}
use Rattle.units.specs.declared.Factors.{Factors}
use Rattle.units.specs.declared.Candidates.{Candidates}
use Rattle.units.specs.declared.Quantity.{Quantity}
use Rattle.units.specs.declared.Kind.{Kind}
use Rattle.units.specs.declared.Kind.TheVariants.{Base, Derived}
use Rattle.units.specs.declared.Row.{Row}
use Rattle.units.specs.declared.Rows.{Rows}
use Rattle.units.specs.Lists.{factor_fault, some, checked, both}
use Rattle.keys.specs.Key.{multiple, key}
use Rattle.tables.specs.declared.Slot.{Slot}
use Rattle.tables.specs.Lists.{base}
use Rattle.tables.specs.Rows.{Facts, bases, def_of, table_fault, row_exps, row_scale, worked_out, row_facts, Admission, stopped, admit_on, admit_from, rows_of, admit, known, table, base_rows}
use Rattle.tables.specs.Rules.{Rules, rules_in, scale_by}
use Rattle.canonical.proofs.Total.{order_in_total}
use Rattle.canonical.specs.Canonical.{canon}
use Rattle.conversion.specs.Conversion.{standing, convert_by}
use Rattle.conversion.proofs.Cases as conversion
use Rattle.conversion.proofs.Refusals.{given_not_refused}
use Rattle.conversion.proofs.Ready.{Ready, stands, merges}
use Rattle.conversion.proofs.Faithful.{range_exactly}
use Rattle.values.specs.Quantities.{made}
use Rattle.quantities.specs.Calls.{convert_with, convert_to, convert_merged}
use Rattle.simplification.specs.Steps.{Amount, quantity_of, simplify}
use Rattle.simplification.specs.Calls.{full_simplify}
use Rattle.registry.specs.Registry.{candidate_lists, registered}
use Rattle.registry.specs.Calls.{full_simplify_with}
use Rattle.halves.proofs.First.{through, apply_exactly, bind_case}
use Rattle.halves.proofs.Stopping.{Halts, HaltsWith, scale_answers, simplify_exactly, both_exactly}

-- an outcome that is another
is : {A : Type 0} {o p : Outcome A} {r : Refusal} → o ≡ p → (o ≡ Err r) ↔ (p ≡ Err r)
is e = (λ h. sym e ∙ h, λ h. e ∙ h)

-- ---- the calls: q is a quantity of the admitted table t
module _ (t : Rows) (ks : List Facts) (k : table t ≡ Ok ks) (q : Quantity) where
  abbrev rules : Rules Float
  rules = rules_in t ks

  -- ---- conversion: fs is its list, gs the target
  module _ (m : Factors) (fs gs : List Factor) (h : both (length ks) q.unit m ≡ Ok (fs, gs)) where
    -- by either rule: `ready` is how the own list over the common factors is made ready
    module _ (ready : Rules Float → List Factor → Outcome (List Factor)) (K : Ready value (ready rules)) where
      converts : convert_with t (λ R. convert_by R (ready R)) q m ≡ apply (λ v. made true v gs) (convert_by rules (ready rules) fs gs q.value)
      converts = bind_given _ k ∙ bind_given _ h

      stops_by : (r : Refusal) → OutOfRange r → (convert_with t (λ R. convert_by R (ready R)) q m ≡ Err r) ↔ conversion.Stopped rules value (ready rules) fs gs q.value r
      stops_by r range = through (is converts) (through (apply_exactly _ (convert_by rules (ready rules) fs gs q.value) r) (range_exactly rules value (order_in_total ks) (ready rules) K fs gs q.value r range))

    -- THEOREM: `convert_to` stops where the conversion does
    pub convert_stops : (r : Refusal) → OutOfRange r → (convert_to t q m ≡ Err r) ↔ conversion.Stopped rules value standing fs gs q.value r
    unfolding convert_to
    convert_stops = stops_by (λ R. standing) (stands value)

    -- THEOREM: and so does `convert_merged`
    pub merged_stops : (r : Refusal) → OutOfRange r → (convert_merged t q m ≡ Err r) ↔ conversion.Stopped rules value (canon rules.order) fs gs q.value r
    unfolding convert_merged
    merged_stops = stops_by (λ R. canon R.order) (merges value rules (order_in_total ks))

  -- ---- simplification: fs is its list
  module _ (fs : List Factor) (h : checked (length ks) q.unit ≡ Ok fs) where
    simplifies : full_simplify t q ≡ pick q.mark (apply quantity_of (simplify rules q.value fs)) (Ok (made false q.value fs))
    unfolding full_simplify
    simplifies = bind_given _ k ∙ bind_given _ h

    marked : q.mark ≡ true → full_simplify t q ≡ apply quantity_of (simplify rules q.value fs)
    marked on = simplifies ∙ rw on

    unmarked : q.mark ≡ false → full_simplify t q ≡ Ok (made false q.value fs)
    unmarked off = simplifies ∙ rw off

    -- THEOREM: `full_simplify` of a marked quantity stops where simplification does
    pub simplify_stops : q.mark ≡ true → (r : Refusal) → OutOfRange r → (full_simplify t q ≡ Err r) ↔ Halts rules q.value fs r
    simplify_stops on r range =
        through (is (marked on)) (through (apply_exactly _ (simplify rules q.value fs) r) (simplify_exactly rules (order_in_total ks) r range q.value fs))

    -- without the mark it is never refused
    pub simplify_answers : q.mark ≡ false → (r : Refusal) → full_simplify t q ≡ Err r → ⊥
    simplify_answers off r e = given_not_refused (sym (unmarked off) ∙ e)

    -- with candidates that are taken
    module _ (c : Candidates) (ms : List (List Factor)) (p : candidate_lists (length ks) c ≡ Ok ms) where
      -- both in turn
      abbrev chosen : Outcome Amount
      chosen = bind (simplify rules q.value fs) (registered rules (base_rows t) ms)

      simplifies_with : full_simplify_with t q c ≡ pick q.mark (apply quantity_of chosen) (Ok (made false q.value fs))
      unfolding full_simplify_with
      simplifies_with = bind_given _ k ∙ bind_given _ h ∙ bind_given _ p

      marked_with : q.mark ≡ true → full_simplify_with t q c ≡ apply quantity_of chosen
      marked_with on = simplifies_with ∙ rw on

      unmarked_with : q.mark ≡ false → full_simplify_with t q c ≡ Ok (made false q.value fs)
      unmarked_with off = simplifies_with ∙ rw off

      -- THEOREM: `full_simplify_with` of a marked quantity stops where simplification does, or the registry form after it
      pub with_stops : q.mark ≡ true → (r : Refusal) → OutOfRange r → (full_simplify_with t q c ≡ Err r) ↔ HaltsWith rules (base_rows t) ms q.value fs r
      with_stops on r range = through (is (marked_with on)) (through (apply_exactly _ chosen r) (both_exactly rules (order_in_total ks) r range (base_rows t) ms q.value fs))

      -- without the mark it is never refused
      pub with_answers : q.mark ≡ false → (r : Refusal) → full_simplify_with t q c ≡ Err r → ⊥
      with_answers off r e = given_not_refused (sym (unmarked_with off) ∙ e)

-- ---- admission

-- m and the denominators of a list: a common multiple leaves the range
pub data KeyStops : ℕ → List Exponent → Type 0 where
  at_denominator : {m : ℕ} {x : Exponent} {l : List Exponent} → lcm? m x.den ≡ Err DENOMINATOR → KeyStops m (x ∷ l)
  past_denominator : {m n : ℕ} {x : Exponent} {l : List Exponent} → lcm? m x.den ≡ Ok n → KeyStops n l → KeyStops m (x ∷ l)

-- a row's own tests, over the rows ks before it
pub record Sound (ks : List Facts) (row : Row) : Type 0 where
  pub table_passed : table_fault ks row ≡ false
  pub shape_passed : some factor_fault (def_of row) ≡ false

-- ss are the base rows
module _ (ss : List Slot) where
  -- a row passes them, and its base exponents leave the range, or they answer and the common multiple in its key does
  pub data RowStops (ks : List Facts) (row : Row) : Refusal → Type 0 where
    at_exps : {f : Float} {r : Refusal} → Sound ks row → row.kind ≡ Derived f → base (bases (length ss) ks) (def_of row) ≡ Err r → RowStops ks row r
    at_key : {es : List Exponent} → Sound ks row → row_exps row.kind ss ks row ≡ Ok es → KeyStops 1 es → RowStops ks row DENOMINATOR

  -- the rows in order: one stops, and those before it are admitted
  pub data RowsStop (r : Refusal) : List Facts → List Row → Type 0 where
    at_row : {ks : List Facts} {row : Row} {rows : List Row} → RowStops ks row r → RowsStop r ks (row ∷ rows)
    past_row : {ks : List Facts} {k : Facts} {row : Row} {rows : List Row} → row_facts ss ks row ≡ Ok k → RowsStop r (ks ++ (k ∷ [])) rows → RowsStop r ks (row ∷ rows)

-- past a fault that is refused by another
unless_from : {A : Type 0} (t : Bool) {w r : Refusal} {o : Outcome A} → (w ≡ r → ⊥) → unless t w o ≡ Err r → (t ≡ false) × (o ≡ Err r)
unfolding unless
unless_from true n e = absurd (n (one_refusal e))
unless_from false n e = (refl, e)

range_not_table : (r : Refusal) → OutOfRange r → TABLE ≡ r → ⊥
range_not_table r by_numerator e = let z : ◌≡◌ {A = ℕ} 0 1 = cc in omega arith
range_not_table r by_denominator e = let z : ◌≡◌ {A = ℕ} 0 1 = cc in omega arith

range_not_shape : (r : Refusal) → OutOfRange r → SHAPE ≡ r → ⊥
range_not_shape r by_numerator e = let z : ◌≡◌ {A = ℕ} 0 1 = cc in omega arith
range_not_shape r by_denominator e = let z : ◌≡◌ {A = ℕ} 0 1 = cc in omega arith

-- a common multiple is refused by DENOMINATOR alone
multiple_from : {r : Refusal} (m : ℕ) (l : List Exponent) → multiple m l ≡ Err r → (r ≡ DENOMINATOR) × KeyStops m l
unfolding multiple
multiple_from m [] e = absurd (given_not_refused e)
multiple_from {r} m (x ∷ l) e =
    bind_case e
    (λ p. let d : r ≡ DENOMINATOR = only_out (lcm_only (λ s. s ≡ DENOMINATOR) refl m x.den) p in (d, at_denominator (p ∙ ap Err d)))
    λ n p q. let k = multiple_from n l q in (k.0, past_denominator p k.1)

multiple_by : {m : ℕ} {l : List Exponent} → KeyStops m l → multiple m l ≡ Err DENOMINATOR
unfolding multiple
multiple_by (at_denominator e) = bind_refused _ e
multiple_by (past_denominator p h) = bind_given _ p ∙ multiple_by h

module _ (t : Rows) (r : Refusal) (range : OutOfRange r) where
  abbrev ss : List Slot
  ss = base_rows t

  module _ (ks : List Facts) (row : Row) where
    scale_works : (k : Kind) → row_scale k ks row ≡ Err r → ⊥
    unfolding row_scale
    scale_works Base e = given_not_refused e
    scale_works (Derived f) e = scale_answers (rules_in t ks) r range (def_of row) ((apply_exactly _ (scale_by (rules_in t ks) (def_of row)) r).0 e)

    exps_from : Sound ks row → (k : Kind) → row.kind ≡ k → row_exps k ss ks row ≡ Err r → RowStops ss ks row r
    unfolding row_exps
    exps_from s Base p e = absurd (given_not_refused e)
    exps_from s (Derived f) p e = at_exps s p e

    key_from : Sound ks row → (es : List Exponent) → row_exps row.kind ss ks row ≡ Ok es → key es ≡ Err r → RowStops ss ks row r
    unfolding key
    key_from s es p e =
        let k = multiple_from 1 es ((apply_exactly _ (multiple 1 es) r).0 e) in subst (RowStops ss ks row) (sym k.0) (at_key s p k.1)

    row_from : row_facts ss ks row ≡ Err r → RowStops ss ks row r
    unfolding row_facts worked_out
    row_from e =
        let a = unless_from (table_fault ks row) (range_not_table r range) e in
        let b = unless_from (some factor_fault (def_of row)) (range_not_shape r range) a.1 in
        let s : Sound ks row = record { table_passed = a.0; shape_passed = b.0 } in
        bind_case b.1 (exps_from s row.kind refl) λ es p h.
        bind_case h (key_from s es p) λ k _ q.
        bind_case q (λ f. absurd (scale_works row.kind f)) λ _ _ f. absurd (given_not_refused f)

    sound : Sound ks row → {w : Refusal} → worked_out ss ks row ≡ Err w → row_facts ss ks row ≡ Err w
    unfolding row_facts unless
    sound s e = rw (s.table_passed, s.shape_passed) e

    row_by : {w : Refusal} → RowStops ss ks row w → row_facts ss ks row ≡ Err w
    unfolding worked_out row_exps key
    row_by (at_exps s p e) = sound s (bind_refused _ (ap (λ k. row_exps k ss ks row) p ∙ e))
    row_by (at_key s p h) = sound s (bind_given _ p ∙ bind_refused _ (ap (apply _) (multiple_by h)))

  on_from : {C : Type 0} (o : Outcome Facts) (ks : List Facts) (next : Facts → Admission) → known (admit_on o ks next) ≡ Err r → (o ≡ Err r → C) → ((k : Facts) → o ≡ Ok k → known (next k) ≡ Err r → C) → C
  on_from (Ok k) ks next e f g = g k refl e
  on_from (Err w) ks next e f g = f (ap Err (one_refusal e))

  rows_from : (ks : List Facts) (rows : List Row) → known (admit_from ss ks rows) ≡ Err r → RowsStop ss r ks rows
  unfolding admit_from
  rows_from ks [] e = absurd (given_not_refused e)
  rows_from ks (row ∷ rows) e = on_from (row_facts ss ks row) ks _ e (λ p. at_row (row_from ks row p)) λ k p q. past_row p (rows_from (ks ++ (k ∷ [])) rows q)

  rows_by : {ks : List Facts} {rows : List Row} → RowsStop ss r ks rows → known (admit_from ss ks rows) ≡ Err r
  unfolding admit_from
  rows_by (at_row {ks = ks} {row = row} h) = rw (row_by ks row h)
  rows_by (past_row p h) = rw p (rows_by h)

  -- THEOREM: a table of at most 128 rows stops at the first row that does
  pub table_stops : (table t ≡ Err r) ↔ ((ltb 128 t.len ≡ false) × RowsStop (base_rows t) r [] (rows_of t))
  unfolding admit
  table_stops = (λ e. go (ltb 128 t.len) refl e, λ h. rw h.0 (rows_by h.1))
    where
      go : (b : Bool) → ltb 128 t.len ≡ b → known (pick b (stopped TABLE []) (admit_from ss [] (rows_of t))) ≡ Err r → (ltb 128 t.len ≡ false) × RowsStop ss r [] (rows_of t)
      go true p e = absurd (range_not_table r range (one_refusal e))
      go false p e = (p, rows_from [] (rows_of t) e)
