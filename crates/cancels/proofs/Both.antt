-- The two conversions beside each other, over any rules (02, order 3): UNITS together where neither leaves the range; what the old one answers, the new one answers or refuses by what leaves the range; the same bits where nothing is left to merge.
use mathlib.Core.Path.{◌≡◌, refl, sym, ◌∙◌, ap, ap₂, subst}
use mathlib.Core.Bool.{Bool, true, false, ◌||◌, ◌&&◌, not, and-false, true≢false}
use mathlib.Core.List.{List, [], ◌∷◌, append-nil}
use Prim.Native.Nat.{Ordering}
use lib.Dec.{eqb}
use borrow.Author.Tests.{eqb-true, eq-eqb}
use Rattle.exponents.specs.Outcome.{Refusal, UNITS, Outcome, Ok, Err, bind}
use Rattle.exponents.specs.Fractions.{add, add?}
use Rattle.exponents.specs.declared.Exponent.{Exponent}
use Rattle.exponents.proofs.Holds.{Holds, holds_imp, take_out, Only, fine, only, one_answer, either, bind_given}
use Rattle.exponents.proofs.Halves.{OutOfRange}
use Rattle.exponents.proofs.InRange.{or_left, or_right, ranged_holds}
use Rattle.exponents.proofs.Value.{Value}
use Rattle.units.specs.declared.Factor.{Factor}
use Rattle.units.specs.Lists.{some}
use Rattle.tables.specs.Lists.{base}
use Rattle.tables.specs.Order.{atom, of}
use Rattle.tables.specs.Rules.{Rules}
use Rattle.tables.proofs.Total.{Total}
use Rattle.canonical.specs.Canonical.{canon}
use Rattle.canonical.proofs.Bases.{Agree}
use Rattle.canonical.proofs.Keeping.{each_faultless, none_faulty, canon_keeps}
use Rattle.common.specs.Common.{common, over}
use Rattle.conversion.specs.Conversion.{choose, unlike, standing, convert_by, convert, cancelling}
use Rattle.conversion.specs.Fractional.{fractional}
use Rattle.conversion.proofs.Refusals.{given_not_refused, Fraction, fraction, worked}
use Rattle.conversion.proofs.Cases.{at_own_base, Unlike, Reduced, Stopped, at_ready, at_reduced, Case, zero, equal, stopped, units, value, answer}
use Rattle.conversion.proofs.Ready.{Ready, stands, merges}
use Rattle.halves.proofs.Wholes.{add-whole}
use Rattle.conversion.proofs.Faithful.{faithful, case, stopped_only, units_exactly, fraction_exactly}

-- not refused by what leaves the range
abbrev pub InReach : {A : Type 0} → Outcome A → Type 0
InReach o = (r : Refusal) → OutOfRange r → o ≡ Err r → ⊥

-- ---- FRACTION or not

-- a and b tell that two exponents are whole, c that their sum is, o that their size is exactly 1
summed : (a b c o : Bool) → (a ≡ true → b ≡ true → c ≡ true) → (not a && not o) ≡ false → (not b && not o) ≡ false → (not c && not o) ≡ false
summed a b c true h p q = and-false (not c)
summed true true c false h p q = rw (h refl refl)
summed true false c false h p q = absurd (true≢false q)
summed false b c false h p q = absurd (true≢false p)

-- a scale is worked out exactly where it isn't fractional
abbrev answers_false : {A : Type 0} {b : Bool} {a : A} → Fraction b (Ok a) → b ≡ false
answers_false worked = refl

false_answers : {A : Type 0} {S : Refusal → Type 0} {b : Bool} {o : Outcome A} → b ≡ false → Fraction b o → Only S o
false_answers e fraction = absurd (true≢false e)
false_answers e worked = fine

module _ {A : Type 0} (R : Rules A) where
  -- an exponent that isn't whole, over a size other than 1
  abbrev fraction_at : Factor → Bool
  fraction_at f = not (eqb f.exponent.den 1) && not (R.numbers.exactly_one (R.size f))

  fractional_some : (l : List Factor) → fractional R l ≡ some fraction_at l
  unfolding fractional some
  fractional_some [] = refl
  fractional_some (f ∷ l) = ap (λ t. fraction_at f || t) (fractional_some l)

  -- one row and prefix have one size
  module _ (O : Total R.order) (sized : (f g : Factor) → atom f ≡ atom g → R.size f ≡ R.size g) where
    fraction_merged : (x y : Factor) → R.order (atom x) (atom y) ≡ Ordering.eq → fraction_at x ≡ false → fraction_at y ≡ false → Holds (λ e. fraction_at (of (atom y) e) ≡ false) (add? y.exponent x.exponent)
    fraction_merged x y e p q =
        ranged_holds _ (add y.exponent x.exponent) λ _.
        over_size (add y.exponent x.exponent) (sized _ y refl)
        (summed (eqb y.exponent.den 1) (eqb x.exponent.den 1) _ (R.numbers.exactly_one (R.size y))
        (λ a b. eq-eqb _ 1 (add-whole y.exponent x.exponent (eqb-true _ 1 a) (eqb-true _ 1 b)))
        q
        (over_size x.exponent (sized y x (sym (O.equal _ _ e))) p))
      where
        over_size : (d : Exponent) {s t : A} → s ≡ t → (not (eqb d.den 1) && not (R.numbers.exactly_one t)) ≡ false → (not (eqb d.den 1) && not (R.numbers.exactly_one s)) ≡ false
        over_size d e h = rw e h

    -- a scale that has a value keeps one when its list is merged
    pub canon_fractional : (l : List Factor) → fractional R l ≡ false → Holds (λ c. fractional R c ≡ false) (canon R.order l)
    canon_fractional l h =
        holds_imp (canon_keeps (λ f. fraction_at f ≡ false) R.order fraction_merged l (each_faultless fraction_at l (sym (fractional_some l) ∙ h)))
        λ c k. fractional_some c ∙ none_faulty fraction_at c k

  -- ---- nothing left to merge

  -- the own list over the common factors is its own canonical form: one answer, or one refusal
  pub merged_already : (l m cl cm : List Factor) (v : A) → canon R.order l ≡ Ok cl → canon R.order m ≡ Ok cm →
      canon R.order (over l (common R.order cl cm)) ≡ Ok (over l (common R.order cl cm)) → cancelling R l m v ≡ convert R l m v
  unfolding convert_by unlike bind
  merged_already l m cl cm v el em e = bind_given _ el ∙ bind_given _ em ∙ ap (choose _ v) (bind_given _ e) ∙ sym (bind_given _ el ∙ bind_given _ em)

  -- THEOREM: so it is where the own list is canonical and has nothing in common with the target
  pub same_bits : (l m cm : List Factor) (v : A) → canon R.order l ≡ Ok l → canon R.order m ≡ Ok cm → common R.order l cm ≡ [] → cancelling R l m v ≡ convert R l m v
  same_bits l m cm v el em e =
      let p : over l (common R.order l cm) ≡ l = ap (over l) e ∙ append-nil l in
      merged_already l m l cm v el em (ap (canon R.order) p ∙ el ∙ ap Ok (sym p))

module _ {A : Type 0} (R : Rules A) (W : Value) (O : Total R.order) where
  -- ---- UNITS

  module _ (ready : List Factor → Outcome (List Factor)) (K : Ready W ready) (l m : List Factor) (v : A) (h : InReach (convert_by R ready l m v)) where
    -- no step refuses
    unstopped : {r : Refusal} → Stopped R W ready l m v r → ⊥
    unstopped {r} s = h r (stopped_only R W O ready K OutOfRange (λ r k. k) l m v s) (faithful R W O ready K l m v (stopped s))

    -- so a nonzero value of lists that differ, and whose base exponents do, is refused by UNITS
    units_too : {cl cm : List Factor} → Unlike R W l m v cl cm → (Agree W R.bases l m → ⊥) → convert_by R ready l m v ≡ Err UNITS
    units_too u n = go (case R W O ready K l m v)
      where
        go : Case R W ready l m v → convert_by R ready l m v ≡ Err UNITS
        go (zero el em z) = absurd (true≢false (sym z ∙ u.nonzero))
        go (equal el em) = absurd (u.differ (one_answer (sym u.own ∙ el) ∙ one_answer (sym em ∙ u.target)))
        go (stopped s) = absurd (unstopped s)
        go (units s k) = faithful R W O ready K l m v (units s k)
        go (value s a) = absurd (n a)

  -- THEOREM: the own list made ready in two ways: where neither leaves the range, one is refused by UNITS where the other is
  pub units_alike : (ready ready' : List Factor → Outcome (List Factor)) → Ready W ready → Ready W ready' → (l m : List Factor) (v : A) →
      InReach (convert_by R ready l m v) → InReach (convert_by R ready' l m v) → convert_by R ready l m v ≡ Err UNITS → convert_by R ready' l m v ≡ Err UNITS
  units_alike ready ready' K K' l m v h h' e = from (case R W O ready K l m v) (sym (faithful R W O ready K l m v (case R W O ready K l m v)) ∙ e)
    where
      from : (k : Case R W ready l m v) → answer R W ready k ≡ Err UNITS → convert_by R ready' l m v ≡ Err UNITS
      from (zero el em z) p = absurd (given_not_refused p)
      from (equal el em) p = absurd (given_not_refused p)
      from (stopped s) p = absurd (unstopped ready K l m v h s)
      from (units s n) p = units_too ready' K' l m v h' s.lists n
      from (value s a) p = absurd ((units_exactly R W O ready K l m v s).0 e a)

  -- ---- where the old one answers

  -- one row and prefix have one size
  module _ (sized : (f g : Factor) → atom f ≡ atom g → R.size f ≡ R.size g) (l m : List Factor) (v : A) where
    abbrev merge : List Factor → Outcome (List Factor)
    merge = canon R.order

    by_case : (k : Case R W merge l m v) → Only OutOfRange (answer R W merge k) → Only OutOfRange (cancelling R l m v)
    by_case k h = subst (λ o. Only OutOfRange o) (sym (faithful R W O merge (merges W R O) l m v k)) h

    stops : {r : Refusal} → Stopped R W merge l m v r → Only OutOfRange (cancelling R l m v)
    stops s = by_case (stopped s) (only (stopped_only R W O merge (merges W R O) OutOfRange (λ r h. h) l m v s))

    -- the old one answers by two scales, which have a value
    module _ {cl cm own t : List Factor} {x y : List Exponent} (s : Reduced R W standing l m v cl cm own x t y) (a : Agree W R.bases l m) (h : (fractional R own || fractional R t) ≡ false) where
      abbrev reduced : List Factor
      reduced = over l (common R.order cl cm)

      -- and that of the own list keeps one when merged
      by_scales : (c : List Factor) (z : List Exponent) → merge reduced ≡ Ok c → base R.bases c ≡ Ok z → Only OutOfRange (cancelling R l m v)
      by_scales c z e p =
          let u : fractional R reduced ≡ false = ap (fractional R) (one_answer s.readied) ∙ or_left (fractional R own) (fractional R t) h in
          let k : Reduced R W merge l m v cl cm c z t y = record { lists = s.lists; readied = e; steps = record { own_base = p; target_is = s.steps.target_is; target-base = s.steps.target-base } } in
          false_answers (ap₂ ◌||◌ (take_out (canon_fractional R O sized reduced u) e) (or_right (fractional R own) (fractional R t) h)) (fraction_exactly R W O merge (merges W R O) l m v k a)

      by_value : Only OutOfRange (cancelling R l m v)
      by_value =
          either (merge reduced)
          (λ c e. either (base R.bases c) (λ z p. by_scales c z e p) (λ r p. stops (at_reduced s.lists e (at_own_base p))))
          (λ r e. stops (at_ready s.lists e))

    -- THEOREM: where the old one answers, the new one answers or is refused by what leaves the range
    pub old_answers : (w : A) → convert R l m v ≡ Ok w → Only OutOfRange (cancelling R l m v)
    old_answers w e = from (case R W O standing (stands W) l m v) (sym (faithful R W O standing (stands W) l m v (case R W O standing (stands W) l m v)) ∙ e)
      where
        from : (k : Case R W standing l m v) → answer R W standing k ≡ Ok w → Only OutOfRange (cancelling R l m v)
        from (zero el em z) p = by_case (zero el em z) fine
        from (equal el em) p = by_case (equal el em) fine
        from (stopped s) p = absurd (given_not_refused (sym p))
        from (units s n) p = absurd (given_not_refused (sym p))
        from (value {own = own} {t = t} s a) p =
            by_value s a (answers_false (subst (λ o. Fraction (fractional R own || fractional R t) o) e (fraction_exactly R W O standing (stands W) l m v s a)))
