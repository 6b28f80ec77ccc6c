-- Where simplification and the registry form stop (02, order 2): by any rules, a refusal of what leaves the range comes exactly from the first ranged step that refuses. Conversions stop by `conversion/proofs/Cases`; UNITS alone leads from one step to the next.
use mathlib.Core.Path.{◌≡◌, refl, sym, ◌∙◌, ap}
use mathlib.Core.Bool.{Bool, true, false, ◌&&◌, true≢false}
use mathlib.Core.Logic.{◌↔◌}
use mathlib.Core.List.{List, [], ◌∷◌}
use lib.Dec.{eqb, ltb}
use lib.Ieee.{Float}
use lib.ListN.{length}
use Rattle.exponents.specs.Words.{pick}
use Rattle.exponents.specs.Outcome.{Refusal, UNITS, FRACTION, number, Outcome, Ok, Err, apply, bind}
use Rattle.exponents.specs.declared.Exponent.{Exponent}
use Rattle.exponents.proofs.Holds.{Only, only_out, bind_given, bind_refused}
use Rattle.exponents.proofs.Halves.{OutOfRange, by_numerator, by_denominator}
use Rattle.exponents.proofs.Numbers.{one_refusal}
use Rattle.exponents.proofs.Rationals.{value}
use Rattle.floats.specs.Power.{one}
use Rattle.units.specs.declared.Factor.{Factor}
use Rattle.tables.specs.declared.Slot.{Slot}
use Rattle.tables.specs.Lists.{base}
use Rattle.tables.specs.Rules.{Rules, scale_by}
use Rattle.tables.proofs.Total.{Total}
use Rattle.canonical.specs.Canonical.{canon, same_all}
use Rattle.reduction.specs.Reduction.{reduced}
use Rattle.conversion.specs.Conversion.{standing, convert}
use Rattle.conversion.proofs.Cases.{Stopped, at_own}
use Rattle.conversion.proofs.Ready.{stands}
use Rattle.conversion.proofs.Faithful.{convert_only, range_exactly}
use Rattle.conversion.proofs.Refusals.{given_not_refused, range_not_units, range_not_fraction, fraction_only, scale_is}
use Rattle.targets.specs.Single.{single}
use Rattle.targets.specs.Groups.{groups, target}
use Rattle.simplification.specs.Steps.{Amount, go_on, attempt, grown, converted, by_groups, toward, further, simplify}
use Rattle.simplification.proofs.NeverUnits.{second_converts}
use Rattle.registry.specs.Registry.{near_one, is_single, Turn, wins, stays, after, fitting, turn, chosen, settled, registered}
use Rattle.halves.proofs.First.{apply_exactly, bind_case, pick_case}

module _ (R : Rules Float) where
  -- ---- simplification

  -- the third step: groups in order, s and u the product and the joined targets of those before
  pub data GroupsHalt (r : Refusal) : Float → List Factor → List (List Factor) → Type 0 where
    at_form : {s : Float} {u : List Factor} → canon R.order u ≡ Err r → GroupsHalt r s u []
    at_target : {s : Float} {u g : List Factor} {gs : List (List Factor)} → target R g ≡ Err r → GroupsHalt r s u (g ∷ gs)
    at_convert : {s : Float} {u g m : List Factor} {gs : List (List Factor)} → target R g ≡ Ok m → Stopped R value standing g m one r → GroupsHalt r s u (g ∷ gs)
    at_rest : {s : Float} {u g : List Factor} {gs : List (List Factor)} {p : Amount} → grown R s u g ≡ Ok p → GroupsHalt r p.0 p.1 gs → GroupsHalt r s u (g ∷ gs)

  -- the conversion to scalar is refused by UNITS; c is the canonical form
  pub record NoScalar (v : Float) (l c : List Factor) : Type 0 where
    pub units : convert R l [] v ≡ Err UNITS
    pub form : canon R.order l ≡ Ok c

  -- r is the refusal of the first of the three steps' conversions, searches and targets that refuses
  pub data Halts (v : Float) (l : List Factor) (r : Refusal) : Type 0 where
    at_scalar : Stopped R value standing l [] v r → Halts v l r
    at_single : {c : List Factor} → NoScalar v l c → single R.bases c ≡ Err r → Halts v l r
    at_one : {c m : List Factor} {f : Factor} → NoScalar v l c → single R.bases c ≡ Ok (f ∷ m) → Stopped R value standing l (f ∷ m) v r → Halts v l r
    at_groups : {c : List Factor} → NoScalar v l c → single R.bases c ≡ Ok [] → GroupsHalt r one [] (groups R.alike c) → Halts v l r

  -- ---- the registry form

  -- the candidates in turn, `best` the best so far; `now` is what is left, xs its base exponents and s its scale
  pub data CandidatesHalt (xs : List Exponent) (s : Float) (now : Amount) (r : Refusal) : Amount → List (List Factor) → Type 0 where
    at_candidate : {best : Amount} {m : List Factor} {ms : List (List Factor)} → ltb (length m) (length now.1) ≡ true → base R.bases m ≡ Err r → CandidatesHalt xs s now r best (m ∷ ms)
    at_fitting : {best : Amount} {m : List Factor} {ms : List (List Factor)} → fitting R (length now.1) xs s m ≡ Ok true → Stopped R value standing now.1 m now.0 r → CandidatesHalt xs s now r best (m ∷ ms)
    at_later : {best b : Amount} {m : List Factor} {ms : List (List Factor)} → turn R xs s now best m ≡ Ok (stays b) → CandidatesHalt xs s now r b ms → CandidatesHalt xs s now r best (m ∷ ms)

  -- two or more factors are left, with base exponents xs and scale s
  pub record Left (now : Amount) (xs : List Exponent) (s : Float) : Type 0 where
    pub several : ltb 1 (length now.1) ≡ true
    pub exps : base R.bases now.1 ≡ Ok xs
    pub scale : scale_by R now.1 ≡ Ok s

  -- r is the refusal of the first that refuses: the base exponents of what is left, the conversion to the single base unit, or a candidate
  pub data RegistryHalts (ss : List Slot) (ms : List (List Factor)) (now : Amount) (r : Refusal) : Type 0 where
    at_left : ltb 1 (length now.1) ≡ true → base R.bases now.1 ≡ Err r → RegistryHalts ss ms now r
    at_unit : {xs : List Exponent} {s : Float} → Left now xs s → (is_single (reduced ss xs) && near_one s) ≡ true → Stopped R value standing now.1 (reduced ss xs) now.0 r → RegistryHalts ss ms now r
    at_candidates : {xs : List Exponent} {s : Float} → Left now xs s → (is_single (reduced ss xs) && near_one s) ≡ false → CandidatesHalt xs s now r now ms → RegistryHalts ss ms now r

  -- both in turn: simplification halts, or it answers and the registry form halts
  pub data HaltsWith (ss : List Slot) (ms : List (List Factor)) (v : Float) (l : List Factor) (r : Refusal) : Type 0 where
    at_steps : Halts v l r → HaltsWith ss ms v l r
    at_registry : {a : Amount} → simplify R v l ≡ Ok a → RegistryHalts ss ms a r → HaltsWith ss ms v l r

-- a scale has no refusal of what leaves the range
pub scale_answers : (R : Rules Float) (r : Refusal) → OutOfRange r → (l : List Factor) → scale_by R l ≡ Err r → ⊥
scale_answers R r range l e = range_not_fraction r range (only_out (fraction_only (λ s. s ≡ FRACTION) refl (scale_is R R.numbers.one l)) e)

-- ---- the proofs, at a refusal r of what leaves the range
module _ (R : Rules Float) (O : Total R.order) (r : Refusal) (range : OutOfRange r) where
  stops : (l m : List Factor) (v : Float) → (convert R l m v ≡ Err r) ↔ Stopped R value standing l m v r
  stops l m v = range_exactly R value O standing (stands value) l m v r range

  -- ---- from step to step

  -- r is answered at once
  at_once : {o : Outcome Float} (m : List Factor) (next : Outcome Amount) → o ≡ Err r → attempt o m next ≡ Err r
  unfolding attempt go_on
  at_once m next e = ap (λ o. attempt o m next) e ∙ go r range
    where
      go : (s : Refusal) → OutOfRange s → go_on s next ≡ Err s
      go s by_numerator = refl
      go s by_denominator = refl

  -- UNITS goes on ..
  goes_on : {o : Outcome Float} (m : List Factor) (next : Outcome Amount) → o ≡ Err UNITS → attempt o m next ≡ next
  unfolding attempt go_on
  goes_on m next e = ap (λ o. attempt o m next) e

  -- .. and no other that a conversion has
  abbrev Told : Refusal → Type 0
  Told s = eqb (number s) (number UNITS) ≡ true → s ≡ UNITS

  tells : (l m : List Factor) (v : Float) → Only Told (convert R l m v)
  tells l m v = convert_only R value O standing (stands value) Told others (λ e. absurd (true≢false (sym e))) l m v (λ _ _. refl)
    where
      others : (s : Refusal) → OutOfRange s → Told s
      others s by_numerator e = absurd (true≢false (sym e))
      others s by_denominator e = absurd (true≢false (sym e))

  attempt_case : {C : Type 0} (o : Outcome Float) (m : List Factor) (next : Outcome Amount) → Only Told o → attempt o m next ≡ Err r → (o ≡ Err r → C) → (o ≡ Err UNITS → next ≡ Err r → C) → C
  unfolding attempt go_on
  attempt_case (Ok v) m next k e f g = absurd (given_not_refused e)
  attempt_case (Err s) m next k e f g =
      pick_case (eqb (number s) (number UNITS)) e (λ t h. g (ap Err (only_out k refl t)) h) (λ t h. f (ap Err (one_refusal h)))

  -- ---- simplification

  groups_from : (s : Float) (u : List Factor) (gs : List (List Factor)) → converted R s u gs ≡ Err r → GroupsHalt R r s u gs
  unfolding converted grown
  groups_from s u [] e = at_form ((apply_exactly _ (canon R.order u) r).0 e)
  groups_from s u (g ∷ gs) e =
      bind_case e
      (λ p. bind_case p at_target λ m k h. at_convert k ((stops g m one).0 ((apply_exactly _ (convert R g m one) r).0 h)))
      λ p k h. at_rest k (groups_from p.0 p.1 gs h)

  groups_by : {s : Float} {u : List Factor} {gs : List (List Factor)} → GroupsHalt R r s u gs → converted R s u gs ≡ Err r
  unfolding converted grown
  groups_by (at_form e) = ap (apply _) e
  groups_by (at_target e) = bind_refused _ (bind_refused _ e)
  groups_by (at_convert {g = g} {m = m} k h) = bind_refused _ (bind_given _ k ∙ ap (apply _) ((stops g m one).1 h))
  groups_by (at_rest k h) = bind_given _ k ∙ groups_by h

  module _ (v : Float) (l : List Factor) where
    -- the canonical form answers where the conversion to scalar is refused by UNITS
    form_answers : convert R l [] v ≡ Err UNITS → canon R.order l ≡ Err r → ⊥
    form_answers u e = range_not_units r range (one_refusal (sym ((stops l [] v).1 (at_own e)) ∙ u))

    toward_from : (c m : List Factor) → NoScalar R v l c → single R.bases c ≡ Ok m → toward R v l m (by_groups R v c) ≡ Err r → Halts R v l r
    unfolding toward by_groups
    toward_from c [] n s e = at_groups n s (groups_from one [] (groups R.alike c) ((apply_exactly _ (converted R one [] (groups R.alike c)) r).0 e))
    toward_from c (f ∷ m) n s e =
        attempt_case (convert R l (f ∷ m) v) (f ∷ m) _ (tells l (f ∷ m) v) e (λ p. at_one n s ((stops l (f ∷ m) v).0 p)) λ u _. absurd (second_converts R O l c n.form f m s v u)

    further_from : convert R l [] v ≡ Err UNITS → further R v l ≡ Err r → Halts R v l r
    unfolding further
    further_from u e =
        bind_case e (λ p. absurd (form_answers u p)) λ c p h.
        let n : NoScalar R v l c = record { units = u; form = p } in
        bind_case h (at_single n) λ m s k. toward_from c m n s k

    halts_from : simplify R v l ≡ Err r → Halts R v l r
    unfolding simplify
    halts_from e = attempt_case (convert R l [] v) [] (further R v l) (tells l [] v) e (λ p. at_scalar ((stops l [] v).0 p)) further_from

    -- past the first step
    second : {c : List Factor} → NoScalar R v l c → further R v l ≡ Err r → simplify R v l ≡ Err r
    unfolding simplify
    second n e = goes_on [] (further R v l) n.units ∙ e

    halts_by : Halts R v l r → simplify R v l ≡ Err r
    unfolding simplify further toward by_groups
    halts_by (at_scalar h) = at_once [] (further R v l) ((stops l [] v).1 h)
    halts_by (at_single n e) = second n (bind_given _ n.form ∙ bind_refused _ e)
    halts_by (at_one {m = m} {f = f} n s h) = second n (bind_given _ n.form ∙ bind_given _ s ∙ at_once (f ∷ m) _ ((stops l (f ∷ m) v).1 h))
    halts_by (at_groups n s h) = second n (bind_given _ n.form ∙ bind_given _ s ∙ ap (apply _) (groups_by h))

    -- THEOREM: simplification stops exactly so
    pub simplify_exactly : (simplify R v l ≡ Err r) ↔ Halts R v l r
    simplify_exactly = (halts_from, halts_by)

  -- ---- the registry form
  module _ (now : Amount) where
    module _ (xs : List Exponent) (s : Float) where
      fitting_from : (m : List Factor) → fitting R (length now.1) xs s m ≡ Err r → (ltb (length m) (length now.1) ≡ true) × (base R.bases m ≡ Err r)
      unfolding fitting
      fitting_from m e =
          pick_case (ltb (length m) (length now.1)) e
          (λ t h. bind_case h (λ p. (t, p)) λ ys _ k. pick_case (same_all ys xs) k (λ _ q. absurd (scale_answers R r range m ((apply_exactly _ (scale_by R m) r).0 q))) (λ _ q. absurd (given_not_refused q)))
          (λ _ h. absurd (given_not_refused h))

      turn_from : (best : Amount) (m : List Factor) (ms : List (List Factor)) → turn R xs s now best m ≡ Err r → CandidatesHalt R xs s now r best (m ∷ ms)
      unfolding turn
      turn_from best m ms e = bind_case e (λ p. let k = fitting_from m p in at_candidate k.0 k.1) fits
        where
          fits : (t : Bool) → fitting R (length now.1) xs s m ≡ Ok t →
              pick t (apply (λ x. pick (eqb (length m) 1) (wins (x, m)) (stays (pick (ltb (length m) (length best.1)) (x, m) best))) (convert R now.1 m now.0)) (Ok (stays best)) ≡ Err r →
              CandidatesHalt R xs s now r best (m ∷ ms)
          fits true k h = at_fitting k ((stops now.1 m now.0).0 ((apply_exactly _ (convert R now.1 m now.0) r).0 h))
          fits false k h = absurd (given_not_refused h)

      after_from : {C : Type 0} (w : Turn) (next : Amount → Outcome Amount) → after w next ≡ Err r → ((b : Amount) → w ≡ stays b → next b ≡ Err r → C) → C
      unfolding after
      after_from (wins a) next e f = absurd (given_not_refused e)
      after_from (stays b) next e f = f b refl e

      chosen_from : (best : Amount) (ms : List (List Factor)) → chosen R xs s now best ms ≡ Err r → CandidatesHalt R xs s now r best ms
      unfolding chosen
      chosen_from best [] e = absurd (given_not_refused e)
      chosen_from best (m ∷ ms) e =
          bind_case e (turn_from best m ms) λ w k h. after_from w _ h λ b p q. at_later (k ∙ ap Ok p) (chosen_from b ms q)

      chosen_by : {best : Amount} {ms : List (List Factor)} → CandidatesHalt R xs s now r best ms → chosen R xs s now best ms ≡ Err r
      unfolding chosen turn fitting after
      chosen_by (at_candidate t e) = bind_refused _ (bind_refused _ (rw t (bind_refused _ e)))
      chosen_by (at_fitting {m = m} k h) = bind_refused _ (bind_given _ k ∙ ap (apply _) ((stops now.1 m now.0).1 h))
      chosen_by (at_later k h) = bind_given _ k ∙ chosen_by h

    module _ (ss : List Slot) (ms : List (List Factor)) where
      settled_from : (xs : List Exponent) (s : Float) → Left R now xs s → settled R ss ms now xs s ≡ Err r → RegistryHalts R ss ms now r
      unfolding settled
      settled_from xs s k e =
          pick_case (is_single (reduced ss xs) && near_one s) e
          (λ t h. at_unit k t ((stops now.1 (reduced ss xs) now.0).0 ((apply_exactly _ (convert R now.1 (reduced ss xs) now.0) r).0 h)))
          (λ t h. at_candidates k t (chosen_from xs s now ms h))

      registry_from : registered R ss ms now ≡ Err r → RegistryHalts R ss ms now r
      unfolding registered
      registry_from e =
          pick_case (ltb 1 (length now.1)) e
          (λ t h. bind_case h (at_left t) λ xs p k. bind_case k (λ q. absurd (scale_answers R r range now.1 q)) λ s q f. settled_from xs s (record { several = t; exps = p; scale = q }) f)
          (λ _ h. absurd (given_not_refused h))

      left_settled : {xs : List Exponent} {s : Float} → Left R now xs s → registered R ss ms now ≡ settled R ss ms now xs s
      unfolding registered
      left_settled k = rw k.several (bind_given _ k.exps ∙ bind_given _ k.scale)

      registry_by : RegistryHalts R ss ms now r → registered R ss ms now ≡ Err r
      unfolding registered settled
      registry_by (at_left t e) = rw t (bind_refused _ e)
      registry_by (at_unit {xs = xs} k t h) = left_settled k ∙ rw t (ap (apply _) ((stops now.1 (reduced ss xs) now.0).1 h))
      registry_by (at_candidates {xs = xs} {s = s} k t h) = left_settled k ∙ rw t (chosen_by xs s h)

      -- THEOREM: the registry form stops exactly so
      pub registered_exactly : (registered R ss ms now ≡ Err r) ↔ RegistryHalts R ss ms now r
      registered_exactly = (registry_from, registry_by)

  -- ---- both
  module _ (ss : List Slot) (ms : List (List Factor)) (v : Float) (l : List Factor) where
    both_from : bind (simplify R v l) (registered R ss ms) ≡ Err r → HaltsWith R ss ms v l r
    both_from e = bind_case e (λ p. at_steps (halts_from v l p)) λ a p h. at_registry p (registry_from a ss ms h)

    both_by : HaltsWith R ss ms v l r → bind (simplify R v l) (registered R ss ms) ≡ Err r
    both_by (at_steps h) = bind_refused _ (halts_by v l h)
    both_by (at_registry {a = a} p h) = bind_given _ p ∙ registry_by a ss ms h

    -- THEOREM: both in turn stop exactly so
    pub both_exactly : (bind (simplify R v l) (registered R ss ms) ≡ Err r) ↔ HaltsWith R ss ms v l r
    both_exactly = (both_from, both_by)
