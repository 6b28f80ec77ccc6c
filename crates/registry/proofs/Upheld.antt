-- What the registry form makes of what is left (01, "Simplification") keeps its base exponents, a zero's too, is refused by what leaves the range and by FRACTION alone and has at most 16 factors: a candidate is taken only if its base exponents are those of what is left, and the single base unit has them.
use mathlib.Core.Path.{◌≡◌, refl, sym}
use mathlib.Core.Bool.{Bool, true, false, ◌&&◌, true≢false}
use mathlib.Core.List.{List, [], ◌∷◌}
use Prim.Native.Nat.{ℕ}
use lib.Dec.{ltb, eqb}
use lib.Ieee.{Float}
use lib.ListN.{length}
use Rattle.exponents.specs.Outcome.{Refusal, FRACTION, Outcome, Ok, apply}
use Rattle.exponents.specs.declared.Exponent.{Exponent}
use Rattle.exponents.proofs.Holds.{holds_all, Holds, held, Only, fine, take_out, holds_any, holds_eq, holds_imp, holds_map, holds_bind, only_map, only_bind}
use Rattle.exponents.proofs.Halves.{OutOfRange}
use Rattle.exponents.proofs.Rationals.{value}
use Rattle.units.specs.declared.Factor.{Factor}
use Rattle.units.specs.declared.Factors.{Factors}
use Rattle.units.specs.declared.Candidates.{Candidates}
use Rattle.units.specs.declared.Rows.{Rows}
use Rattle.units.specs.Lists.{checked}
use Rattle.tables.specs.declared.Slot.{Slot}
use Rattle.tables.specs.Lists.{base}
use Rattle.exponents.specs.Words.{pick, All}
use Rattle.tables.specs.Rows.{Facts, table, base_rows}
use Rattle.exponents.proofs.Each.{all_imp, along_all}
use Rattle.tables.proofs.Total.{Total}
use Rattle.resolution.proofs.Keyed.{admits}
use Rattle.canonical.specs.Canonical.{same_all}
use Rattle.canonical.proofs.Bases.{Agree}
use Rattle.canonical.proofs.Total.{order_in_total}
use Rattle.reduction.specs.Reduction.{reduced}
use Rattle.conversion.proofs.Refusals.{base_only, fraction_only, scale_is}
use Rattle.tables.specs.Rules.{Rules, rules_in, scale_by}
use Rattle.conversion.specs.Conversion.{convert}
use Rattle.simplification.specs.Steps.{Amount}
use Rattle.simplification.proofs.Sounding.{every}
use Rattle.simplification.proofs.Agreed.{agree_self, agree_sym, same_agree}
use Rattle.simplification.proofs.NeverUnits.{either_only, agreeing_only}
use Rattle.registry.specs.Registry.{candidate_lists, near_one, is_single, Turn, wins, stays, after, fitting, turn, chosen, settled, registered}
use Rattle.registry.proofs.Basis.{reduced_agrees}
use Rattle.registry.proofs.GivenLists.{candidates_hold}

when : {A : Type 0} {P : A → Type 0} {a b : Outcome A} (t : Bool) → (t ≡ true → Holds P a) → Holds P b → Holds P (pick t a b)
when true f h = f refl
when false f h = h

-- what a turn leaves
abbrev left : Turn → Amount
left (wins a) = a
left (stays b) = b

module _ (R : Rules Float) (now : Amount) where
  -- ---- P holds of what is answered, if it holds of what is left and of each conversion that may be taken
  module _ (P : Amount → Type 0) where
    -- of what is left, converted to the list m
    abbrev pub Converts : List Factor → Type 0
    Converts m = Holds (λ x. P (x, m)) (convert R now.1 m now.0)

    -- the candidate m is taken only if so
    abbrev Takes : List Exponent → Float → List Factor → Type 0
    Takes xs s m = Holds (λ fits. fits ≡ true → Converts m) (fitting R (length now.1) xs s m)

    module _ (xs : List Exponent) (s : Float) where
      turn_has : (best : Amount) (m : List Factor) → Takes xs s m → P best → Holds (λ w. P (left w)) (turn R xs s now best m)
      unfolding turn
      turn_has best m h b = holds_bind _ h λ fits f. when fits (λ e. holds_map _ (f e) λ x p. taken x p (eqb (length m) 1) (ltb (length m) (length best.1))) (held b)
        where
          taken : (x : Float) → P (x, m) → (only fewer : Bool) → P (left (pick only (wins (x, m)) (stays (pick fewer (x, m) best))))
          taken x p true fewer = p
          taken x p false true = p
          taken x p false false = b

      after_has : (w : Turn) (next : Amount → Outcome Amount) → P (left w) → ((b : Amount) → P b → Holds P (next b)) → Holds P (after w next)
      unfolding after
      after_has (wins a) next p f = held p
      after_has (stays b) next p f = f b p

      chosen_has : (best : Amount) (ms : List (List Factor)) → All (Takes xs s) ms → P best → Holds P (chosen R xs s now best ms)
      unfolding chosen
      chosen_has best [] h b = held b
      chosen_has best (m ∷ ms) h b = holds_bind _ (turn_has best m h.0 b) λ w p. after_has w _ p λ c q. chosen_has c ms h.1 q

    registered_has : (ss : List Slot) (ms : List (List Factor)) → P now →
        ((xs : List Exponent) → base R.bases now.1 ≡ Ok xs → Converts (reduced ss xs) × ((s : Float) → All (Takes xs s) ms)) →
        Holds P (registered R ss ms now)
    unfolding registered settled
    registered_has ss ms p f =
        when (ltb 1 (length now.1))
        (λ _.
        holds_bind _ (holds_eq (base R.bases now.1)) λ xs e.
        holds_bind _ (holds_any (scale_by R now.1)) λ s _.
        when (is_single (reduced ss xs) && near_one s) (λ _. holds_map _ (f xs e).0 λ x q. q) (chosen_has xs s now ms ((f xs e).1 s) p))
        (held p)

    -- whichever candidate is taken
    pub registered_any : (ss : List Slot) (ms : List (List Factor)) → P now → ((xs : List Exponent) → base R.bases now.1 ≡ Ok xs → Converts (reduced ss xs)) → All Converts ms → Holds P (registered R ss ms now)
    registered_any ss ms p f h = registered_has ss ms p λ xs e. (f xs e, λ s. all_imp ms (λ m c. holds_imp (holds_any (fitting R (length now.1) xs s m)) λ _ _ _. c) h)

  -- of the list alone
  on_list : (P : List Factor → Type 0) (m : List Factor) → P m → Converts (λ a. P a.1) m
  on_list P m p = holds_imp (holds_any (convert R now.1 m now.0)) λ _ _. p

  -- ---- base exponents: xs are those of what is left
  module _ (xs : List Exponent) (e : base R.bases now.1 ≡ Ok xs) where
    pub fitting_agrees : (s : Float) (m : List Factor) → Holds (λ fits. fits ≡ true → Agree value R.bases now.1 m) (fitting R (length now.1) xs s m)
    unfolding fitting
    fitting_agrees s m =
        when (ltb (length m) (length now.1))
        (λ _.
        holds_bind _ (holds_eq (base R.bases m)) λ ys q.
        when (same_all ys xs)
        (λ h. holds_all _ (scale_by R m) λ u _. agree_sym value R.bases m now.1 (same_agree value R.bases m now.1 ys xs q e h))
        none)
        none
      where
        none : Holds (λ fits. fits ≡ true → Agree value R.bases now.1 m) (Ok false)
        none = held λ h. absurd (true≢false (sym h))

    -- ---- refused by what leaves the range and by FRACTION alone
    module _ (O : Total R.order) (S : Refusal → Type 0) (range : (r : Refusal) → OutOfRange r → S r) (fraction : S FRACTION) (s : Float) where
      fitting_only : (n : ℕ) (m : List Factor) → Only S (fitting R n xs s m)
      unfolding fitting
      fitting_only n m =
          either_only S (ltb (length m) n)
          (only_bind _ _ (base_only S range R.bases m) λ ys _.
          either_only S (same_all ys xs) (only_map _ (fraction_only S fraction (scale_is R R.numbers.one m))) fine)
          fine

      turn_only : (best : Amount) (m : List Factor) → Only S (turn R xs s now best m)
      unfolding turn
      turn_only best m = only_bind _ _ (fitting_only (length now.1) m) λ fits q. go fits (take_out (fitting_agrees s m) q)
        where
          go : (fits : Bool) → (fits ≡ true → Agree value R.bases now.1 m) →
              Only S (pick fits (apply (λ x. pick (eqb (length m) 1) (wins (x, m)) (stays (pick (ltb (length m) (length best.1)) (x, m) best))) (convert R now.1 m now.0)) (Ok (stays best)))
          go true a = only_map _ (agreeing_only R O S range fraction now.1 m now.0 (a refl))
          go false a = fine

      after_only : (w : Turn) (next : Amount → Outcome Amount) → ((b : Amount) → Only S (next b)) → Only S (after w next)
      unfolding after
      after_only (wins a) next f = fine
      after_only (stays b) next f = f b

      chosen_only : (best : Amount) (ms : List (List Factor)) → Only S (chosen R xs s now best ms)
      unfolding chosen
      chosen_only best [] = fine
      chosen_only best (m ∷ ms) = only_bind _ _ (turn_only best m) λ w _. after_only w _ λ b. chosen_only b ms

  -- where the base rows ss are those of the rules
  module _ (ss : List Slot) (ms : List (List Factor)) (same : (xs : List Exponent) → base R.bases now.1 ≡ Ok xs → Agree value R.bases now.1 (reduced ss xs)) where
    pub keeps_by : Holds (λ a. Agree value R.bases now.1 a.1) (registered R ss ms now)
    keeps_by = registered_has (λ a. Agree value R.bases now.1 a.1) ss ms (agree_self value R.bases now.1) λ xs e.
        (on_list (Agree value R.bases now.1) (reduced ss xs) (same xs e), λ s. every ms λ m. holds_imp (fitting_agrees xs e s m) λ fits f k. on_list (Agree value R.bases now.1) m (f k))

    pub only_by : Total R.order → (S : Refusal → Type 0) → ((r : Refusal) → OutOfRange r → S r) → S FRACTION → Only S (registered R ss ms now)
    unfolding registered settled
    only_by O S range fraction =
        either_only S (ltb 1 (length now.1))
        (only_bind _ _ (base_only S range R.bases now.1) λ xs e.
        only_bind _ _ (fraction_only S fraction (scale_is R R.numbers.one now.1)) λ s _.
        either_only S (is_single (reduced ss xs) && near_one s)
        (only_map _ (agreeing_only R O S range fraction now.1 (reduced ss xs) now.0 (same xs e)))
        (chosen_only xs e O S range fraction s now ms))
        fine

-- ---- in an admitted table, whatever the candidates and the value
module _ (t : Rows) (ks : List Facts) (k : table t ≡ Ok ks) (ms : List (List Factor)) (now : Amount) where
  -- THEOREM: the base exponents of what is left are kept
  pub registered_keeps : Holds (λ a. Agree value (rules_in t ks).bases now.1 a.1) (registered (rules_in t ks) (base_rows t) ms now)
  registered_keeps = keeps_by (rules_in t ks) now (base_rows t) ms (reduced_agrees t ks (admits t ks k) now.1)

  -- THEOREM: refused by what leaves the range and by FRACTION alone
  pub registered_only : (S : Refusal → Type 0) → ((r : Refusal) → OutOfRange r → S r) → S FRACTION → Only S (registered (rules_in t ks) (base_rows t) ms now)
  registered_only = only_by (rules_in t ks) now (base_rows t) ms (reduced_agrees t ks (admits t ks k) now.1) (order_in_total ks)

-- ---- the candidates' lists: what holds of a list that passed
pub candidates_all : (P : List Factor → Type 0) (rows : ℕ) → ((l : Factors) → Holds P (checked rows l)) → (c : Candidates) → Holds (All P) (candidate_lists rows c)
candidates_all P rows f c = holds_imp (candidates_hold rows (λ _ m. P m) (λ x. f x.unit) c) λ ms h. along_all h.1
