-- The call goes on as the rule says, after the table, the list and the candidates, and after the three steps with what is left of them.
use mathlib.Core.Path.{◌≡◌, refl, sym, ap, ◌∙◌}
use mathlib.Core.Bool.{true, false}
use mathlib.Core.List.{List, [], ◌++◌}
use lib.ListN.{length}
use Rattle.exponents.specs.Outcome.{Refusal, Outcome, Ok, Err, apply, bind}
use Rattle.exponents.proofs.Holds.{bind_given, bind_refused, one_answer}
use Rattle.exponents.proofs.Numbers.{clash, apply_refuses}
use Rattle.units.specs.declared.Factor.{Factor}
use Rattle.units.specs.declared.Factors.{Factors}
use Rattle.units.specs.declared.Candidates.{Candidates}
use Rattle.units.specs.declared.Quantity.{Quantity}
use Rattle.units.specs.declared.Rows.{Rows}
use Rattle.units.specs.Lists.{pack, checked, both}
use Rattle.exponents.specs.Words.{pick}
use Rattle.tables.specs.Rows.{Facts, table, base_rows}
use Rattle.tables.specs.Held.{view_of, Resolved}
use Rattle.resolution.specs.Held.{resolved_of}
use Rattle.resolution.specs.declared.Resolved.{Resolved as Both}
use Rattle.resolution.proofs.Viewed.{first-named, view_placed}
use Rattle.values.specs.Quantities.{made}
use Rattle.tables.specs.Rules.{rules_in}
use Rattle.simplification.specs.Steps.{Amount, quantity_of, simplify}
use Rattle.lists.proofs.Checks.{both_none, alone as alone-list}
use Rattle.registry.specs.Registry.{candidate_lists, registered}
use Rattle.registry.specs.Calls.{full_simplify_with}
use Rattle.registry.proofs.GivenLists.{listed}
use Rattle.registry.proofs.Looking.{passed_resolved}

-- ---- one list resolved, beside the empty one
-- the list that was given, and as code has it
pub record Alone (ks : List Facts) (a : Factors) (x : Both) : Type 0 where
  pub fs : List Factor
  pub is : checked (length ks) a ≡ Ok fs
  pub has : Resolved (view_of ks (fs ++ [])) x.a fs

module _ (ks : List Facts) (a none : Factors) (n : none ≡ pack []) where
  abbrev hand : Outcome (List Factor) → Outcome Both
  hand o = resolved_of ks (apply alone-list o)

  handed : resolved_of ks (both (length ks) a none) ≡ hand (checked (length ks) a)
  handed = ap (λ (l : Factors). resolved_of ks (both (length ks) a l)) n ∙ ap (resolved_of ks) (both_none (length ks) a)

  pub alone_refuses : (r : Refusal) → Err r ≡ resolved_of ks (both (length ks) a none) → checked (length ks) a ≡ Err r
  alone_refuses r e = apply_refuses alone-list _ r (apply_refuses _ _ r (sym (e ∙ handed)))

  pub alone : (x : Both) → Ok x ≡ resolved_of ks (both (length ks) a none) → Alone ks a x
  alone x e = go (checked (length ks) a) refl (e ∙ handed)
    where
      go : (o : Outcome (List Factor)) → checked (length ks) a ≡ o → Ok x ≡ hand o → Alone ks a x
      go (Ok fs) w h = record { fs = fs; is = w; has = passed_resolved (listed w) (view_placed ks (fs ++ [])) (first-named fs []) (ap (λ (y : Both). y.a) (one_answer h)) }
      go (Err r) w h = absurd (clash h)

-- ---- what is left after the three steps: a refusal stays
pub none_left : (o : Outcome Amount) (f : Amount → Outcome Amount) (r : Refusal) → Err r ≡ apply quantity_of o → Err r ≡ apply quantity_of (bind o f)
none_left o f r e = sym (ap (apply quantity_of) (bind_refused f (apply_refuses quantity_of o r (sym e))))

-- ---- the call
module _ (t : Rows) (q : Quantity) (c : Candidates) where
  pub table_stops : (r : Refusal) → table t ≡ Err r → full_simplify_with t q c ≡ Err r
  unfolding full_simplify_with
  table_stops r e = bind_refused _ e

  module _ (ks : List Facts) (k : table t ≡ Ok ks) where
    -- what the call does with the lists
    abbrev work : List Factor → List (List Factor) → Outcome Quantity
    work fs ms =
        pick q.mark (apply quantity_of (bind (simplify (rules_in t ks) q.value fs) (registered (rules_in t ks) (base_rows t) ms)))
        (Ok (made false q.value fs))

    tabled : full_simplify_with t q c ≡ bind (checked (length ks) q.unit) (λ fs. bind (candidate_lists (length ks) c) (λ ms. work fs ms))
    unfolding full_simplify_with
    tabled = bind_given _ k

    pub list_stops : (r : Refusal) → checked (length ks) q.unit ≡ Err r → full_simplify_with t q c ≡ Err r
    list_stops r e = tabled ∙ bind_refused _ e

    module _ (fs : List Factor) (l : checked (length ks) q.unit ≡ Ok fs) where
      with_list : full_simplify_with t q c ≡ bind (candidate_lists (length ks) c) (λ ms. work fs ms)
      with_list = tabled ∙ bind_given _ l

      pub candidates_stop : (r : Refusal) → candidate_lists (length ks) c ≡ Err r → full_simplify_with t q c ≡ Err r
      candidates_stop r e = with_list ∙ bind_refused _ e

      module _ (ms : List (List Factor)) (g : candidate_lists (length ks) c ≡ Ok ms) where
        worked : full_simplify_with t q c ≡ work fs ms
        worked = with_list ∙ bind_given _ g

        -- without the mark
        pub unmarked : q.mark ≡ false → full_simplify_with t q c ≡ Ok (made false q.value fs)
        unmarked h = worked ∙ rw h

        pub marked : q.mark ≡ true → full_simplify_with t q c ≡ apply quantity_of (bind (simplify (rules_in t ks) q.value fs) (registered (rules_in t ks) (base_rows t) ms))
        marked h = worked ∙ rw h
