-- What `full_simplify_with` answers (demand 3): in an admitted table a quantity with the base exponents of the given one, whatever the candidates. It is refused by what leaves the range and by FRACTION alone once the candidates are taken, and whatever they are never by UNITS.
use mathlib.Core.Path.{◌≡◌, sym, ◌∙◌, subst}
use mathlib.Core.Bool.{true, false}
use mathlib.Core.List.{List, [], ◌∷◌}
use Prim.Native.Nat.{ℕ, suc}
use lib.ListN.{length, take}
use Rattle.exponents.specs.Words.{pick}
use Rattle.exponents.specs.Outcome.{FRACTION, Refusal, SHAPE, UNKNOWN, UNITS, Ok, Err, apply, bind}
use Rattle.exponents.proofs.Holds.{Holds, Only, fine, only_unless, holds_any, holds_imp, holds_map, holds_bind, only_map, only_bind, bind_given}
use Rattle.exponents.proofs.Halves.{OutOfRange}
use Rattle.exponents.proofs.Rationals.{value}
use Rattle.floats.specs.Values.{is_zero}
use Rattle.units.specs.declared.Factor.{Factor}
use Rattle.units.specs.declared.Candidate.{Candidate}
use Rattle.units.specs.declared.Candidates.{Candidates}
use Rattle.units.specs.declared.Quantity.{Quantity}
use Rattle.units.specs.declared.Rows.{Rows}
use Rattle.units.specs.Lists.{checked}
use Rattle.tables.specs.Rows.{Facts, table, base_rows}
use Rattle.tables.specs.Rules.{rules_in}
use Rattle.exponents.proofs.Words.{pick_is}
use Rattle.conversion.proofs.Refusals.{range_not_units}
use Rattle.values.specs.Quantities.{made}
use Rattle.simplification.specs.Steps.{quantity_of, simplify}
use Rattle.simplification.proofs.Agreed.{agree_trans}
use Rattle.simplification.proofs.NeverUnits.{NotUnits, never, fraction_not_units, either_only}
use Rattle.simplification.proofs.Kept.{simplify_only_in, simplified_keeps}
use Rattle.registry.specs.Registry.{lists_from, candidate_lists, registered}
use Rattle.registry.specs.Calls.{full_simplify_with}
use Rattle.registry.proofs.Upheld.{registered_keeps, registered_only}
use Rattle.promises.proofs.Simplification.{KeepsBase, made_keeps, same, shape_not_units, unknown_not_units, table_not_units, list_not_units}
use Rattle.promises.proofs.Unadmitted.{checked_only}

-- ---- candidates are refused by SHAPE and UNKNOWN only
module _ (S : Refusal → Type 0) (shape : S SHAPE) (un : S UNKNOWN) (rows : ℕ) where
  lists_only : (least : ℕ) (cs : List Candidate) → Only S (lists_from rows least cs)
  unfolding lists_from
  lists_only least [] = fine
  lists_only least (c ∷ cs) = only_unless _ SHAPE shape (only_bind _ _ (checked_only S shape un rows c.unit) λ fs _. only_map _ (lists_only (suc c.rank) cs))

  pub candidates_only : (c : Candidates) → Only S (candidate_lists rows c)
  unfolding candidate_lists
  candidates_only c = only_unless _ SHAPE shape (lists_only 0 (take c.len c.at))

-- q is a quantity of the admitted table t, fs its list
module _ (t : Rows) (ks : List Facts) (k : table t ≡ Ok ks) (q : Quantity) (fs : List Factor) (h : checked (length ks) q.unit ≡ Ok fs) (c : Candidates) where
  goes : full_simplify_with t q c ≡ bind (candidate_lists (length ks) c) (λ ms.
      pick q.mark (apply quantity_of (bind (simplify (rules_in t ks) q.value fs) (registered (rules_in t ks) (base_rows t) ms))) (Ok (made false q.value fs)))
  unfolding full_simplify_with
  goes = bind_given _ k ∙ bind_given _ h

  -- THEOREM: full simplification of a nonzero value with candidates, if it answers, keeps base exponents
  pub keeps_base : is_zero q.value ≡ false → Holds (KeepsBase t ks k q fs h) (full_simplify_with t q c)
  keeps_base n =
      subst (λ o. Holds (KeepsBase t ks k q fs h) o) (sym goes)
      (holds_bind _ (holds_any (candidate_lists (length ks) c)) λ ms _. pick_is (Holds (KeepsBase t ks k q fs h)) q.mark
      (holds_map quantity_of
      (holds_bind _ (simplified_keeps t ks k q.unit fs h q.value n) λ a e. holds_imp (registered_keeps t ks k ms a) λ b r. agree_trans value (rules_in t ks).bases fs a.1 b.1 e r)
      λ b r. made_keeps t ks k q fs h true b.0 b.1 r)
      (same t ks k q fs h))

  -- THEOREM: with candidates that are taken it answers, or is refused by what leaves the range or by FRACTION
  pub refuses : (ms : List (List Factor)) → candidate_lists (length ks) c ≡ Ok ms → (S : Refusal → Type 0) → ((r : Refusal) → OutOfRange r → S r) → S FRACTION → Only S (full_simplify_with t q c)
  refuses ms e S range fraction =
      subst (λ o. Only S o) (sym (goes ∙ bind_given _ e))
      (either_only S q.mark (only_map _ (only_bind _ _ (simplify_only_in t ks k q.unit fs h q.value S range fraction) λ a _. registered_only t ks k ms a S range fraction)) fine)

-- THEOREM: never UNITS, whatever the rows, the quantity and the candidates
module _ (t : Rows) (q : Quantity) (c : Candidates) where
  simplify_refuses : Only NotUnits (full_simplify_with t q c)
  unfolding full_simplify_with
  simplify_refuses =
      only_bind (table t) _ (table_not_units t) λ ks k.
      only_bind (checked (length ks) q.unit) _ (list_not_units (length ks) q.unit) λ fs h.
      only_bind (candidate_lists (length ks) c) _ (candidates_only NotUnits shape_not_units unknown_not_units (length ks) c) λ ms _.
      either_only NotUnits q.mark (only_map _ (only_bind _ _ (simplify_only_in t ks k q.unit fs h q.value NotUnits range_not_units fraction_not_units) λ a _. registered_only t ks k ms a NotUnits range_not_units fraction_not_units)) fine

  pub never_units : full_simplify_with t q c ≡ Err UNITS → ⊥
  never_units e = never simplify_refuses e
