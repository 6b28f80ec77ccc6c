-- Simplification of a nonzero value keeps its base exponents, and is never refused by UNITS (01, "Simplification"): first by any rules whose groups keep theirs, then in an admitted table.
use mathlib.Core.Path.{◌≡◌, sym, subst}
use mathlib.Core.Bool.{false}
use mathlib.Core.List.{List, [], ◌∷◌, ◌++◌, flatten, append_assoc, append-nil}
use Prim.Native.Nat.{◌<◌}
use lib.Ieee.{Float}
use lib.ListN.{length}
use Rattle.exponents.specs.Outcome.{Refusal, UNITS, FRACTION, Ok, Err}
use Rattle.exponents.proofs.Holds.{holds_all, Holds, Only, take_out, holds_any, holds_eq, holds_imp, holds_both, holds_map, holds_bind}
use Rattle.exponents.proofs.Halves.{OutOfRange}
use Rattle.exponents.proofs.Rationals.{value}
use Rattle.floats.specs.Power.{one}
use Rattle.floats.specs.Values.{is_zero}
use Rattle.units.specs.declared.Factor.{Factor}
use Rattle.units.specs.declared.Factors.{Factors}
use Rattle.units.specs.declared.Rows.{Rows}
use Rattle.units.specs.Lists.{checked}
use Rattle.tables.specs.Rows.{Facts, table}
use Rattle.exponents.proofs.Each.{all_imp}
use Rattle.exponents.specs.Words.{All}
use Rattle.tables.proofs.Total.{Total}
use Rattle.resolution.proofs.Keyed.{admits}
use Rattle.canonical.specs.Canonical.{canon}
use Rattle.canonical.proofs.Bases.{Agree}
use Rattle.canonical.proofs.Agree.{canon_atoms}
use Rattle.canonical.proofs.Total.{order_in_total}
use Rattle.conversion.proofs.Refusals.{range_not_units}
use Rattle.targets.specs.Single.{single}
use Rattle.targets.specs.Groups.{groups, target}
use Rattle.targets.proofs.Proportions.{group_keeps}
use Rattle.targets.proofs.Partition.{OneKey, Known, groups-joined, groups_keyed}
use Rattle.tables.specs.Rules.{Rules, rules_in}
use Rattle.conversion.specs.Conversion.{convert}
use Rattle.simplification.specs.Steps.{grown, converted, by_groups, further, simplify}
use Rattle.simplification.proofs.Sounding.{attempt_holds, toward_holds, row_known, checked_passed}
use Rattle.simplification.proofs.Agreed.{agree_trans, agree_behind, agree_before, canon_agree, convert_agree}
use Rattle.simplification.proofs.NeverUnits.{NotUnits, never, fraction_not_units, Keeps, GroupsKeep, group_converts, second_converts, by_groups_only, simplify_only}

-- ---- by any rules
module _ (R : Rules Float) (O : Total R.order) where
  abbrev Agrees : List Factor → List Factor → Type 0
  Agrees l m = Agree value R.bases l m

  -- one group more
  grown_keeps : (s : Float) (u g : List Factor) → Keeps R O g → Holds (λ p. Agrees (u ++ g) p.1) (grown R s u g)
  unfolding grown
  grown_keeps s u g k = holds_bind _ k λ m a. holds_all _ (convert R g m one) λ x. agree_before value R.bases u g m a

  converted_keeps : (s : Float) (u : List Factor) (gs : List (List Factor)) → All (Keeps R O) gs → Holds (λ p. Agrees (u ++ flatten gs) p.1) (converted R s u gs)
  unfolding converted flatten
  converted_keeps s u [] h = holds_map _ (canon_agree value R O u) λ c a. subst (λ l. Agrees l c) (sym (append-nil u)) a
  converted_keeps s u (g ∷ gs) h =
      holds_bind _ (grown_keeps s u g h.0) λ p a.
      holds_imp (converted_keeps p.0 p.1 gs h.1) λ q c.
      agree_trans value R.bases (u ++ (g ++ flatten gs)) (p.1 ++ flatten gs) q.1
      (subst (λ l. Agrees l (p.1 ++ flatten gs)) (append_assoc u g (flatten gs)) (agree_behind value R.bases (u ++ g) p.1 (flatten gs) a)) c

  pub by_groups_keeps : (v : Float) (c : List Factor) → All (Keeps R O) (groups R.alike c) → Holds (λ a. Agrees c a.1) (by_groups R v c)
  unfolding by_groups
  by_groups_keeps v c h =
      holds_map _ (converted_keeps one [] (groups R.alike c) h) λ p a. subst (λ l. Agrees l p.1) (groups-joined R.alike c) a

  -- a value that isn't zero
  module _ (v : Float) (n : R.numbers.is_zero v ≡ false) (l : List Factor) where
    converts : (m : List Factor) → Holds (λ _. Agrees l m) (convert R l m v)
    converts m = convert_agree value R O l m v n

    further_keeps : GroupsKeep R O l → Holds (λ a. Agrees l a.1) (further R v l)
    unfolding further
    further_keeps g =
        holds_bind _ (holds_both (holds_eq (canon R.order l)) (canon_agree value R O l)) λ c e.
        holds_bind _ (holds_any (single R.bases c)) λ m _.
        toward_holds (λ a. Agrees l a.1) R v l m (by_groups R v c) (converts m) (holds_imp (by_groups_keeps v c (g c e.0)) λ a h. agree_trans value R.bases l c a.1 e.1 h)

    -- THEOREM: if it answers, its base exponents are kept
    pub simplify_keeps : GroupsKeep R O l → Holds (λ a. Agrees l a.1) (simplify R v l)
    unfolding simplify
    simplify_keeps g = attempt_holds (λ a. Agrees l a.1) _ [] (further R v l) (converts []) (further_keeps g)

-- ---- in an admitted table

module _ (t : Rows) (ks : List Facts) (k : table t ≡ Ok ks) where
  abbrev rules : Rules Float
  rules = rules_in t ks

  -- each group of rows of one key keeps its base exponents
  pub one_keeps : (g : List Factor) → OneKey ks g → Keeps rules (order_in_total ks) g
  one_keeps g o = group_keeps t ks (admits t ks k) o.key g o.rows

  -- the groups of a list of known rows
  pub groups_keep : (c : List Factor) → All (Known ks) c → All (Keeps rules (order_in_total ks)) (groups rules.alike c)
  groups_keep c h = all_imp (groups rules.alike c) one_keeps (groups_keyed ks c h)

  form_keeps : (l : List Factor) → All (Known ks) l → GroupsKeep rules (order_in_total ks) l
  form_keeps l h c e = groups_keep c (take_out (canon_atoms (λ a. a.row < length ks) rules.order l h) e)

  -- THE SECOND STEP: the conversion to its one factor is never refused by UNITS, whatever the value
  pub second_never : (l c : List Factor) → canon rules.order l ≡ Ok c → (f : Factor) (m : List Factor) → single rules.bases c ≡ Ok (f ∷ m) → (v : Float) → convert rules l (f ∷ m) v ≡ Err UNITS → ⊥
  second_never = second_converts rules (order_in_total ks)

  -- THE THIRD STEP: the conversion of a group to its target is never refused by UNITS, whatever the value
  pub groups_convert : (c : List Factor) → All (Known ks) c → (v : Float) →
      All (λ g. Holds (λ m. convert rules g m v ≡ Err UNITS → ⊥) (target rules g)) (groups rules.alike c)
  groups_convert c h v = all_imp (groups rules.alike c) (λ g p. group_converts rules (order_in_total ks) g p v) (groups_keep c h)

  pub by_groups_never : (v : Float) (c : List Factor) → All (Known ks) c → by_groups rules v c ≡ Err UNITS → ⊥
  by_groups_never v c h = never (by_groups_only rules (order_in_total ks) NotUnits range_not_units fraction_not_units v c (groups_keep c h))

  -- of a checked list
  module _ (u : Factors) (fs : List Factor) (h : checked (length ks) u ≡ Ok fs) (v : Float) where
    pub rows-known : All (Known ks) fs
    rows-known = all_imp fs (row_known (length ks)) (take_out (checked_passed (length ks) u) h).1

    -- refused by what leaves the range and by FRACTION alone
    pub simplify_only_in : (S : Refusal → Type 0) → ((r : Refusal) → OutOfRange r → S r) → S FRACTION → Only S (simplify rules v fs)
    simplify_only_in S range fraction = simplify_only rules (order_in_total ks) S range fraction v fs (form_keeps fs rows-known)

    -- THEOREM: full simplification of a nonzero value, if it answers, keeps base exponents
    pub simplified_keeps : is_zero v ≡ false → Holds (λ a. Agree value rules.bases fs a.1) (simplify rules v fs)
    simplified_keeps n = simplify_keeps rules (order_in_total ks) v n fs (form_keeps fs rows-known)
