-- A group whose rows are proportional keeps its base exponents when it becomes one factor, its greatest with the summed exponents (01, "Simplification", third step); in an admitted table rows of one key are so.
use mathlib.Core.Path.{◌≡◌, refl, sym, ◌∙◌, ap}
use mathlib.Core.Bool.{Bool, true, false}
use mathlib.Core.List.{List, [], ◌∷◌, map}
use Prim.Native.Nat.{Ordering}
use Prim.Native.Nat.{ℕ, zero, suc, ◌<◌}
use native.Mathlib.Omega.{arith}
use lib.IntN.{ℤ}
use lib.ListN.{length, get_or}
use Rattle.exponents.specs.Outcome.{Ok}
use Rattle.exponents.specs.Fractions.{nought, sum?}
use Rattle.exponents.specs.declared.Exponent.{Exponent}
use Rattle.exponents.proofs.Exact.{Low}
use Rattle.exponents.proofs.Holds.{Holds, held, take_out, holds_eq, holds_imp, holds_map, holds_bind}
use Rattle.exponents.proofs.Rationals.{value, nought_low}
use Rattle.exponents.proofs.Totals.{worth, zero-add, total}
use Rattle.exponents.proofs.Value.{Value}
use Rattle.units.specs.declared.Factor.{Factor}
use Rattle.units.specs.declared.Rows.{Rows}
use Rattle.keys.specs.Key.{entries, first}
use Rattle.exponents.specs.Words.{pick, All}
use Rattle.tables.specs.Rows.{Facts, nobody, exp_at, places, slots, rows_of, admitted, admit}
use Rattle.tables.specs.Rules.{Rules, rules_in}
use Rattle.tables.specs.Order.{key_order, atom, of}
use Rattle.tables.proofs.Alike.{table_sound, alike}
use Rattle.exponents.proofs.Each.{all_imp}
use Rattle.tables.proofs.Filled.{admit-rows, table-length}
use Rattle.keys.proofs.Proportional.{Some, first_Some}
use Rattle.tables.proofs.Terms.{nil_row}
use Rattle.tables.proofs.Total.{both_total, lists_total, nat_total, z_total}
use Rattle.canonical.specs.Canonical.{all_nought}
use Rattle.canonical.proofs.Algebra.{exact}
use Rattle.canonical.proofs.Bases.{Agree, base-nought, agree_all}
use Rattle.targets.specs.Groups.{greatest, share, summed, fitted, target}
use Rattle.targets.proofs.Grouping.{greatest_all}
use Rattle.targets.proofs.Dividing.{Division, division, worth_cross}

-- the row s at b is proportional to the row r: b(s) is to b(r) as their first base exponents
abbrev pub Likeness : (W : Value) → (ℕ → Exponent) → (ℕ → Exponent) → ℕ → ℕ → Type 0
Likeness W first b r s = W.act (first r) (worth W (b s)) ≡ W.act (first s) (worth W (b r))

-- ---- the target of the factor r
module _ (W : Value) (D : Division W) (first : ℕ → Exponent) (r : Factor) (some-r : Some (first r.row)) where
  abbrev Like : (ℕ → Exponent) → Factor → Type 0
  Like b f = Likeness W first b r.row f.row

  module _ (b : ℕ → Exponent) where
    -- one factor: e · b(f) is (e · first(f) / first(r)) · b(r)
    share_is : (f : Factor) → Like b f → Holds (λ q. W.act q (worth W (b r.row)) ≡ W.act f.exponent (worth W (b f.row))) (share first (first r.row) f)
    unfolding share
    share_is f h =
        holds_bind _ (W.mul?-act f.exponent (first f.row)) λ p hp.
        holds_imp (D.div?-act p (first r.row) some-r) λ q hq.
        D.act_cancel (first r.row) some-r _ _
        (hq _ ∙ hp _ ∙ ap (W.act f.exponent) (sym h) ∙ D.act_comm f.exponent (first r.row) _)

    sum_is : (s : Exponent) (l : List Factor) → All (Like b) l →
        Holds (λ e. W.act e (worth W (b r.row)) ≡ W.add (W.act s (worth W (b r.row))) (exact W l b)) (sum? (share first (first r.row)) s l)
    unfolding sum? exact total
    sum_is s [] h = held (sym (W.add-zero _))
    sum_is s (f ∷ l) h =
        holds_bind _ (share_is f h.0) λ q hq.
        holds_bind _ (W.add?-act s q) λ t ht.
        holds_imp (sum_is t l h.1) λ e he.
        he ∙ ap (λ x. W.add x (exact W l b)) (ht _ ∙ ap (W.add _) hq) ∙ W.add_assoc _ _ _

    fitted_exact : (l : List Factor) (e : Exponent) → All (Like b) l → summed first (first r.row) l ≡ Ok e → exact W l b ≡ exact W (of (atom r) e ∷ []) b
    unfolding summed exact total
    fitted_exact l e h q = sym (W.add-zero _ ∙ take_out (sum_is nought l h) q ∙ rw (W.nil_act, zero-add W))

  fitted_agrees : (bs : List (ℕ → Exponent)) (l : List Factor) (e : Exponent) → All (λ b. All (Like b) l) bs → summed first (first r.row) l ≡ Ok e → Agree W bs l (of (atom r) e ∷ [])
  fitted_agrees [] l e h q = tt
  fitted_agrees (b ∷ bs) l e h q = (fitted_exact b l e h.0 q, fitted_agrees bs l e h.1 q)

  pub fitted_keeps : (bs : List (ℕ → Exponent)) (l : List Factor) → All (λ b. All (Like b) l) bs → Holds (λ m. Agree W bs l m) (fitted first r l)
  unfolding fitted
  fitted_keeps bs l h = holds_map _ (holds_eq (summed first (first r.row) l)) λ e q. fitted_agrees bs l e h q

-- ---- the target of a group. P tells of a row that it is one of some that are proportional, two by two.
module _ (W : Value) (D : Division W) {A : Type 0} (R : Rules A) (P : ℕ → Type 0)
    (some : (r : ℕ) → P r → Some (R.lead r)) (like : (r s : ℕ) → P r → P s → All (λ b. Likeness W R.lead b r s) R.bases) where
  abbrev Of : Factor → Type 0
  Of f = P f.row

  likes : (r : Factor) → Of r → (cs : List (ℕ → Exponent)) (l : List Factor) → ((f : Factor) → Of f → All (λ b. Likeness W R.lead b r.row f.row) cs) → All Of l → All (λ b. All (λ f. Likeness W R.lead b r.row f.row) l) cs
  likes r p [] l h k = tt
  likes r p (b ∷ cs) l h k = (all_imp l (λ f q. (h f q).0) k, likes r p cs l (λ f q. (h f q).1) k)

  scalar_or : (t : Bool) (g : List Factor) (r : Factor) → Of r → All Of g → (t ≡ true → Agree W R.bases g []) → Holds (λ m. Agree W R.bases g m) (pick t (Ok []) (fitted R.lead r g))
  scalar_or true g r p h s = held (s refl)
  scalar_or false g r p h s = fitted_keeps W D R.lead r (some r.row p) R.bases g (likes r p R.bases g (λ f q. like r.row f.row p q) h)

  -- THEOREM: the target's base exponents are the group's
  pub target_keeps : (g : List Factor) → All Of g → Holds (λ m. Agree W R.bases g m) (target R g)
  unfolding target
  target_keeps [] h = held (agree_all W R.bases [] [] λ b. refl)
  target_keeps (f ∷ l) h =
      holds_bind _ (holds_eq _) λ x e.
      scalar_or (all_nought x) (f ∷ l) (greatest R.is_base f l) (greatest_all Of R.is_base f l h.0 h.1) h (base-nought W R.bases (f ∷ l) x e).yea

-- ---- in an admitted table

-- what keys are compared by
abbrev pub key_at : List Facts → ℕ → List (ℕ × ℤ)
key_at ks r = entries 0 (get_or ks r nobody).key

-- keys that compare as equal are
pub same_key : (ks : List Facts) (r s : ℕ) → key_order ks r s ≡ Ordering.eq → key_at ks r ≡ key_at ks s
unfolding key_order
same_key ks r s e = (lists_total (both_total nat_total z_total)).equal (key_at ks r) (key_at ks s) e

-- a row of the table, with the key k
pub record Keyed (ks : List Facts) (k : List (ℕ × ℤ)) (r : ℕ) : Type 0 where
  pub known : r < length ks
  pub key : key_at ks r ≡ k

-- a row's first base exponent, 1 where it has none
abbrev lead_in : List Facts → ℕ → Exponent
lead_in ks r = first (get_or ks r nobody).exps

module _ (t : Rows) (ks : List Facts) (a : admit t ≡ admitted ks) where
  within : (r : ℕ) → r < length ks → r < length (rows_of t)
  within r h = omega (arith, table-length (slots (rows_of t)) (rows_of t) ks (admit-rows t ks a))

  low : (r : ℕ) → r < length ks → All Low (get_or ks r nobody).exps
  low r h = all_imp (get_or ks r nobody).exps (λ x s. s.low) (table_sound (slots (rows_of t)) (rows_of t) ks (admit-rows t ks a) nil_row r (within r h)).each

  some_lead : (r : ℕ) → r < length ks → Some (lead_in ks r)
  some_lead r h = first_Some (get_or ks r nobody).exps (low r h)

  at_low : (r : ℕ) → r < length ks → (b : ℕ) → Low (exp_at ks b r)
  unfolding exp_at
  at_low r h b = go (get_or ks r nobody).exps (low r h) b
    where
      go : (d : List Exponent) → All Low d → (b : ℕ) → Low (get_or d b nought)
      go [] h b = nought_low
      go (x ∷ d) h zero = h.0
      go (x ∷ d) h (suc b) = go d h.1 b

  -- rows of one key are proportional at each base row
  pub rows_like : (r s : ℕ) → r < length ks → s < length ks → key_at ks r ≡ key_at ks s → (b : ℕ) → Likeness value (lead_in ks) (exp_at ks b) r s
  rows_like r s p q e b =
      worth_cross (lead_in ks r) (exp_at ks b s) (lead_in ks s) (exp_at ks b r)
      (some_lead r p).low (at_low s q b) (some_lead s q).low (at_low r p b)
      (alike (slots (rows_of t)) (rows_of t) ks (admit-rows t ks a) nil_row s r (within s q) (within r p) (sym e) b)

  -- THEOREM: a group of rows of one key keeps its base exponents
  module _ (k : List (ℕ × ℤ)) where
    all_like : (r s : ℕ) → Keyed ks k r → Keyed ks k s → All (λ b. Likeness value (lead_in ks) b r s) (rules_in t ks).bases
    all_like r s p q = go (places 0 (length (slots (rows_of t))))
      where
        go : (ps : List ℕ) → All (λ b. Likeness value (lead_in ks) b r s) (map (exp_at ks) ps)
        go [] = tt
        go (b ∷ ps) = (rows_like r s p.known q.known (p.key ∙ sym q.key) b, go ps)

    pub group_keeps : (g : List Factor) → All (λ f. Keyed ks k f.row) g → Holds (λ m. Agree value (rules_in t ks).bases g m) (target (rules_in t ks) g)
    group_keeps g h = target_keeps value division (rules_in t ks) (Keyed ks k) (λ r p. some_lead r p.known) all_like g h
