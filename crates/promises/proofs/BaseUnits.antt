-- The base rows of an admitted table (01, "Records and sizes", "Powers and scales"): each has its place among them, the places rise in rank, and no two have the same base exponents, nor has one the scalar's.
use mathlib.Core.Path.{◌≡◌, refl, sym, ◌∙◌, ap, subst}
use mathlib.Core.Bool.{Bool, true, false, not, ◌||◌}
use mathlib.Core.List.{List, [], ◌∷◌, ◌++◌, map}
use Prim.Native.Nat.{ℕ, zero, suc, ◌+◌, ◌<◌, ◌≤◌}
use native.Mathlib.Nat as nat
use native.Mathlib.Omega.{arith}
use lib.Dec.{eqb, ltb}
use lib.IntN.{ℤ, pos}
use lib.ListN.{length, get_or, take}
use borrow.Author.Tests.{ltb-true, ltb-false, eqb-false, eq-eqb, ne_eqb}
use Rattle.exponents.specs.Words.{pick, All}
use Rattle.exponents.specs.Outcome.{Ok, bind, each}
use Rattle.exponents.specs.Fractions.{nought, unit, add?, mul?, sum?}
use Rattle.exponents.specs.Held.{worked}
use Rattle.exponents.specs.declared.Exponent.{Exponent}
use Rattle.exponents.proofs.Holds.{take_out, bind_given}
use Rattle.exponents.proofs.InRange.{or_left, or_right}
use Rattle.units.specs.declared.Factor.{Factor}
use Rattle.units.specs.declared.Kind.{Kind}
use Rattle.units.specs.declared.Kind.TheVariants.{Base, Derived}
use Rattle.units.specs.declared.Row.{Row}
use Rattle.units.specs.declared.Rows.{Rows}
use Rattle.units.specs.Lists.{some, unknown}
use Rattle.tables.specs.declared.Slot.{Slot}
use Rattle.tables.specs.Lists.{base_at, base}
use Rattle.tables.specs.Rows.{Facts, nobody, exp_at, places, placed, slotted, slots_from, slots, is_base, count, kind_fault, table_fault, def_of, self_exp, row_facts, admitted, admit_from, rows_of, admit, base_rows}
use Rattle.tables.specs.Rules.{rules_in}
use Rattle.tables.specs.Held.{no_slot}
use Rattle.exponents.proofs.Each.{all_imp}
use Rattle.tables.proofs.Filled.{known, admit_on_lem, admit-rows, table-length, row_known, base_exps}
use Rattle.tables.proofs.Placing.{slotted_room}
use Rattle.tables.proofs.Slotting.{placed_long}
use Rattle.tables.proofs.Terms.{get_map}
use Rattle.exponents.proofs.Words.{pick_is}
use Rattle.canonical.proofs.Keeping.{each_faultless}
use Rattle.simplification.proofs.Sounding.{every}
use Rattle.registry.proofs.BaseSlots.{placed-all, slotted-all, slots-base}

-- ---- each base row has a place

-- the row r has a place in a list
data In (r : ℕ) : List Slot → Type 0 where
  here : {s : Slot} {l : List Slot} → s.row ≡ r → In r (s ∷ l)
  there : {s : Slot} {l : List Slot} → In r l → In r (s ∷ l)

placed_own : (s : Slot) (l : List Slot) → In s.row (placed s l)
unfolding placed
placed_own s [] = here refl
placed_own s (t ∷ l) = pick_is (In s.row) (ltb s.rank t.rank) (here refl) (there (placed_own s l))

module _ (r : ℕ) where
  placed_old : (s : Slot) (l : List Slot) → In r l → In r (placed s l)
  unfolding placed
  placed_old s [] p = elim p [ ]
  placed_old s (t ∷ l) (here e) = pick_is (In r) (ltb s.rank t.rank) (there (subst (λ n. In n (placed t l)) e (placed_own t l))) (here e)
  placed_old s (t ∷ l) (there p) = pick_is (In r) (ltb s.rank t.rank) (there (placed_old t l p)) (there (placed_old s l p))

  slotted_old : (k : Kind) (s : Slot) (l : List Slot) → In r l → In r (slotted k s l)
  unfolding slotted
  slotted_old (Derived f) s l p = p
  slotted_old Base s l p = pick_is (In r) (ltb (length l) 16) (placed_old s l p) p

  from_old : (i : ℕ) (l : List Slot) (rs : List Row) → In r l → In r (slots_from i l rs)
  unfolding slots_from
  from_old i l [] p = p
  from_old i l (q ∷ rs) p = from_old (suc i) (slotted q.kind (record { row = i; rank = q.rank }) l) rs (slotted_old q.kind _ l p)

-- a base row makes them one more at most
slotted_long : (k : Kind) (s : Slot) (l : List Slot) (b : Bool) → b ≡ is_base k → length (slotted k s l) ≤ pick b (suc (length l)) (length l)
unfolding slotted is_base
slotted_long (Derived f) s l b e = rw e (omega arith)
slotted_long Base s l b e = rw e (pick_is (λ m. length m ≤ suc (length l)) (ltb (length l) 16) {a = placed s l} {b = l} (omega (arith, placed_long s l)) (omega arith))

-- where at most fifteen base rows stand before each, each finds its place
all_placed : (d : Row) (i : ℕ) (l : List Slot) (rs : List Row) (ks : List Facts) → length ks ≡ length rs
    → ((j : ℕ) → j < length rs → (get_or ks j nobody).base ≡ is_base (get_or rs j d).kind)
    → ((j : ℕ) → j < length rs → (get_or rs j d).kind ≡ Base → length l + count (take j ks) < 16)
    → (j : ℕ) → j < length rs → (get_or rs j d).kind ≡ Base → In (i + j) (slots_from i l rs)
unfolding slots_from count
all_placed d i l [] ks n b m j h e = absurd (omega arith)
all_placed d i l (r ∷ rs) [] n b m j h e = absurd (omega arith)
all_placed d i l (r ∷ rs) (k ∷ ks) n b m zero h e =
    let own : Slot = record { row = i; rank = r.rank } in
    let room : length l < 16 = omega (arith, m 0 h e) in
    let at : i ≡ i + 0 = omega arith in
    subst (λ x. In x (slots_from (suc i) (slotted r.kind own l) rs)) at (from_old i (suc i) (slotted r.kind own l) rs (subst (In i) (slotted_room own l r.kind e room) (placed_own own l)))
all_placed d i l (r ∷ rs) (k ∷ ks) n b m (suc j) h e =
    let own : Slot = record { row = i; rank = r.rank } in
    let at : suc i + j ≡ i + suc j = omega arith in
    let more : (x : ℕ) → x < length rs → (get_or rs x d).kind ≡ Base → length (slotted r.kind own l) + count (take x ks) < 16 = λ x p q. one_more k.base _ _ _ (slotted_long r.kind own l k.base (b 0 (omega arith))) (m (suc x) (omega arith) q) in
    subst (λ x. In x (slots_from (suc i) (slotted r.kind own l) rs)) at
    (all_placed d (suc i) (slotted r.kind own l) rs ks (omega arith) (λ x p. b (suc x) (omega arith)) more j (omega arith) e)
  where
    one_more : (t : Bool) (s l c : ℕ) → s ≤ pick t (suc l) l → l + pick t (suc c) c < 16 → s + c < 16
    one_more true s l c p q = omega arith
    one_more false s l c p q = omega arith

-- by its number
place_of : {r : ℕ} (l : List Slot) → In r l → (j : ℕ) × (j < length l) × ((get_or l j no_slot).row ≡ r)
place_of [] p = elim p [ ]
place_of (s ∷ l) (here e) = (0, omega arith, e)
place_of (s ∷ l) (there p) = let q = place_of l p in (suc q.0, omega (arith, q.1), q.2)

-- ---- the places rise in rank

abbrev pub Rising : List Slot → Type 0
Rising [] = Unit {0}
Rising (s ∷ l) = All (λ u. s.rank < u.rank) l × Rising l

placed_rising : (s : Slot) (l : List Slot) → All (λ u. u.rank ≡ s.rank → ⊥) l → Rising l → Rising (placed s l)
unfolding placed
placed_rising s [] h r = (tt, tt)
placed_rising s (t ∷ l) h r = go (ltb s.rank t.rank) refl (placed_rising t l (all_imp l (λ u p e. omega arith) r.0) r.1) (placed_rising s l h.1 r.1)
  where
    go : (b : Bool) → ltb s.rank t.rank ≡ b → Rising (placed t l) → Rising (placed s l) → Rising (pick b (s ∷ placed t l) (t ∷ placed s l))
    go true e p q =
        let k = ltb-true s.rank t.rank e in
        (placed-all (λ u. s.rank < u.rank) t l k (all_imp l (λ u j. omega arith) r.0), p)
    go false e p q =
        let n : t.rank ≡ s.rank → ⊥ = h.0 in
        let k : t.rank < s.rank = omega (arith, ltb-false s.rank t.rank e) in
        (placed-all (λ u. t.rank < u.rank) s l k r.0, q)

slotted_rising : (k : Kind) (s : Slot) (l : List Slot) → All (λ u. u.rank ≡ s.rank → ⊥) l → Rising l → Rising (slotted k s l)
unfolding slotted
slotted_rising (Derived f) s l h r = r
slotted_rising Base s l h r = pick_is Rising (ltb (length l) 16) (placed_rising s l h r) r

-- no two rows of one rank
abbrev Distinct : List Row → Type 0
Distinct [] = Unit {0}
Distinct (r ∷ rs) = All (λ q. q.rank ≡ r.rank → ⊥) rs × Distinct rs

from_rising : (i : ℕ) (l : List Slot) (rs : List Row) → All (λ u. All (λ q. q.rank ≡ u.rank → ⊥) rs) l → Distinct rs → Rising l → Rising (slots_from i l rs)
unfolding slots_from
from_rising i l [] f d h = h
from_rising i l (r ∷ rs) f d h =
    let own : Slot = record { row = i; rank = r.rank } in
    from_rising (suc i) (slotted r.kind own l) rs
    (slotted-all (λ u. All (λ q. q.rank ≡ u.rank → ⊥) rs) r.kind own l d.0 (all_imp l (λ u p. p.1) f)) d.1
    (slotted_rising r.kind own l (all_imp l (λ u p e. p.0 (sym e)) f) h)

-- ---- admission sees to both

-- a row without a TABLE fault, after js: its rank is met by none of them, and its kind is no fault
rank_and_kind : (js : List Facts) (r : Row) → table_fault js r ≡ false → (some (λ k. eqb k.rank r.rank) js ≡ false) × (kind_fault r.kind (count js) r.len ≡ false)
unfolding table_fault
rank_and_kind js r e =
    let met = some (λ (k : Facts). eqb k.rank r.rank) js in
    let kind = kind_fault r.kind (count js) r.len in
    let two = or_left (met || kind) (ltb 8 r.len) (or_left (met || kind || ltb 8 r.len) (some (unknown (length js)) (def_of r)) e) in
    (or_left met kind two, or_right met kind two)

module _ (ss : List Slot) where
  all-front : (P : Facts → Type 0) (js : List Facts) (k : Facts) → All P (js ++ (k ∷ [])) → All P js × P k
  all-front P [] k h = (tt, h.0)
  all-front P (j ∷ js) k h = let q = all-front P js k h.1 in ((h.0, q.0), q.1)

  -- the rows rs, admitted after js, have ranks of their own
  ranks_apart : (js : List Facts) (rs : List Row) (ks : List Facts) → admit_from ss js rs ≡ admitted ks → All (λ k. All (λ q. q.rank ≡ k.rank → ⊥) rs) js × Distinct rs
  unfolding admit_from
  ranks_apart js [] ks e = (every js (λ k. tt), tt)
  ranks_apart js (r ∷ rs) ks e = admit_on_lem ss js (row_facts ss js r) _ ks e λ k p q.
      let own = take_out (known ss js r) p in
      let met = each_faultless (λ (f : Facts). eqb f.rank r.rank) js (rank_and_kind js r own.table).0 in
      let rest = ranks_apart (js ++ (k ∷ [])) rs ks q in
      let split = all-front (λ (f : Facts). All (λ (q : Row). q.rank ≡ f.rank → ⊥) rs) js k rest.0 in
      (both-all js (all_imp js (λ f n x. eqb-false f.rank r.rank n (sym x)) met) split.0, (all_imp rs (λ w n x. n (x ∙ sym own.rank)) split.1, rest.1))
    where
      both-all : (js : List Facts) → All (λ (f : Facts). r.rank ≡ f.rank → ⊥) js → All (λ (f : Facts). All (λ (q : Row). q.rank ≡ f.rank → ⊥) rs) js → All (λ (f : Facts). All (λ (q : Row). q.rank ≡ f.rank → ⊥) (r ∷ rs)) js
      both-all [] p q = tt
      both-all (j ∷ js) p q = ((p.0, q.0), both-all js p.1 q.1)

  module _ (rs : List Row) (ks : List Facts) (h : admit_from ss [] rs ≡ admitted ks) (d : Row) where
    -- at most fifteen base rows stand before a base row
    few_before : (i : ℕ) → i < length rs → (get_or rs i d).kind ≡ Base → count (take i ks) < 16
    unfolding kind_fault
    few_before i p e =
        let kind = (rank_and_kind (take i ks) (get_or rs i d) (row_known ss rs ks h d i p).table).1 in
        let few = or_left (ltb 15 (count (take i ks))) (not (eqb (get_or rs i d).len 0)) (subst (λ k. kind_fault k (count (take i ks)) (get_or rs i d).len ≡ false) e kind) in
        omega (arith, ltb-false 15 (count (take i ks)) few)

-- ---- in an admitted table
module _ (t : Rows) (ks : List Facts) (a : admit t ≡ admitted ks) (d : Row) where
  abbrev Rs : List Row
  Rs = rows_of t

  among : (r : ℕ) → r < length Rs → (get_or Rs r d).kind ≡ Base → In r (base_rows t)
  among r p e =
      let h = admit-rows t ks a in
      subst (λ n. In n (base_rows t)) (nat.zero-add r)
      (all_placed d 0 [] Rs ks (table-length (slots Rs) Rs ks h) (λ j q. (row_known (slots Rs) Rs ks h d j q).base) (λ j q f. omega (arith, few_before (slots Rs) Rs ks h d j q f)) r p e)

  -- each base row has its place
  pub base-rows-all : (r : ℕ) → r < length Rs → (get_or Rs r d).kind ≡ Base → (j : ℕ) × (j < length (base_rows t)) × ((get_or (base_rows t) j no_slot).row ≡ r)
  base-rows-all r p e = place_of (base_rows t) (among r p e)

  -- what has a place is a base row, with its rank
  pub base-rows_only : All (λ s. (s.row < length Rs) × ((get_or Rs s.row d).kind ≡ Base) × ((get_or Rs s.row d).rank ≡ s.rank)) (base_rows t)
  base-rows_only = slots-base Rs d

  -- the places rise in rank
  pub base-rows_rise : Rising (base_rows t)
  base-rows_rise = from_rising 0 [] Rs tt (ranks_apart (slots Rs) [] Rs ks (admit-rows t ks a)).1 tt

-- ---- base exponents of one base row: 1 at itself, 0 at the others

-- 1 · x, added to 0, is x
once : (b : Bool) → bind (mul? unit (pick b unit nought)) (λ x. bind (add? nought x) (λ u. Ok u)) ≡ Ok (pick b unit nought)
unfolding worked
once true = refl
once false = refl

module _ (f : Factor) (e : f.exponent ≡ unit) where
  -- at the base row s
  base_once : (b : ℕ → Exponent) (s : Slot) → b f.row ≡ self_exp f.row s → base_at (f ∷ []) b ≡ Ok (self_exp f.row s)
  unfolding base_at sum?
  base_once b s h = rw (e, h) (once (eqb s.row f.row))

  bases_once : (g : ℕ → ℕ → Exponent) (p : ℕ) (ss : List Slot) → ((j : ℕ) → j < length ss → g (p + j) f.row ≡ self_exp f.row (get_or ss j no_slot)) → each (base_at (f ∷ [])) (map g (places p (length ss))) ≡ Ok (map (self_exp f.row) ss)
  unfolding each places
  bases_once g p [] h = refl
  bases_once g p (s ∷ ss) h =
      let first : g p f.row ≡ self_exp f.row s = let z : p + 0 ≡ p = omega arith in subst (λ n. g n f.row ≡ self_exp f.row s) z (h 0 (omega arith)) in
      let others : each (base_at (f ∷ [])) (map g (places (suc p) (length ss))) ≡ Ok (map (self_exp f.row) ss) = bases_once g (suc p) ss (λ j q. let z : p + suc j ≡ suc p + j = omega arith in subst (λ n. g n f.row ≡ self_exp f.row (get_or ss j no_slot)) z (h (suc j) (omega arith))) in
      rw (base_once (g p) s first, others) (bind_given _ refl)

unit-nought : unit ≡ nought → ⊥
unit-nought e = let z : ◌≡◌ {A = ℤ} (pos 1) (pos 0) = ap (λ (x : Exponent). x.num) e in let y : ◌≡◌ {A = ℕ} 1 0 = cc in omega arith

-- unlike at r itself
unlike : (r : ℕ) (v : Slot → Exponent) (ss : List Slot) → In r ss → ((s : Slot) → s.row ≡ r → v s ≡ nought) → map (self_exp r) ss ≡ map v ss → ⊥
unlike r v [] p h e = elim p [ ]
unlike r v (s ∷ ss) (here q) h e =
    let first : self_exp r s ≡ v s = cons_first e in
    unit-nought (sym (ap (λ b. pick b unit nought) (eq-eqb s.row r q)) ∙ first ∙ h s q)
  where
    cons_first : {x y : Exponent} {l m : List Exponent} → ◌≡◌ {A = List Exponent} (x ∷ l) (y ∷ m) → x ≡ y
    cons_first p = cc
unlike r v (s ∷ ss) (there q) h e = unlike r v ss q h (cons_rest e)
  where
    cons_rest : {x y : Exponent} {l m : List Exponent} → ◌≡◌ {A = List Exponent} (x ∷ l) (y ∷ m) → l ≡ m
    cons_rest p = cc

module _ (t : Rows) (ks : List Facts) (a : admit t ≡ admitted ks) (d : Row) where
  -- the base row of f, to the power 1, with any prefix
  abbrev pub BaseUnit : Factor → Type 0
  BaseUnit f = (f.row < length (rows_of t)) × ((get_or (rows_of t) f.row d).kind ≡ Base) × (f.exponent ≡ unit)

  -- it has 1 at itself, 0 at the others
  pub base-unit_has : (f : Factor) → BaseUnit f → base (rules_in t ks).bases (f ∷ []) ≡ Ok (map (self_exp f.row) (base_rows t))
  unfolding base exp_at
  base-unit_has f u =
      bases_once f u.2 (exp_at ks) 0 (base_rows t) λ j h.
      let z : 0 + j ≡ j = omega arith in
      rw z
      (ap (λ l. get_or l j nought) (base_exps (base_rows t) (rows_of t) ks (admit-rows t ks a) d f.row u.0 u.1)
      ∙ get_map (self_exp f.row) (base_rows t) j no_slot nought h)

  -- the scalar has 0 at all
  pub scalar_has : base (rules_in t ks).bases [] ≡ Ok (map (λ _. nought) (base_rows t))
  unfolding base base_at sum? each places
  scalar_has = go 0 (base_rows t)
    where
      go : (p : ℕ) (ss : List Slot) → each (λ _. Ok nought) (map (exp_at ks) (places p (length ss))) ≡ Ok (map (λ _. nought) ss)
      go p [] = refl
      go p (s ∷ ss) = rw (go (suc p) ss) (bind_given _ refl)

  -- THEOREM: two base rows never have the same base exponents
  pub apart : (f g : Factor) → BaseUnit f → BaseUnit g → (f.row ≡ g.row → ⊥) → map (self_exp f.row) (base_rows t) ≡ map (self_exp g.row) (base_rows t) → ⊥
  apart f g u v n e = unlike f.row (self_exp g.row) (base_rows t) (among t ks a d f.row u.0 u.1) (λ s q. ap (λ b. pick b unit nought) (ne_eqb s.row g.row (λ w. n (sym q ∙ w)))) e

  -- nor has one the scalar's
  pub not_scalar : (f : Factor) → BaseUnit f → map (self_exp f.row) (base_rows t) ≡ map (λ _. nought) (base_rows t) → ⊥
  not_scalar f u e = unlike f.row (λ _. nought) (base_rows t) (among t ks a d f.row u.0 u.1) (λ s q. refl) e
