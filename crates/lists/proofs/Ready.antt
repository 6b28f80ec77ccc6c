-- What a call on two lists knows once they are opened: the table's rows, both lists resolved, and that they are seen by the table's own rules.
use mathlib.Core.Path.{◌≡◌, refl, sym, ap, ◌∙◌, subst}
use mathlib.Core.List.{List, ◌++◌}
use Prim.Native.Nat.{ℕ, ◌≤◌}
use native.Mathlib.Omega.{arith}
use lib.IntN.{ℤ}
use lib.ListN.{length, length-take}
use Rattle.exponents.specs.Words.{All}
use Rattle.exponents.specs.Outcome.{Refusal, Outcome, Ok, Err, apply, bind, tested}
use Rattle.exponents.proofs.Holds.{one_answer}
use Rattle.exponents.proofs.Numbers.{clash, apply_refuses}
use Rattle.units.specs.declared.Factor.{Factor}
use Rattle.units.specs.declared.Factors.{Factors}
use Rattle.units.specs.declared.Rows.{Rows}
use Rattle.units.specs.Lists.{list_of, checked, both}
use Rattle.units.proofs.Checked.{short, no_fault, first_passed, second_passed, both_pass}
use Rattle.tables.specs.declared.Slot.{Slot}
use Rattle.tables.specs.declared.Items.{Items}
use Rattle.tables.specs.Rows.{Facts, table, base_rows}
use Rattle.tables.specs.Rules.{rules_in}
use Rattle.tables.specs.Held.{pack_slots, View, view_of, rules_by, Stands, Lends, pack_items, Resolved}
use Rattle.resolution.proofs.Viewed.{first-named, second-named, view_placed, rules_told}
use Rattle.lists.specs.Held.{opening, opened_of, Tells, Opens}
use Rattle.lists.specs.declared.opening.Opened.{Opened}
use Rattle.lists.proofs.Checks.{Pair, lay, lists-next, Call, call_refuses, call_goes}
use Rattle.lists.proofs.Ends.{slots_len}

-- the lists a and b of the table t, opened as x: the rows are ks, the lists are fs and gs
pub record Ready (t : Rows) (a b : Factors) (x : Opened) : Type 0 where
  pub ks : List Facts
  pub fs : List Factor
  pub gs : List Factor
  pub known : table t ≡ Ok ks
  pub opened : opening t a b ≡ Ok (lay ks (fs, gs))
  pub slots : x.slots ≡ pack_slots (base_rows t)
  pub first : Resolved (view_of ks (fs ++ gs)) x.a fs
  pub second : Resolved (view_of ks (fs ++ gs)) x.b gs
  pub rules : rules_by (view_of ks (fs ++ gs)) x.slots.len ≡ rules_in t ks

-- ---- an opening that isn't refused: the table is admitted, and both lists pass

record Passed (t : Rows) (a b : Factors) : Type 0 where
  ks : List Facts
  known : table t ≡ Ok ks
  lists : Ok tt ≡ tested (both (length ks) a b)

both_passed : (ss : List Slot) (ks : List Facts) (o : Outcome Pair) (x : Opened) → Ok x ≡ opened_of ss (apply (lay ks) o) → Ok tt ≡ tested o
both_passed ss ks (Ok p) x e = refl
both_passed ss ks (Err r) x e = absurd (clash e)

passed : (t : Rows) (a b : Factors) (x : Opened) → Ok x ≡ opened_of (base_rows t) (opening t a b) → Passed t a b
unfolding opening bind
passed t a b x e = go (table t) refl e
  where
    go : (k : Outcome (List Facts)) → table t ≡ k → Ok x ≡ opened_of (base_rows t) (bind k (λ ks. apply (lay ks) (both (length ks) a b))) → Passed t a b
    go (Ok ks) k w = record { ks = ks; known = k; lists = both_passed (base_rows t) ks (both (length ks) a b) x w }
    go (Err r) k w = absurd (clash w)

-- a list that passes is resolved
few_taken : (l : Factors) → l.len ≤ 16 → length (list_of l) ≤ 16
few_taken l h = simp length-take (omega arith)

resolved : (ks : List Facts) (among : List Factor) (a : Factors) (l : Items) → Ok tt ≡ tested (checked (length ks) a) → All (λ f. Stands f.row among) (list_of a) → l ≡ pack_items (view_of ks among) (list_of a) → Resolved (view_of ks among) l (list_of a)
resolved ks among a l h n e = record { is = e; short = few_taken a (short (length ks) a h); shaped = no_fault (length ks) a h; named = n; placed = view_placed ks among }

-- ---- what a call learns

module _ (t : Rows) (a b : Factors) where
  pub ready : (x : Opened) → Ok x ≡ opened_of (base_rows t) (opening t a b) → Ready t a b x
  ready x e =
      let p = passed t a b x e in
      let fs = list_of a in
      let gs = list_of b in
      let n = length p.ks in
      let o : opening t a b ≡ Ok (lay p.ks (fs, gs)) = sym (lists-next t a b p.ks p.known) ∙ ap (apply (lay p.ks)) (both_pass n a b p.lists) in
      let q = one_answer (e ∙ ap (opened_of (base_rows t)) o) in
      let slots = ap (λ (y : Opened). y.slots) q in
      record {
        ks = p.ks;
        fs = fs;
        gs = gs;
        known = p.known;
        opened = o;
        slots = slots;
        first = resolved p.ks (fs ++ gs) a x.a (first_passed n a b p.lists) (first-named fs gs) (ap (λ (y : Opened). y.a) q);
        second = resolved p.ks (fs ++ gs) b x.b (second_passed n a b p.lists) (second-named fs gs) (ap (λ (y : Opened). y.b) q);
        rules = rules_told t p.ks (fs ++ gs) x.slots.len (slots_len x.slots (base_rows t) slots);
      }

  -- the call whose own work is W refuses as the opening did
  pub stopped : {A : Type 0} (W : List Facts → List Factor → List Factor → Outcome A) (r : Refusal) → Err r ≡ opened_of (base_rows t) (opening t a b) → Call t a b W ≡ Err r
  stopped W r e = call_refuses t a b W r (apply_refuses _ (opening t a b) r (sym e))

module _ {t : Rows} {a b : Factors} {x : Opened} (r : Ready t a b x) where
  abbrev pub seen : View
  seen = view_of r.ks (r.fs ++ r.gs)

  -- the call whose own work is W goes on with it
  pub goes : {A : Type 0} (W : List Facts → List Factor → List Factor → Outcome A) → Call t a b W ≡ W r.ks r.fs r.gs
  goes W = call_goes t a b W (lay r.ks (r.fs, r.gs)) r.opened

  -- the arrays tell the base exponents of the rows as they are seen
  pub lends : (nums : List ℤ) (dens : List ℕ) → Tells t nums dens → Lends seen x.slots.len nums dens
  lends nums dens tells = subst (λ n. Lends seen n nums dens) (sym (slots_len x.slots (base_rows t) r.slots)) (tells r.ks r.known (r.fs ++ r.gs))

-- a call on one list opens the empty one beside it
pub beside : {t : Rows} {a b c : Factors} {x : Outcome Opened} {nums : List ℤ} {dens : List ℕ} → b ≡ c → Opens t a b x nums dens → Opens t a c x nums dens
beside {t} {a} {b} {c} {x} {nums} {dens} e o = subst (λ b. Opens t a b x nums dens) e o
