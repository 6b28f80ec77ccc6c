-- No row's admission hangs on later rows: rows put behind a table change no refusal in it, and take no row out of it.
use mathlib.Core.Path.{◌≡◌, refl, sym, subst}
use mathlib.Core.Bool.{Bool, false, ◌||◌}
use mathlib.Core.List.{List, [], ◌∷◌, ◌++◌}
use Prim.Native.Nat.{ℕ, suc, ◌≤◌}
use native.Mathlib.Omega.{arith}
use lib.Dec.{ltb, eqb}
use lib.ListN.{length}
use borrow.Author.Tests.{eqb-false}
use Rattle.exponents.specs.Outcome.{Refusal, Outcome}
use Rattle.exponents.proofs.InRange.{or_left, or_right}
use Rattle.units.specs.declared.Row.{Row}
use Rattle.units.specs.Lists.{some, unknown}
use Rattle.tables.specs.declared.Slot.{Slot}
use Rattle.tables.specs.Rows.{Facts, def_of, count, kind_fault, table_fault, slotted, slots_from, slots, Admission, admitted, stopped, admit_on, admit_from}
use Rattle.beginnings.specs.Beginnings.{before, admitting}
use Rattle.beginnings.proofs.Matched.{Matched, answers, refuses}
use Rattle.beginnings.proofs.Between.{Rise, end, slotted_rise, slots_between}
use Rattle.beginnings.proofs.OneRow.{Alike, alike_none, alike_long, alike_on, row_alike}
use Rattle.beginnings.proofs.Counted.{counts, counts_least, whole_before}

-- ---- ranks met in the rows before
abbrev Met : List Facts → ℕ → Type 0
Met js x = some (λ k. eqb k.rank x) js ≡ false → ⊥

unmet : {A : Type 0} (f : A → Bool) (l : List A) (a : A) → some f (l ++ (a ∷ [])) ≡ false → (some f l ≡ false) × (f a ≡ false)
unfolding some
unmet f [] a e = (refl, or_left (f a) false e)
unmet f (b ∷ l) a e =
    let u = unmet f l a (or_right (f b) (some f (l ++ (a ∷ []))) e) in
    (rw (or_left (f b) (some f (l ++ (a ∷ []))) e) u.0, u.1)

-- a row without a TABLE fault has a rank of its own
fresh : (js : List Facts) (r : Row) → table_fault js r ≡ false → some (λ k. eqb k.rank r.rank) js ≡ false
unfolding table_fault
fresh js r e =
    let met = some (λ (k : Facts). eqb k.rank r.rank) js in
    let kind = kind_fault r.kind (count js) r.len in
    or_left met kind (or_left (met || kind) (ltb 8 r.len) (or_left (met || kind || ltb 8 r.len) (some (unknown (length js)) (def_of r)) e))

-- ---- two admissions row by row

-- the second, of rows with more behind, stops where the first does, or goes on
pub data Ahead : Admission → Admission → Type 0 where
  stops : {w : Refusal} {ks ls : List Facts} → length ls ≡ length ks → Ahead (stopped w ks) (stopped w ls)
  goes : {ks : List Facts} {a : Admission} → length ks ≤ before a → Ahead (admitted ks) a

ahead_on : {R : Facts → Facts → Type 0} (js ks : List Facts) → length ks ≡ length js → {o p : Outcome Facts} (f g : Facts → Admission) → Matched R o p → ((j k : Facts) → R j k → Ahead (f j) (g k)) → Ahead (admit_on o js f) (admit_on p ks g)
ahead_on js ks e f g (answers {a = j} {b = k} r) h = h j k r
ahead_on js ks e f g refuses h = stops e

module _ (qs : List Row) (ss ts : List Slot) where
  -- l are the base rows of the n rows before
  walk : (n : ℕ) (l : List Slot) (js ks : List Facts) (rs : List Row) → Rise (Met js) 0 l → Alike n ss ts js ks → ss ≡ slots_from n l rs → ts ≡ slots_from n l (rs ++ qs) → Ahead (admit_from ss js rs) (admit_from ts ks (rs ++ qs))
  unfolding admit_from slots_from
  walk n l js ks [] u a p q = goes (counts_least (counts ts (length js) ks qs (sym (alike_long n ss ts js ks a))))
  walk n l js ks (r ∷ rs) u a p q =
      let m : List Slot = slotted r.kind (record { row = n; rank = r.rank }) l in
      let more : (Q : ℕ → Type 0) → ((x : ℕ) → Met js x → Q x) → Q r.rank → table_fault js r ≡ false → Rise Q 0 m = λ Q to own t. slotted_rise to r.kind _ (λ met. met (fresh js r t)) own l u in
      let rise = more (λ _. Unit {0}) (λ _ _. tt) tt in
      ahead_on js ks (sym (alike_long n ss ts js ks a)) _ _
      (row_alike n ss ts js ks a r m λ t. (rw p (slots_between (suc n) m (rise t) rs), rw q (slots_between (suc n) m (rise t) (rs ++ qs))))
      λ j k h.
      walk (suc n) m (js ++ (j ∷ [])) (ks ++ (k ∷ [])) rs
      (more (Met (js ++ (j ∷ []))) (λ x met e. met (unmet _ js j e).0) (λ e. eqb-false j.rank r.rank (unmet _ js j e).1 h.0.rank) h.1)
      (alike_on n ss ts js ks a r j k h.0) p q

-- ---- rows qs put behind rs
module _ (rs qs : List Row) where
  pub later_rows : Ahead (admitting rs) (admitting (rs ++ qs))
  later_rows = walk qs (slots rs) (slots (rs ++ qs)) 0 [] [] [] rs end (alike_none _ _) refl refl

  -- the first fault stays, at its row and by its refusal
  pub later_stopped : (w : Refusal) (ks : List Facts) → admitting rs ≡ stopped w ks → (ls : List Facts) × (admitting (rs ++ qs) ≡ stopped w ls) × (length ls ≡ length ks)
  later_stopped w ks e = go (subst (λ a. Ahead a (admitting (rs ++ qs))) e later_rows)
    where
      go : {a : Admission} → Ahead (stopped w ks) a → (ls : List Facts) × (a ≡ stopped w ls) × (length ls ≡ length ks)
      go (stops {ls = ls} h) = (ls, refl, h)

  -- admitted rows stay admitted
  pub later_admitted : (ks : List Facts) → admitting rs ≡ admitted ks → length rs ≤ before (admitting (rs ++ qs))
  later_admitted ks e = rw (← whole_before rs (record { known = ks; is = e })) (go later_rows e)
    where
      go : {a b : Admission} → Ahead a b → a ≡ admitted ks → before a ≤ before b
      go (goes h) p = h
      go (stops h) p = omega arith
