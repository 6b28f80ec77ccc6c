-- One row over the rows before it: what refuses it, and the five arrays with what is known of it stored behind the others.
use mathlib.Core.Path.{◌≡◌, refl, sym, ap, ap₂, ◌∙◌, subst}
use mathlib.Core.Bool.{Bool, true, false, not, ◌||◌}
use mathlib.Core.List.{List, [], ◌∷◌, ◌++◌, map}
use Prim.Native.Nat.{ℕ, ◌*◌, ◌≤◌, ◌<◌}
use native.Mathlib.Omega.{arith}
use lib.Dec.{ltb, eqb}
use lib.IntN.{ℤ}
use lib.Ieee.{Float}
use lib.ListN.{length, take, set}
use lib.Seq.{sets}
use borrow.Author.Tests.{lt-ltb, not-false, ltb-true, ltb-false}
use Rattle.exponents.specs.Outcome.{Refusal, TABLE, SHAPE, Outcome, Ok, Err, unless, tested}
use Rattle.exponents.proofs.Holds.{take_out, one_answer}
use Rattle.exponents.proofs.InRange.{or_left, or_right}
use Rattle.exponents.proofs.Numbers.{clash, apply_refuses}
use Rattle.units.specs.declared.Factor.{Factor}
use Rattle.units.specs.declared.Kind.{Kind}
use Rattle.units.specs.declared.Kind.TheVariants.{Base}
use Rattle.units.specs.declared.Row.{Row}
use Rattle.units.specs.Lists.{some, factor_fault}
use Rattle.tables.specs.declared.Slot.{Slot}
use Rattle.tables.specs.declared.Known.{Known}
use Rattle.tables.specs.Rows.{Facts, def_of, count, kind_fault, table_fault, worked_out, row_facts}
use Rattle.tables.specs.Held.{known_of, worked_of, tops, bottoms, Room, Ranked, Paged, RowIn}
use Rattle.tables.proofs.Filled as filled
use Rattle.tables.proofs.Sound.{row_sound}
use Rattle.tables.proofs.Storing.{paged_more, ranks_are}

-- some element of a mapped list
some-map : {A B : Type 0} (f : A → B) (p : B → Bool) (l : List A) → some p (map f l) ≡ some (λ a. p (f a)) l
unfolding some
some-map f p [] = refl
some-map f p (a ∷ l) = ap (λ t. p (f a) || t) (some-map f p l)

-- a definition that names rows below i alone names rows below 128 alone
pub below : (i : ℕ) (l : List Factor) → i ≤ 128 → some (λ f. not (ltb f.row i)) l ≡ false → some (λ f. not (ltb f.row 128)) l ≡ false
unfolding some
below i [] h e = refl
below i (f ∷ l) h e =
    let low : f.row < i = ltb-true f.row i (not-false (ltb f.row i) (or_left (not (ltb f.row i)) (some (λ f. not (ltb f.row i)) l) e)) in
    let here : not (ltb f.row 128) ≡ false = ap not (lt-ltb f.row 128 (omega arith)) in
    ap₂ ◌||◌ here (below i l h (or_right (not (ltb f.row i)) (some (λ f. not (ltb f.row i)) l) e))

-- a row that passed has at most 8 factors
pub short : (a b : Bool) (n : ℕ) → (a || b || ltb 8 n) ≡ false → n ≤ 8
short a b n e = ltb-false 8 n (or_right (a || b) (ltb 8 n) e)

-- ---- what the code tests first: ranks, kind and length; then the rows that are named
module _ (ks : List Facts) (r : Row) where
  abbrev pub early : Bool
  early = some (λ k. eqb k.rank r.rank) ks || kind_fault r.kind (count ks) r.len || ltb 8 r.len

  abbrev pub names : Bool
  names = some (λ f. not (ltb f.row (length ks))) (def_of r)

  module _ (i : ℕ) (at : i ≡ length ks) where
    pub early_of : (bases : ℕ) (ranks : List ℕ) (met : Bool) → bases ≡ count ks → length ranks ≡ 128 → i < 128 → Ranked ks ranks
        → met ≡ some (λ x. eqb x r.rank) (take i ranks) → (met || kind_fault r.kind bases r.len || ltb 8 r.len) ≡ early
    early_of bases ranks met n l h p e =
        let are : take i ranks ≡ map (λ k. k.rank) ks = ap (λ m. take m ranks) at ∙ ranks_are ks ranks (omega arith) p in
        ap₂ (λ (m : Bool) (n : ℕ). m || kind_fault r.kind n r.len || ltb 8 r.len) (e ∙ ap (some (λ x. eqb x r.rank)) are ∙ some-map (λ k. k.rank) (λ x. eqb x r.rank) ks) n

    pub names_of : some (λ f. not (ltb f.row i)) (def_of r) ≡ names
    names_of = ap (λ m. some (λ f. not (ltb f.row m)) (def_of r)) at

or_true : (b : Bool) → (b || true) ≡ true
or_true true = refl
or_true false = refl

module _ (ss : List Slot) (ks : List Facts) (r : Row) where
  pub early_fault : early ks r ≡ true → row_facts ss ks r ≡ Err TABLE
  unfolding row_facts table_fault unless
  early_fault h = rw h

  pub name_fault : names ks r ≡ true → row_facts ss ks r ≡ Err TABLE
  unfolding row_facts table_fault unless
  name_fault h = rw (h, or_true)

  module _ (e : early ks r ≡ false) (n : names ks r ≡ false) where
    pub shape_fault : some factor_fault (def_of r) ≡ true → row_facts ss ks r ≡ Err SHAPE
    unfolding row_facts table_fault unless
    shape_fault h = rw (e, n, h)

    pub sound_row : some factor_fault (def_of r) ≡ false → row_facts ss ks r ≡ worked_out ss ks r
    unfolding row_facts table_fault unless
    sound_row h = rw (e, n, h)

  -- a base row that is let in is at most the sixteenth
  pub few : (k : Facts) → row_facts ss ks r ≡ Ok k → r.kind ≡ Base → count ks ≤ 15
  unfolding kind_fault table_fault
  few k e b =
      let t : table_fault ks r ≡ false = (take_out (filled.known ss ks r) e).table in
      let f : kind_fault r.kind (count ks) r.len ≡ false = or_right (some (λ k. eqb k.rank r.rank) ks) _ (or_left _ (ltb 8 r.len) (or_left (early ks r) _ t)) in
      ltb-false 15 (count ks) (or_left (ltb 15 (count ks)) _ (ap (λ (t : Kind). kind_fault t (count ks) r.len) (sym b) ∙ f))

  -- ---- one row more, in the arrays
  module _ (nums : List ℤ) (dens : List ℕ) (scales : List Float) (ranks : List ℕ) (based : List Bool) where
    -- after a refusal they tell nothing
    pub row_refused : (w : Refusal) → row_facts ss ks r ≡ Err w → RowIn ss ks r (Err w) nums dens scales ranks based
    row_refused w q = (sym (ap tested q), λ k e. absurd (clash (sym e ∙ q)))

    module _ (sound : row_facts ss ks r ≡ worked_out ss ks r) where
      pub work_refused : (w : Refusal) → Err w ≡ worked_of (worked_out ss ks r) → RowIn ss ks r (Err w) nums dens scales ranks based
      work_refused w h = row_refused w (sound ∙ apply_refuses known_of (worked_out ss ks r) w (sym h))

      pub work_stored : (w : Known) → Ok w ≡ worked_of (worked_out ss ks r) → (i : ℕ) → i ≡ length ks → i < 128 → length ss ≤ 16 → Room nums dens scales ranks based → Paged ks nums dens scales ranks based
          → RowIn ss ks r (Ok tt) (sets nums (i * 16) (tops w.exps)) (sets dens (i * 16) (bottoms w.exps)) (set scales i w.scale) (set ranks i w.rank) (set based i w.base)
      unfolding known_of
      work_stored w is i at h s room p = (answered (worked_out ss ks r) is ∙ sym (ap tested sound), stored)
        where
          answered : (o : Outcome Facts) → Ok w ≡ worked_of o → Ok tt ≡ tested o
          answered (Ok k) e = refl
          answered (Err r) e = absurd (clash e)

          stored : (k : Facts) → row_facts ss ks r ≡ Ok k
              → Paged (ks ++ (k ∷ [])) (sets nums (i * 16) (tops w.exps)) (sets dens (i * 16) (bottoms w.exps)) (set scales i w.scale) (set ranks i w.rank) (set based i w.base)
          stored k e =
              let fact = take_out (filled.known ss ks r) e in
              let long : length k.exps ≡ length ss = (take_out (row_sound r.kind ss ks r) fact.exps).sized in
              let known : w ≡ known_of k = one_answer (is ∙ ap worked_of (sym sound ∙ e)) in
              subst (λ (x : Known). Paged (ks ++ (k ∷ [])) (sets nums (i * 16) (tops x.exps)) (sets dens (i * 16) (bottoms x.exps)) (set scales i x.scale) (set ranks i x.rank) (set based i x.base)) (sym known)
              (subst (λ j. Paged (ks ++ (k ∷ [])) (sets nums (j * 16) (tops (known_of k).exps)) (sets dens (j * 16) (bottoms (known_of k).exps)) (set scales j k.scale) (set ranks j k.rank) (set based j k.base)) (sym at)
              (paged_more ks k nums dens scales ranks based room p (omega arith) (omega arith)))
