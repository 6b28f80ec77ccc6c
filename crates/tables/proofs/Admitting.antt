-- The admission of a list of rows, one after the other: how far a loop has come, what stops it, and one row more. Where the rows come from is the loop's own matter.
use mathlib.Core.Path.{◌≡◌, refl, sym, ap, ap₂, ◌∙◌, subst}
use mathlib.Core.Bool.{Bool, true, false}
use mathlib.Core.List.{List, [], ◌∷◌, ◌++◌}
use Prim.Native.Nat.{ℕ, suc, ◌+◌, ◌≤◌, ◌<◌}
use native.Mathlib.Omega.{arith}
use lib.IntN.{ℤ}
use lib.Ieee.{Float}
use lib.ListN.{length, drop, length-append, drop_of_length-le}
use borrow.Author.Tests.{lt-ltb, le-ltb}
use Rattle.std.specs.Prelude.{Result}
use Rattle.exponents.specs.Outcome.{Refusal, TABLE, Outcome, Ok, Err}
use Rattle.exponents.proofs.Holds.{take_out}
use Rattle.exponents.proofs.Numbers.{answers, refuses}
use Rattle.units.specs.declared.Kind.{Kind}
use Rattle.units.specs.declared.Kind.TheVariants.{Base, Derived}
use Rattle.units.specs.declared.Row.{Row}
use Rattle.units.specs.declared.Rows.{Rows}
use Rattle.tables.specs.declared.Slot.{Slot}
use Rattle.tables.specs.declared.Slots.{Slots}
use Rattle.tables.specs.declared.Admitted.{Admitted}
use Rattle.tables.specs.declared.Rejected.{Rejected}
use Rattle.exponents.specs.Words.{pick}
use Rattle.tables.specs.Rows.{Facts, slots, is_base, count, row_facts, Admission, admitted, stopped, admit_on, admit_from, rows_of, admit}
use Rattle.tables.specs.Held.{counted, pack_slots, Blank, Paged, Pages, RowIn, admitted_of}
use Rattle.tables.proofs.Filled as filled
use Rattle.tables.proofs.Entering.{few}
use Rattle.tables.proofs.Storing.{paged_none}

-- what is known of the rows before i
pub record Admitting (ss : List Slot) (rs : List Row) (bases i : ℕ) (nums : List ℤ) (dens : List ℕ) (scales : List Float) (ranks : List ℕ) (based : List Bool) : Type 0 where
  pub ks : List Facts
  pub at : i ≡ length ks
  pub bases-are : bases ≡ count ks
  pub few : bases ≤ 16
  pub paged : Paged ks nums dens scales ranks based
  pub left : admit_from ss ks (drop i rs) ≡ admit_from ss [] rs

pub admitting_none : (ss : List Slot) (rs : List Row) (nums : List ℤ) (dens : List ℕ) (scales : List Float) (ranks : List ℕ) (based : List Bool) → Blank 0 nums dens → Admitting ss rs 0 0 nums dens scales ranks based
unfolding count
admitting_none ss rs nums dens scales ranks based b = record { ks = []; at = refl; bases-are = refl; few = omega arith; paged = paged_none nums dens scales ranks based b; left = refl }

-- ---- how many base rows there are with one row more
count-more : (ks : List Facts) (k : Facts) → count (ks ++ (k ∷ [])) ≡ pick k.base (count ks + 1) (count ks)
unfolding count
count-more [] k = go k.base
  where
    go : (t : Bool) → pick t (suc 0) 0 ≡ pick t (0 + 1) 0
    go true = refl
    go false = refl
count-more (j ∷ ks) k = ap (λ n. pick j.base (suc n) n) (count-more ks k) ∙ go j.base k.base (count ks)
  where
    go : (s t : Bool) (n : ℕ) → pick s (suc (pick t (n + 1) n)) (pick t (n + 1) n) ≡ pick t (pick s (suc n) n + 1) (pick s (suc n) n)
    go true true n = omega arith
    go true false n = refl
    go false true n = refl
    go false false n = refl

counted_is : (k : Kind) (n : ℕ) → counted k n ≡ pick (is_base k) (n + 1) n
unfolding counted is_base
counted_is Base n = refl
counted_is (Derived f) n = refl

few_more : (k : Kind) (n : ℕ) → n ≤ 16 → (k ≡ Base → n ≤ 15) → counted k n ≤ 16
unfolding counted
few_more Base n h f = omega (arith, f refl)
few_more (Derived f) n h g = h

-- ---- what a call answers of its arrays
-- an admission's value, and the five arrays after it
abbrev pub Tells : List Slot → Admission → Result Admitted Rejected → List ℤ → List ℕ → List Float → List ℕ → List Bool → Type 0
Tells ss a r nums dens scales ranks based = (r ≡ admitted_of ss a) × Pages a nums dens scales ranks based

-- the admission of a table of at most 128 rows is that of its rows
pub within : (rows : Rows) → rows.len ≤ 128 → admit rows ≡ admit_from (slots (rows_of rows)) [] (rows_of rows)
unfolding admit
within rows h = rw (le-ltb 128 rows.len h)

pub over : (rows : Rows) → 128 < rows.len → admit rows ≡ stopped TABLE []
unfolding admit
over rows h = rw (lt-ltb 128 rows.len h)

-- ---- the loop
module _ (ss : List Slot) (rs : List Row) (bases i : ℕ) (nums : List ℤ) (dens : List ℕ) (scales : List Float) (ranks : List ℕ) (based : List Bool)
    (a : Admitting ss rs bases i nums dens scales ranks based) where
  -- all rows are in
  pub admitting_end : length rs ≤ i → (o : Slots) → o ≡ pack_slots ss → Tells ss (admit_from ss [] rs) (Ok (record { slots = o; len = i })) nums dens scales ranks based
  unfolding admit_from
  admitting_end h o e =
      let done : admit_from ss [] rs ≡ admitted a.ks = sym a.left ∙ ap (admit_from ss a.ks) (drop_of_length-le rs {i = i} h) in
      (ap₂ (λ (s : Slots) (n : ℕ). Ok (record { slots = s; len = n })) e a.at ∙ sym (ap (admitted_of ss) done), subst (λ x. Pages x nums dens scales ranks based) (sym done) a.paged)

  -- row i, what the code has answered of it, and the arrays after it
  module _ (r : Row) (here : drop i rs ≡ r ∷ drop (i + 1) rs) (o : Outcome (Unit {0})) (nums' : List ℤ) (dens' : List ℕ) (scales' : List Float) (ranks' : List ℕ) (based' : List Bool)
      (row_in : RowIn ss a.ks r o nums' dens' scales' ranks' based') where
    next : admit_from ss [] rs ≡ admit_on (row_facts ss a.ks r) a.ks (λ k. admit_from ss (a.ks ++ (k ∷ [])) (drop (i + 1) rs))
    unfolding admit_from
    next = sym a.left ∙ ap (admit_from ss a.ks) here

    -- the row's refusal is the table's
    pub admitting_off : (w : Refusal) → o ≡ Err w → Tells ss (admit_from ss [] rs) (Err (record { refusal = w; len = i })) nums' dens' scales' ranks' based'
    admitting_off w h =
        let q = refuses (row_facts ss a.ks r) w (sym h ∙ row_in.0) in
        let is : admit_from ss [] rs ≡ stopped w a.ks = next ∙ ap (λ o. admit_on o a.ks (λ k. admit_from ss (a.ks ++ (k ∷ [])) (drop (i + 1) rs))) q in (
          ap (λ (m : ℕ). Err (record { refusal = w; len = m })) a.at ∙ sym (ap (admitted_of ss) is),
          subst (λ x. Pages x nums' dens' scales' ranks' based') (sym is) tt,
        )

    pub admitting_on : (u : Unit {0}) → o ≡ Ok u → (m : ℕ) → m ≡ counted r.kind bases → Admitting ss rs m (i + 1) nums' dens' scales' ranks' based'
    unfolding admit_from
    admitting_on u z m e =
        let g = answers (row_facts ss a.ks r) u (sym z ∙ row_in.0) in
        let k = g.answer in
        let fact = take_out (filled.known ss a.ks r) g.is in
        record {
          ks = a.ks ++ (k ∷ []);
          at = simp length-append (omega (arith, a.at));
          bases-are = e ∙ counted_is r.kind bases ∙ ap₂ (λ (t : Bool) (n : ℕ). pick t (n + 1) n) (sym fact.base) a.bases-are ∙ sym (count-more a.ks k);
          few = subst (λ (n : ℕ). n ≤ 16) (sym e) (few_more r.kind bases a.few (λ b. subst (λ (n : ℕ). n ≤ 15) (sym a.bases-are) (few ss a.ks r k g.is b)));
          paged = row_in.1 k g.is;
          left = sym (next ∙ ap (λ o. admit_on o a.ks (λ k. admit_from ss (a.ks ++ (k ∷ [])) (drop (i + 1) rs))) g.is);
        }
