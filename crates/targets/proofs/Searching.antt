-- The search for a factor that a list is a whole power of, turn by turn: what one factor's answer means for all, and how an answer is handed over.
use mathlib.Core.Path.{◌≡◌, refl, sym, ap, ap₂, ◌∙◌}
use mathlib.Core.Bool.{Bool, true, false, ◌&&◌, false≢true}
use mathlib.Core.List.{List, [], ◌∷◌}
use Prim.Native.Nat.{ℕ, ◌+◌, ◌≤◌, ◌<◌}
use native.Mathlib.Omega.{arith}
use lib.Dec.{eqb}
use lib.IntN.{ℤ}
use lib.ListN.{length, drop, get_or, drop_of_length-le}
use Rattle.std.specs.declared.option.Option.{Option}
use Rattle.std.specs.declared.option.Option.TheVariants.{Some, None}
use Rattle.exponents.specs.Outcome.{Refusal, Outcome, Ok, Err, bind}
use Rattle.exponents.specs.Fractions.{nought, unit, same, faulty, div?}
use Rattle.exponents.specs.Held.{worked}
use Rattle.exponents.specs.declared.Exponent.{Exponent}
use Rattle.exponents.proofs.Holds.{bind_given, bind_refused}
use Rattle.exponents.proofs.Numbers.{apply_answers, apply_refuses}
use Rattle.exponents.proofs.Following.{bind_bind}
use Rattle.units.specs.declared.Factor.{Factor}
use Rattle.units.specs.Lists.{no_factor}
use Rattle.tables.specs.declared.Item.{Item}
use Rattle.tables.specs.declared.Items.{Items}
use Rattle.tables.specs.Lists.{base}
use Rattle.exponents.specs.Words.{pick}
use Rattle.tables.specs.Held.{pack_exps, exps_of, View, view_bases, item_of, pack_items, packed, Resolved, Lends}
use Rattle.exponents.proofs.Places.{rest}
use Rattle.tables.specs.Order.{atom, of}
use Rattle.canonical.specs.Canonical.{same_all}
use Rattle.canonical.specs.Held.{with_factor, form_of}
use Rattle.reduction.specs.Multiple.{Maybe, times, none, first_base, fits, multiple_of, is_multiple}
use Rattle.reduction.proofs.Fitting.{at_first, all-zero, not_all-zero, quotient_sound, fits_from, fits_all, fits_not, multiple_scalar, multiple-zero, multiple_range, multiple-fits}
use Rattle.reduction.proofs.Handed.{base_long}
use Rattle.reduction.proofs.Resolved.{item_at}
use Rattle.reduction.proofs.Widened.{packed-multiple}
use Rattle.targets.specs.Held.{listed}
use Rattle.targets.specs.Single.{wholly, search}
use Rattle.targets.proofs.Grouping.{one_item}

-- ---- how an answer is handed over
module _ (v : View) {o : Outcome (List Factor)} where
  pub answer_none : (l : Items) → l ≡ packed [] → o ≡ Ok [] → ◌≡◌ {A = Outcome Items} (Ok l) (form_of v o)
  unfolding packed pack_items
  answer_none l p e = ap Ok p ∙ sym (ap (form_of v) e)

  pub answer_one : (l : Items) (it : Item) (f : Factor) → l ≡ packed (it ∷ []) → it ≡ item_of v f → o ≡ Ok (f ∷ []) → ◌≡◌ {A = Outcome Items} (Ok l) (form_of v o)
  answer_one l it f p q e = ap Ok (p ∙ one_item v f it q) ∙ sym (ap (form_of v) e)

  pub answer_refused : (r : Refusal) → o ≡ Err r → ◌≡◌ {A = Outcome Items} (Err r) (form_of v o)
  answer_refused r e = sym (ap (form_of v) e)

-- the search has ended: with nothing, or with the item of one factor
pub data Ended (v : View) (o : Outcome (List Factor)) : Option Item → Type 0 where
  nothing : o ≡ Ok [] → Ended v o None
  one : {it : Item} (f : Factor) → it ≡ item_of v f → o ≡ Ok (f ∷ []) → Ended v o (Some it)

pub ended : {v : View} {o : Outcome (List Factor)} {found : Option Item} → Ended v o found → (l : Items) → l ≡ packed (listed found) → ◌≡◌ {A = Outcome Items} (Ok l) (form_of v o)
ended {v} (nothing e) l p = answer_none v l p e
ended {v} (one {it = it} f q e) l p = answer_one v l it f p q e

-- ---- the test that ends the products
pub last_off : (t u w : Bool) → ((t && u) && w) ≡ false → t ≡ true → (u && w) ≡ false
last_off true u w h e = h
last_off false u w h e = absurd (false≢true e)

pub last_on : (t u w : Bool) → ((t && u) && w) ≡ true → (t ≡ true) × (u ≡ true) × (w ≡ true)
last_on true true true h = (refl, refl, refl)
last_on true true false h = absurd (false≢true h)
last_on true false w h = absurd (false≢true h)
last_on false u w h = absurd (false≢true h)

pub unit_rule : faulty unit ≡ false
unfolding worked
unit_rule = refl

-- the quotient of what a and b have at place i decides on the multiple
pub record Division (a b : List Exponent) (i : ℕ) (dy : Exponent) : Type 0 where
  pub ends : (dx : Exponent) (r : Refusal) → Err r ≡ div? (get_or a i dx) (get_or b i dy) → Err r ≡ multiple_of a b
  pub goes_on : (dx q : Exponent) → Ok q ≡ div? (get_or a i dx) (get_or b i dy) → fits a b q ≡ multiple_of a b
  pub rule : (dx q : Exponent) → Ok q ≡ div? (get_or a i dx) (get_or b i dy) → faulty q ≡ false

-- ---- one factor's multiple by the code's tests: a are the list's base exponents, b the factor's, i is a's first base
module _ (a b : List Exponent) (apart : same_all a b ≡ false) (i : ℕ) (first : i ≡ first_base a) (la : length a ≡ 16) (lb : length b ≡ 16) where
  pub by_scalar : 16 ≤ i → Ok none ≡ multiple_of a b
  by_scalar h = multiple_scalar a b apart (all-zero a (omega arith))

  module _ (h : i < 16) (dy : Exponent) where
    pub by_zero : same (get_or b i dy) nought ≡ true → Ok none ≡ multiple_of a b
    by_zero e = multiple-zero a b apart (ap (λ y. same y nought) (sym (at_first b a i dy first (omega arith))) ∙ e)

    module _ (e : same (get_or b i dy) nought ≡ false) where
      there : same (get_or b (first_base a) nought) nought ≡ false
      there = ap (λ y. same y nought) (sym (at_first b a i dy first (omega arith))) ∙ e

      divided : (dx : Exponent) → div? (get_or a i dx) (get_or b i dy) ≡ div? (get_or a (first_base a) nought) (get_or b (first_base a) nought)
      divided dx = ap₂ div? (at_first a a i dx first (omega arith)) (at_first b a i dy first (omega arith))

      pub by_division : Division a b i dy
      by_division = record {
        ends = λ dx r p. multiple_range a b apart (not_all-zero a (omega arith)) there r (sym (p ∙ divided dx));
        goes_on = λ dx q p. multiple-fits a b apart (not_all-zero a (omega arith)) there q (sym (p ∙ divided dx));
        rule = λ dx q p. quotient_sound _ _ q (sym p);
      }

-- ---- what the code has: the arrays, the list c, and its base exponents x
pub record Had (v : View) (n : ℕ) (nums : List ℤ) (dens : List ℕ) (c : Items) (x : List Exponent) (cs : List Factor) (xs : List Exponent) : Type 0 where
  pub lends : Lends v n nums dens
  pub list : Resolved v c cs
  pub exps : x ≡ pack_exps xs
  pub based : base (view_bases v n) cs ≡ Ok xs

-- the factor at place i, to the exponent q
abbrev pub single : List Factor → ℕ → Exponent → Factor
single cs i q = of (atom (get_or cs i no_factor)) q

-- what the search gives from place i on, and for the whole list
abbrev pub from : View → ℕ → List Factor → ℕ → Outcome (List Factor)
from v n cs i = search (view_bases v n) cs (drop i cs)

abbrev pub whole : View → ℕ → List Factor → Outcome (List Factor)
whole v n cs = search (view_bases v n) cs cs

-- ---- one turn: no factor before i fits
pub record Turn (v : View) (n : ℕ) (cs : List Factor) (i : ℕ) : Type 0 where
  pub so_far : from v n cs i ≡ whole v n cs
  pub here : i < length cs

-- the base exponents of the one at i
abbrev pub own : View → ℕ → List Factor → ℕ → Outcome (List Exponent)
own v n cs i = base (view_bases v n) (single cs i unit ∷ [])

module _ {v : View} {n : ℕ} {nums : List ℤ} {dens : List ℕ} {c : Items} {x : List Exponent} {cs : List Factor} {xs : List Exponent} (g : Had v n nums dens c x cs xs) where
  -- the item read, at an exponent
  pub item_is : (i : ℕ) (d it : Item) (q : Exponent) → i < length cs → it ≡ with_factor (get_or c.at i d) (of (atom (get_or c.at i d).factor) q) → it ≡ item_of v (single cs i q)
  item_is i d it q h e = e ∙ ap (λ (y : Item). with_factor y (of (atom y.factor) q)) (item_at v c cs g.list.is i d no_factor h)

  module _ {i : ℕ} (t : Turn v n cs i) where
    abbrev next : Maybe → Outcome (List Factor)
    next m = wholly (get_or cs i no_factor) m (from v n cs (i + 1))

    asked : whole v n cs ≡ bind (own v n cs i) (λ ys. bind (multiple_of xs ys) next)
    unfolding search is_multiple
    asked =
        sym t.so_far
        ∙ ap (search (view_bases v n) cs) (rest cs no_factor i t.here)
        ∙ ap (λ o. bind o next) (bind_given (λ xs. bind (own v n cs i) (λ ys. multiple_of xs ys)) g.based)
        ∙ bind_bind (own v n cs i) (λ ys. multiple_of xs ys) next

    pub base_off : (r : Refusal) → ◌≡◌ {A = Outcome (List Exponent)} (Err r) (exps_of (own v n cs i)) → ◌≡◌ {A = Outcome Items} (Err r) (form_of v (whole v n cs))
    base_off r e = answer_refused v r (asked ∙ bind_refused _ (apply_refuses pack_exps (own v n cs i) r (sym e)))

    module _ {b : List Exponent} (is : ◌≡◌ {A = Outcome (List Exponent)} (Ok b) (exps_of (own v n cs i))) where
      tried : whole v n cs ≡ bind (multiple_of x b) next
      tried =
          let a = apply_answers pack_exps (own v n cs i) b (sym is) in
          let long : length xs ≡ length a.answer = base_long v n cs xs g.based ∙ sym (base_long v n (single cs i unit ∷ []) a.answer a.is) in
          asked ∙ bind_given _ a.is ∙ ap (λ o. bind o next) (sym (ap₂ multiple_of g.exps (sym a.made) ∙ packed-multiple xs a.answer long))

      pub multiple_off : (r : Refusal) → Err r ≡ multiple_of x b → ◌≡◌ {A = Outcome Items} (Err r) (form_of v (whole v n cs))
      multiple_off r e = answer_refused v r (tried ∙ bind_refused next (sym e))

      -- none
      pub passed : Ok none ≡ multiple_of x b → from v n cs (i + 1) ≡ whole v n cs
      unfolding wholly
      passed e = sym (tried ∙ bind_given next (sym e))

      -- one that is whole, or isn't
      module _ (q : Exponent) (e : Ok (times q) ≡ multiple_of x b) where
        decided : whole v n cs ≡ pick (eqb q.den 1) (Ok (single cs i q ∷ [])) (from v n cs (i + 1))
        unfolding wholly
        decided = tried ∙ bind_given next (sym e)

        pub found : eqb q.den 1 ≡ true → whole v n cs ≡ Ok (single cs i q ∷ [])
        found w = decided ∙ ap (λ u. pick u (Ok (single cs i q ∷ [])) (from v n cs (i + 1))) w

        broken : eqb q.den 1 ≡ false → from v n cs (i + 1) ≡ whole v n cs
        broken w = sym (decided ∙ ap (λ u. pick u (Ok (single cs i q ∷ [])) (from v n cs (i + 1))) w)

      -- all products worked out: u tells whether they were the list's
      module _ (q : Exponent) (e : fits x b q ≡ multiple_of x b) (k : ℕ) (hx : length x ≤ k) (hy : length b ≤ k) where
        pub fits_found : (u : Bool) → fits_from u (drop k x) (drop k b) q ≡ fits x b q → u ≡ true → eqb q.den 1 ≡ true → whole v n cs ≡ Ok (single cs i q ∷ [])
        fits_found u so_far p w = found q (fits_all x b q u k so_far hx hy p ∙ e) w

        pub fits_passed : (u : Bool) → fits_from u (drop k x) (drop k b) q ≡ fits x b q → (u && eqb q.den 1) ≡ false → from v n cs (i + 1) ≡ whole v n cs
        fits_passed true so_far w = broken q (fits_all x b q true k so_far hx hy refl ∙ e) w
        fits_passed false so_far w = passed (fits_not x b q false k so_far hx hy refl ∙ e)

-- ---- none is left
pub none_left : (v : View) (n : ℕ) (cs : List Factor) (i : ℕ) → from v n cs i ≡ whole v n cs → length cs ≤ i → whole v n cs ≡ Ok []
unfolding search
none_left v n cs i so_far h = sym so_far ∙ ap (search (view_bases v n) cs) (drop_of_length-le cs {i = i} h)
