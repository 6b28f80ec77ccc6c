-- What a conversion takes by any rules (02, order 5): nothing where it keeps its value, else what the factors of the two scales take; both merged (02, order 3) have no more factors than their lists.
use mathlib.Core.Path.{◌≡◌, refl, sym, ◌∙◌}
use mathlib.Core.Bool.{Bool, true, false, ◌||◌, true≢false}
use mathlib.Core.List.{List, map}
use Prim.Native.Nat.{ℕ, ◌+◌, ◌*◌, ◌≤◌, Ordering}
use native.Mathlib.Omega.{arith}
use lib.Ieee.{Float}
use lib.ListN.{length}
use Rattle.exponents.specs.Outcome.{Outcome, Ok}
use Rattle.exponents.proofs.Holds.{Holds, moot, held, take_out, holds_eq, holds_map, holds_bind}
use Rattle.floats.specs.declared.Tally.{Tally}
use Rattle.units.specs.declared.Factor.{Factor}
use Rattle.units.specs.Lists.{factor_fault, some, inverted}
use Rattle.tables.specs.Order.{Atom}
use Rattle.tables.specs.Rules.{Rules, counted}
use Rattle.canonical.specs.Canonical.{canon, same_list}
use Rattle.canonical.proofs.Keeping.{canon_kept}
use Rattle.canonical.proofs.Judged.{canon_short}
use Rattle.canonical.proofs.Total.{Weak}
use Rattle.common.specs.Common.{common, over}
use Rattle.common.specs.Held.{lessen}
use Rattle.common.proofs.Shaped.{lessen_kept, lessen_short}
use Rattle.common.proofs.Merging.{over_common, own_common}
use Rattle.conversion.specs.Conversion.{judged, choose, rescaled, against, unlike, convert_by}
use Rattle.countpromises.proofs.Costs.{costs, costs_most, scale_holds}

-- ---- lists of at most n factors that keep their rule
pub record Short (n : ℕ) (l : List Factor) : Type 0 where
  pub few : length l ≤ n
  pub kept : some factor_fault l ≡ false

pub short_costs : (n : ℕ) (l : List Factor) → Short n l → costs l ≤ 80 * n
short_costs n l s = costs_most n l s.few s.kept

module _ (cmp : Atom → Atom → Ordering) (n : ℕ) where
  pub form_short : (l c : List Factor) → canon cmp l ≡ Ok c → Short n l → Short n c
  form_short l c e s = record { few = omega (arith, s.few, take_out (canon_short cmp l) e); kept = take_out (canon_kept cmp l s.kept) e }

  pub lessened_short : (c xs t : List Factor) → lessen cmp c xs ≡ Ok t → Short n c → Short n t
  lessened_short c xs t e s = record { few = omega (arith, s.few, take_out (lessen_short cmp c xs) e); kept = take_out (lessen_kept cmp c xs s.kept) e }

-- ---- what an answer takes
module _ (R : Rules Float) (ready : List Factor → Outcome (List Factor)) (l m : List Factor) (x : Tally) where
  -- the shortcuts, of canonical forms: a zero, or equal lists
  abbrev pub shortcut : List Factor → List Factor → Bool
  shortcut cl cm = R.numbers.is_zero x.value || same_list R.order cl cm

  -- own and t are what the two scales are taken of: the own list over the common factors, made ready, and the target over them, merged
  pub record Scaled (own t : List Factor) : Type 0 where
    pub cl : List Factor
    pub cm : List Factor
    pub own_form : canon R.order l ≡ Ok cl
    pub target_form : canon R.order m ≡ Ok cm
    pub moves : shortcut cl cm ≡ false
    pub own_is : ready (over l (common R.order cl cm)) ≡ Ok own
    pub target_is : canon R.order (over m (common R.order cl cm)) ≡ Ok t

  -- n is the count: what it was, by a shortcut, or that and what all factors of both take
  pub data Took (n : ℕ) : Type 0 where
    kept : (cl cm : List Factor) → canon R.order l ≡ Ok cl → canon R.order m ≡ Ok cm → shortcut cl cm ≡ true → n ≡ x.count → Took n
    scaled : (own t : List Factor) → Scaled own t → n ≡ x.count + (costs own + costs t) → Took n

  abbrev Right : Outcome Tally → Type 0
  Right = Holds (λ w. Took w.count)

  chosen : (b : Bool) (o : Outcome Tally) → (b ≡ true → Took x.count) → (b ≡ false → Right o) → Right (choose b x o)
  unfolding choose
  chosen true o h k = held {a = x} (h refl)
  chosen false o h k = k refl

  judging : (b : Bool) (o : Outcome Tally) → Right o → Right (judged b o)
  unfolding judged
  judging true o h = h
  judging false o h = moot

  -- THEOREM (02, order 5): the count of every answer, exactly
  pub took : Holds (λ w. Took w.count) (convert_by (counted R) ready l m x)
  unfolding convert_by unlike against rescaled
  took =
      holds_bind _ (holds_eq (canon R.order l)) λ cl el.
      holds_bind _ (holds_eq (canon R.order m)) λ cm em.
      chosen _ _ (λ e. kept cl cm el em e refl) λ e.
      holds_bind _ (holds_eq (ready (over l (common R.order cl cm)))) λ own eo.
      holds_bind _ (holds_eq _) λ xs _.
      holds_bind _ (holds_eq (canon R.order (over m (common R.order cl cm)))) λ t et.
      holds_bind _ (holds_eq _) λ ys _.
      judging _ _
      (holds_bind _ (scale_holds R.numbers R.size (counted R).numbers.one own) λ s es.
      holds_map _ (scale_holds R.numbers R.size (counted R).numbers.one t) λ u eu.
      scaled own t (record { cl = cl; cm = cm; own_form = el; target_form = em; moves = e; own_is = eo; target_is = et }) (omega arith))

  -- by a shortcut nothing is counted
  abbrev pub Stays : Type 0
  Stays = (cl cm : List Factor) → canon R.order l ≡ Ok cl → canon R.order m ≡ Ok cm → shortcut cl cm ≡ true

  pub stays : Stays → (n : ℕ) → Took n → n ≡ x.count
  stays h n (kept cl cm el em e p) = p
  stays h n (scaled own t s p) = absurd (true≢false (sym (h s.cl s.cm s.own_form s.target_form) ∙ s.moves))

  -- the target over the common factors, merged, is what is left of its form
  pub target_lessened : Weak R.order → {own t : List Factor} (s : Scaled own t) → lessen R.order s.cm (map inverted (common R.order s.cl s.cm)) ≡ Ok t
  target_lessened O s = sym (over_common R.order O l m s.cl s.cm s.own_form s.target_form) ∙ s.target_is

-- ---- by order 3's rule both scales have at most as many factors as the lists: k
pub merged-most : (R : Rules Float) → Weak R.order → (k : ℕ) (l m : List Factor) → Short k l → Short k m → (x : Tally) (n : ℕ) → Took R (canon R.order) l m x n → n ≤ x.count + 160 * k
merged-most R O k l m sl sm x n (kept cl cm el em e p) = omega arith
merged-most R O k l m sl sm x n (scaled own t s p) =
    omega (
      arith,
      short_costs k own (lessened_short R.order k s.cl _ own (sym (own_common R.order O l s.cl s.cm s.own_form) ∙ s.own_is) (form_short R.order k l s.cl s.own_form sl)),
      short_costs k t (lessened_short R.order k s.cm _ t (target_lessened R (canon R.order) l m x O s) (form_short R.order k m s.cm s.target_form sm)),
    )
