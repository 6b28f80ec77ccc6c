-- What simplification answers is a list that calls take: what holds of the given factors, whatever exponents within the rule they have, holds of those answered; and these are no more than those given.
use mathlib.Core.Path.{◌≡◌}
use mathlib.Core.Bool.{false}
use mathlib.Core.List.{List, [], ◌∷◌}
use Prim.Native.Nat.{ℕ, suc, ◌+◌, ◌≤◌, ◌<◌}
use native.Mathlib.Omega.{arith}
use lib.Dec.{eqb, ltb}
use lib.Ieee.{Float}
use lib.ListN.{length, length-append, length-take}
use borrow.Author.Tests.{ltb-true, ltb-false, le-ltb, not-false}
use Rattle.exponents.specs.Outcome.{Outcome, Ok, Err, SHAPE, UNKNOWN, UNITS, number, unless}
use Rattle.exponents.specs.Fractions.{faulty}
use Rattle.exponents.specs.declared.Exponent.{Exponent}
use Rattle.exponents.proofs.Holds.{holds_all, Holds, moot, held, holds_by, holds_imp, holds_both, holds_unless, holds_map, holds_bind, take_out}
use Rattle.exponents.proofs.InRange.{or_left, or_right}
use Rattle.exponents.proofs.Sound.{add_sound}
use Rattle.floats.specs.Power.{one}
use Rattle.units.specs.declared.Factor.{Factor}
use Rattle.units.specs.declared.Factors.{Factors}
use Rattle.units.specs.Lists.{list_of, pack, factor_fault, some, unknown, checked}
use Rattle.units.proofs.Laws.{list_pack, len_pack}
use Rattle.exponents.proofs.Each.{all_imp}
use Rattle.exponents.specs.Words.{All}
use Rattle.tables.specs.Order.{atom, of}
use Rattle.canonical.specs.Canonical.{canon}
use Rattle.exponents.proofs.Words.{pick_is}
use Rattle.canonical.proofs.Keeping.{all_append, each_faultless, none_faulty, Kept, kept_with, canon_keeps}
use Rattle.canonical.proofs.Judged.{canon_short}
use Rattle.targets.specs.Groups.{groups}
use Rattle.targets.proofs.Within.{Within, none_within, groups_parted, single_within, target_within}
use Rattle.tables.specs.Rules.{Rules}
use Rattle.conversion.specs.Conversion.{convert}
use Rattle.simplification.specs.Steps.{Amount, go_on, attempt, grown, converted, by_groups, toward, further, simplify}

-- ---- from step to step: what holds of each answer of a conversion, and of what follows after UNITS
pub attempt_holds : (P : Amount → Type 0) (o : Outcome Float) (m : List Factor) (next : Outcome Amount) → Holds (λ x. P (x, m)) o → Holds P next → Holds P (attempt o m next)
unfolding attempt go_on
attempt_holds P (Ok x) m next (held h) k = held h
attempt_holds P (Err r) m next h k = pick_is (Holds P) (eqb (number r) (number UNITS)) k moot

pub toward_holds : (P : Amount → Type 0) (R : Rules Float) (v : Float) (l m : List Factor) (next : Outcome Amount) → Holds (λ x. P (x, m)) (convert R l m v) → Holds P next → Holds P (toward R v l m next)
unfolding toward
toward_holds P R v l [] next h k = k
toward_holds P R v l (f ∷ m) next h k = attempt_holds P (convert R l (f ∷ m) v) (f ∷ m) next h k

-- ---- the three steps, where Q holds of a factor whatever exponent within the rule it has
module _ (Q : Factor → Type 0) (stays : (f : Factor) (e : Exponent) → Q f → faulty e ≡ false → Q (of (atom f) e)) (R : Rules Float) where
  abbrev Lists : ℕ → Amount → Type 0
  Lists n a = Within Q n a.1

  pub canon_within : (n : ℕ) (l : List Factor) → Within Q n l → Holds (Within Q n) (canon R.order l)
  canon_within n l h =
      holds_imp (holds_both (canon_short R.order l) (canon_keeps Q R.order (λ x y _ p q. holds_imp (add_sound y.exponent x.exponent) (λ e. stays y e q)) l h.1))
      λ c k. (omega (arith, h.0, k.0), k.1)

  pub grown_within : (n : ℕ) (s : Float) (u g : List Factor) → Within Q n u → All Q g → Holds (Lists (suc n)) (grown R s u g)
  unfolding grown
  grown_within n s u g h k =
      holds_bind _ (target_within Q stays R g k) λ m p. holds_all _ (convert R g m one) λ x.
      (omega (arith, length-append u m, h.0, p.0), all_append Q u m h.1 p.1)

  converted_within : (n m : ℕ) (s : Float) (u : List Factor) (gs : List (List Factor)) → Within Q m u → m + length gs ≤ n → All (All Q) gs → Holds (Lists n) (converted R s u gs)
  unfolding converted
  converted_within n m s u [] h e k = holds_map _ (canon_within n u (omega (arith, h.0), h.1)) λ c p. p
  converted_within n m s u (g ∷ gs) h e k = holds_bind _ (grown_within m s u g h k.0) λ p q. converted_within n (suc m) p.0 p.1 gs q (omega arith) k.1

  by_groups_within : (n : ℕ) (v : Float) (c : List Factor) → Within Q n c → Holds (Lists n) (by_groups R v c)
  unfolding by_groups
  by_groups_within n v c h =
      let g = groups_parted Q R.alike c h.1 in
      holds_map _ (converted_within n 0 one [] (groups R.alike c) (none_within Q 0) (omega (arith, h.0, g.0)) g.1) λ p q. q

  further_within : (n : ℕ) (v : Float) (l : List Factor) → Within Q n l → Holds (Lists n) (further R v l)
  unfolding further
  further_within n v l h =
      holds_bind _ (canon_within n l h) λ c k.
      holds_bind _ (single_within Q stays R.bases c k.1) λ m p.
      toward_holds (Lists n) R v l m (by_groups R v c) (holds_by _ (convert R l m v) λ x _. (omega (arith, k.0, p.0), p.1)) (by_groups_within n v c k)

  pub simplify_within : (n : ℕ) (v : Float) (l : List Factor) → Within Q n l → Holds (Lists n) (simplify R v l)
  unfolding simplify
  simplify_within n v l h = attempt_holds (Lists n) (convert R l [] v) [] (further R v l) (holds_by _ (convert R l [] v) λ x _. none_within Q n) (further_within n v l h)

-- what holds of all holds of each
pub every : {A : Type 0} {P : A → Type 0} (l : List A) → ((a : A) → P a) → All P l
every [] f = tt
every (a ∷ l) f = (f a, every l f)

-- ---- the answer's list passes where the given one passes
module _ (rows : ℕ) where
  -- a factor that passes
  abbrev pub Passes : Factor → Type 0
  Passes f = Kept f × (unknown rows f ≡ false)

  pub row_known : (f : Factor) → Passes f → f.row < rows
  row_known f p = ltb-true f.row rows (not-false _ p.1)

  passes_still : (f : Factor) (e : Exponent) → Passes f → faulty e ≡ false → Passes (of (atom f) e)
  passes_still f e h k = (kept_with f e h.0 k, h.1)

  all_pass : (l : List Factor) → All (λ f. factor_fault f ≡ false) l → All (λ f. unknown rows f ≡ false) l → All Passes l
  all_pass [] h k = tt
  all_pass (f ∷ l) h k = ((h.0, k.0), all_pass l h.1 k.1)

  -- lists that pass
  abbrev pub Passed : List Factor → Type 0
  Passed = Within Passes 16

  pub checked_passed : (u : Factors) → Holds Passed (checked rows u)
  unfolding checked
  checked_passed u =
      holds_unless _ SHAPE λ s. holds_unless _ UNKNOWN λ k. held {a = list_of u} (
        (let h = ltb-false 16 u.len (or_left (ltb 16 u.len) (some factor_fault (list_of u)) s) in simp length-take (omega arith)),
        all_pass (list_of u) (each_faultless factor_fault (list_of u) (or_right (ltb 16 u.len) (some factor_fault (list_of u)) s)) (each_faultless (unknown rows) (list_of u) k),
      )

  pub passed_checked : (l : List Factor) → Passed l → checked rows (pack l) ≡ Ok l
  unfolding checked unless
  passed_checked l h =
      rw (list_pack l, len_pack l, le-ltb 16 (length l) h.0, none_faulty factor_fault l (all_imp l (λ f p. p.0) h.1), none_faulty (unknown rows) l (all_imp l (λ f p. p.1) h.1))

pub simplify_checked : (R : Rules Float) (rows : ℕ) (u : Factors) (fs : List Factor) → checked rows u ≡ Ok fs → (v : Float) → Holds (λ a. checked rows (pack a.1) ≡ Ok a.1) (simplify R v fs)
simplify_checked R rows u fs e v = holds_imp (simplify_within (Passes rows) (passes_still rows) R 16 v fs (take_out (checked_passed rows u) e)) λ a. passed_checked rows a.1
