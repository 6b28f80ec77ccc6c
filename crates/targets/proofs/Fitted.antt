-- A group's target: the first base exponent of a row, the summed exponents, and the answer case by case.
use mathlib.Core.Path.{◌≡◌, refl, sym, ap, ap₂, ◌∙◌}
use mathlib.Core.Bool.{true, false, true≢false}
use mathlib.Core.List.{List, [], ◌∷◌}
use mathlib.Core.List as list
use Prim.Native.Nat.{ℕ, zero, suc, ◌+◌, ◌-◌, ◌≤◌, ◌<◌}
use native.Mathlib.Numerals.{add-one}
use native.Mathlib.Omega.{arith}
use lib.IntN.{ℤ, pos, negsuc}
use lib.ListN.{length, drop, get_or}
use Rattle.exponents.specs.Outcome.{Refusal, Outcome, Ok, Err, apply, bind, each}
use Rattle.exponents.specs.Fractions.{nought, unit, same_z, same, add?, mul?, div?, sum?}
use Rattle.exponents.specs.declared.Exponent.{Exponent}
use Rattle.exponents.proofs.Holds.{one_answer, bind_given, bind_refused}
use Rattle.exponents.proofs.Summing.{sum_on, sum_off, sum_end}
use Rattle.units.specs.declared.Factor.{Factor}
use Rattle.tables.specs.declared.Item.{Item}
use Rattle.tables.specs.declared.Items.{Items}
use Rattle.keys.specs.Key.{other, first}
use Rattle.tables.specs.Lists.{base_at, base}
use Rattle.exponents.specs.Words.{pick}
use Rattle.tables.specs.Rows.{places}
use Rattle.tables.specs.Held.{pack_exps, told, View, view_bases, item_of, pack_items, packed, Lends, rules_by}
use Rattle.tables.specs.Order.{atom, of}
use Rattle.tables.specs.Rules.{Rules}
use Rattle.canonical.specs.Canonical.{all_nought}
use Rattle.canonical.specs.Held.{with_factor, form_of}
use Rattle.reduction.proofs.Compared.{packed-nought}
use Rattle.reduction.proofs.Resolved.{nil_item, item_at}
use Rattle.targets.specs.Held.{first_told, with_share}
use Rattle.targets.specs.Groups.{share, summed, fitted, greatest, target}
use Rattle.targets.proofs.Searching.{answer_none, answer_one, answer_refused}

-- ---- the first base exponent of a row: the places before i are zero
other-zero : (z : ℤ) (x r : Exponent) → z ≡ pos 0 → other z x r ≡ r
unfolding other
other-zero z x r e = rw e

other_not : (z : ℤ) (x r : Exponent) → (z ≡ pos 0 → ⊥) → other z x r ≡ x
unfolding other
other_not (pos zero) x r h = absurd (h refl)
other_not (pos (suc n)) x r h = refl
other_not (negsuc n) x r h = refl

-- f has the row's base exponents, by their places
module _ (f : ℕ → Exponent) where
  -- the first from place i on
  abbrev pub first_from_lem : ℕ → Exponent
  first_from_lem i = first (list.map f (places i (16 - i)))

  module _ (i : ℕ) (h : i < 16) where
    turn : first_from_lem i ≡ other (f i).num (f i) (first_from_lem (i + 1))
    unfolding first places
    turn =
        let left : 16 - i ≡ suc (16 - (i + 1)) = omega arith in
        ap (λ n. first (list.map f (places i n))) left ∙ ap (λ n. other (f i).num (f i) (first (list.map f (places n (16 - (i + 1)))))) (sym (add-one i))

    module _ (x : Exponent) (is : x ≡ f i) where
      pub first_on : x.num ≡ pos 0 → first_from_lem i ≡ first_from_lem (i + 1)
      first_on e = turn ∙ other-zero _ _ _ (sym (ap (λ (x : Exponent). x.num) is) ∙ e)

      pub first_here : (x.num ≡ pos 0 → ⊥) → x ≡ first_from_lem i
      first_here e = is ∙ sym (turn ∙ other_not _ _ _ (λ z. e (ap (λ (x : Exponent). x.num) is ∙ z)))

  pub first_none : (i : ℕ) → 16 ≤ i → unit ≡ first_from_lem i
  unfolding first places
  first_none i h =
      let left : 16 - i ≡ 0 = omega arith in
      sym (ap (λ n. first (list.map f (places i n))) left)

pub first_start : (nums : List ℤ) (dens : List ℕ) (r : ℕ) → first_told nums dens r ≡ first_from_lem (told nums dens r) 0
unfolding first_told
first_start nums dens r = refl

abbrev pub firsts : View → ℕ → Exponent
firsts v a = first (v.exps a)

-- the same place
spot : (f : ℕ → Exponent) (m n : ℕ) → m ≡ n → f m ≡ f n
spot f m n e = ap f e

-- exponents read place by place, zeros past their end
read_first : (f : ℕ → Exponent) (n p : ℕ) (es : List Exponent) → length es ≤ n → ((s : ℕ) → s < n → get_or es s nought ≡ f (p + s)) → first (list.map f (places p n)) ≡ first es
unfolding first other places
read_first f zero p [] k h = refl
read_first f zero p (e ∷ es) k h = absurd (omega arith)
read_first f (suc n) p [] k h =
    ap (λ (x : Exponent). other x.num x (first (list.map f (places (suc p) n)))) (spot f p (p + 0) (omega arith) ∙ sym (h 0 (omega arith)))
    ∙ read_first f n (suc p) [] (omega arith) (λ s l. h (suc s) (omega arith) ∙ spot f (p + suc s) (suc p + s) (omega arith))
read_first f (suc n) p (e ∷ es) k h =
    ap₂ (λ (x r : Exponent). other x.num x r) (spot f p (p + 0) (omega arith) ∙ sym (h 0 (omega arith)))
    (read_first f n (suc p) es (omega arith) (λ s l. h (suc s) (omega arith) ∙ spot f (p + suc s) (suc p + s) (omega arith)))

-- what the arrays tell is the row's
pub told_first : {v : View} {n : ℕ} {nums : List ℤ} {dens : List ℕ} → Lends v n nums dens → (r : ℕ) → first_told nums dens r ≡ firsts v r
unfolding first_told
told_first {v} {n} {nums} {dens} k r = read_first (told nums dens r) 16 0 (v.exps r) (k.short r) (λ s l. k.lent r s l ∙ spot (told nums dens r) s (0 + s) (omega arith))

-- ---- what an item has in a representative, added to acc: w is the first base exponent of its row
module _ (v : View) (d acc : Exponent) (it : Item) (f : Factor) (e : it ≡ item_of v f) (w : Exponent) (is : w ≡ firsts v it.factor.row) where
  there : mul? it.factor.exponent w ≡ mul? f.exponent (firsts v f.row)
  there = ap (mul? it.factor.exponent) is ∙ ap (λ (it : Item). mul? it.factor.exponent (firsts v it.factor.row)) e

  pub share_off : (r : Refusal) → Err r ≡ mul? it.factor.exponent w → Err r ≡ with_share (firsts v) d acc f
  unfolding with_share share
  share_off r q = sym (bind_refused _ (bind_refused _ (sym there ∙ sym q)))

  module _ (p : Exponent) (g : Ok p ≡ mul? it.factor.exponent w) where
    divided : share (firsts v) d f ≡ div? p d
    unfolding share
    divided = bind_given _ (sym there ∙ sym g)

    pub share_apart : (r : Refusal) → Err r ≡ div? p d → Err r ≡ with_share (firsts v) d acc f
    unfolding with_share
    share_apart r q = sym (bind_refused _ (divided ∙ sym q))

    pub share_on : (q : Exponent) → Ok q ≡ div? p d → add? acc q ≡ with_share (firsts v) d acc f
    unfolding with_share
    share_on q k = sym (bind_given _ (divided ∙ sym k))

-- ---- the summed exponents: those of the factors before i are in acc
module _ (v : View) (d : Exponent) (fs : List Factor) (i : ℕ) (acc : Exponent) (so_far : sum? (share (firsts v) d) acc (drop i fs) ≡ summed (firsts v) d fs) where
  module _ (g : Factor) (h : i < length fs) where
    pub summed_on : (t : Exponent) → Ok t ≡ with_share (firsts v) d acc (get_or fs i g) → sum? (share (firsts v) d) t (drop (i + 1) fs) ≡ summed (firsts v) d fs
    unfolding with_share
    summed_on t e = sym (sum_on (share (firsts v) d) fs acc i g h t (sym e)) ∙ so_far

    pub summed_off : (r : Refusal) → Err r ≡ with_share (firsts v) d acc (get_or fs i g) → Err r ≡ summed (firsts v) d fs
    unfolding with_share
    summed_off r e = sym (sum_off (share (firsts v) d) fs acc i g h r (sym e)) ∙ so_far

  pub summed_end : length fs ≤ i → Ok acc ≡ summed (firsts v) d fs
  summed_end h = sym (sum_end (share (firsts v) d) fs acc i h) ∙ so_far

pub summed_start : (v : View) (d : Exponent) (fs : List Factor) → sum? (share (firsts v) d) nought (drop 0 fs) ≡ summed (firsts v) d fs
unfolding summed
summed_start v d fs = refl

-- ---- the target by its cases; the base exponents of the empty list are all zero
none_base : (bs : List (ℕ → Exponent)) → base bs [] ≡ Ok (list.map (λ b. nought) bs)
unfolding base base_at each sum? bind
none_base [] = refl
none_base (b ∷ bs) = ap (apply (λ m. nought ∷ m)) (none_base bs)

none_scalar : (bs : List (ℕ → Exponent)) → all_nought (list.map (λ b. nought) bs) ≡ true
unfolding all_nought same same_z
none_scalar [] = refl
none_scalar (b ∷ bs) = none_scalar bs

module _ {A : Type 0} (R : Rules A) where
  abbrev otherwise : List Factor → Outcome (List Factor)
  otherwise [] = Ok []
  otherwise (f ∷ l) = fitted R.lead (greatest R.is_base f l) (f ∷ l)

  by_base : (l : List Factor) → target R l ≡ bind (base R.bases l) (λ x. pick (all_nought x) (Ok []) (otherwise l))
  unfolding target
  by_base [] = sym (bind_given _ (none_base R.bases) ∙ ap (λ t. pick t (Ok []) (Ok [])) (none_scalar R.bases))
  by_base (f ∷ l) = refl

-- ---- as code hands it over
module _ (v : View) (n : ℕ) (fs : List Factor) where
  abbrev pub answer : Outcome (List Factor)
  answer = target (rules_by v n) fs

  pub target_range : (r : Refusal) → base (view_bases v n) fs ≡ Err r → ◌≡◌ {A = Outcome Items} (Err r) (form_of v answer)
  target_range r e = answer_refused v r (by_base (rules_by v n) fs ∙ bind_refused _ e)

  module _ (xs x : List Exponent) (b : base (view_bases v n) fs ≡ Ok xs) (at : x ≡ pack_exps xs) where
    zeros : all_nought x ≡ all_nought xs
    zeros = ap all_nought at ∙ packed-nought xs

    decided : answer ≡ pick (all_nought x) (Ok []) (otherwise (rules_by v n) fs)
    decided = by_base (rules_by v n) fs ∙ bind_given _ b ∙ ap (λ t. pick t (Ok []) (otherwise (rules_by v n) fs)) (sym zeros)

    pub target_scalar : all_nought x ≡ true → (l : Items) → l ≡ packed [] → ◌≡◌ {A = Outcome Items} (Ok l) (form_of v answer)
    target_scalar h l e = answer_none v l e (decided ∙ ap (λ t. pick t (Ok []) (otherwise (rules_by v n) fs)) h)

-- a group that isn't scalar: `it` is its representative's item, d its first base exponent, s the summed exponents
pub record Choice (v : View) (n : ℕ) (fs : List Factor) (it : Item) : Type 0 where
  pub factor : Factor
  pub answers : answer v n fs ≡ fitted (firsts v) factor fs
  pub is : it ≡ item_of v factor

pub chosen : (v : View) (n : ℕ) (l : Items) (fs : List Factor) → l ≡ pack_items v fs → (xs x : List Exponent) → base (view_bases v n) fs ≡ Ok xs → x ≡ pack_exps xs → all_nought x ≡ false
    → (p : ℕ) → ((f : Factor) (gs : List Factor) → fs ≡ f ∷ gs → (p < length (f ∷ gs)) × (get_or (f ∷ gs) p f ≡ greatest v.base f gs)) → Choice v n fs (get_or l.at p nil_item)
chosen v n l [] e xs x b at z p rep = absurd (true≢false (sym (zeros v n [] xs x b at ∙ ap all_nought (one_answer (sym b ∙ none_base (view_bases v n))) ∙ none_scalar (view_bases v n)) ∙ z))
chosen v n l (f ∷ gs) e xs x b at z p rep =
    let r = rep f gs refl in
    record {
      factor = greatest v.base f gs;
      answers = decided v n (f ∷ gs) xs x b at ∙ ap (λ t. pick t (Ok []) (fitted (firsts v) (greatest v.base f gs) (f ∷ gs))) z;
      is = item_at v l (f ∷ gs) e p nil_item f r.0 ∙ ap (item_of v) r.1;
    }

module _ (v : View) (n : ℕ) (fs : List Factor) (it : Item) (k : Choice v n fs it) (d : Exponent) (head : d ≡ firsts v it.factor.row) where
  abbrev total : Outcome Exponent
  total = summed (firsts v) (firsts v k.factor.row) fs

  of-factor : summed (firsts v) d fs ≡ total
  of-factor = ap (λ d. summed (firsts v) d fs) (head ∙ ap (λ (it : Item). firsts v it.factor.row) k.is)

  pub fitted_off : (r : Refusal) → Err r ≡ summed (firsts v) d fs → ◌≡◌ {A = Outcome Items} (Err r) (form_of v (answer v n fs))
  unfolding fitted
  fitted_off r q = answer_refused v r (k.answers ∙ ap (apply (λ e. of (atom k.factor) e ∷ [])) (sym of-factor ∙ sym q))

  pub fitted_on : (t : Exponent) → Ok t ≡ summed (firsts v) d fs → (y : Item) → y ≡ with_factor it (of (atom it.factor) t) → (m : Items) → m ≡ packed (y ∷ []) → ◌≡◌ {A = Outcome Items} (Ok m) (form_of v (answer v n fs))
  unfolding fitted
  fitted_on t q y a m b =
      answer_one v m y (of (atom k.factor) t) b (a ∙ ap (λ (it : Item). with_factor it (of (atom it.factor) t)) k.is)
      (k.answers ∙ ap (apply (λ e. of (atom k.factor) e ∷ [])) (sym of-factor ∙ sym q))
