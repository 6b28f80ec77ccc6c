-- What 01's conversion takes at most (02, order 5): 234 for each of n factors of a list, not 240. A factor that takes most leaves little to what it shares and to what is left of the target's, since their exponents add up to one that is in range.
use mathlib.Core.Path.{◌≡◌, refl, sym, ◌∙◌, ap}
use mathlib.Core.Bool.{Bool, true, false, cond}
use mathlib.Core.List.{List, [], ◌∷◌, map}
use Prim.Native.Nat.{ℕ, ◌+◌, ◌*◌, ◌-◌, ◌≤◌, min, Ordering}
use native.Mathlib.Omega.{arith}
use lib.Ieee.{Float}
use lib.Dec.{eqb}
use lib.IntN.{ℤ, pos, negsuc, neg_ℤ, nat_abs}
use lib.ListN.{length}
use Rattle.exponents.specs.Outcome.{Outcome, Ok, apply}
use Rattle.exponents.specs.Words.{All}
use Rattle.exponents.specs.Fractions.{neg, add?, nought, same}
use Rattle.exponents.specs.declared.Exponent.{Exponent}
use Rattle.exponents.proofs.Exact.{nat_abs-neg}
use Rattle.exponents.proofs.Holds.{Holds, held, take_out, one_answer, holds_eq, holds_all, holds_imp, holds_map, holds_bind}
use Rattle.exponents.proofs.InRange.{or_left, or_right}
use Rattle.floats.specs.Power.{bits, multiplications}
use Rattle.floats.specs.declared.Tally.{Tally}
use Rattle.units.specs.declared.Factor.{Factor}
use Rattle.units.specs.Lists.{factor_fault, some, with_exponent, inverted}
use Rattle.units.proofs.Sound.{exponent_sound}
use Rattle.tables.specs.Order.{Atom, atom, of}
use Rattle.tables.specs.Rules.{Rules}
use Rattle.tables.proofs.Total.{swap}
use Rattle.canonical.specs.Canonical.{place, insert, gather, drop_if, nonzero, canon}
use Rattle.canonical.proofs.Total.{Weak}
use Rattle.canonical.proofs.Sorted.{Above, Rising, above_trans, canon_canonical}
use Rattle.std.specs.Prelude.{Option, Some, None}
use Rattle.common.specs.Common.{meet, if_same, with_shared, shared_with_lem, common}
use Rattle.common.specs.Held.{taken, lessen}
use Rattle.common.proofs.Merging.{AllFound, above_like, found_before, all-behind, common_rising, common_found}
use Rattle.conversion.specs.Conversion.{standing}
use Rattle.countpromises.proofs.Costs.{raising, cost, total, costs, costs_append, its_prefix, cost_most, costs_most}
use Rattle.countpromises.proofs.Pairs.{shared_most}
use Rattle.countpromises.proofs.Merged.{Short, form_short, Took, kept, scaled, target_lessened}

-- ---- what a factor leaves of 82, held between 2 and 4: with it what it shares is paid
abbrev slack : Factor → ℕ
slack f = 2 + min (80 - cost f) 2

abbrev slacks : List Factor → ℕ
slacks = total slack

drop_total : (w : Factor → ℕ) (t : Bool) (f : Factor) (l : List Factor) → total w (drop_if t f l) ≤ w f + total w l
unfolding drop_if total
drop_total w true f l = omega arith
drop_total w false f l = omega arith

-- ---- gathered into a canonical form, each factor takes at most 82, with what it adds to the form's slack
module _ (cmp : Atom → Atom → Ordering) where
  abbrev Slacked : Factor → ℕ → List Factor → Type 0
  Slacked x n b = cost x + slacks b ≤ 82 + n

  module _ (x : Factor) (k : factor_fault x ≡ false) where
    place_slack : (o : Ordering) (y : Factor) (ys : List Factor) (r : Outcome (List Factor)) → Holds (Slacked x (slacks ys)) r → Holds (Slacked x (slack y + slacks ys)) (place o x y ys r)
    unfolding place total
    place_slack Ordering.lt y ys r h = held {a = x ∷ y ∷ ys} (omega (arith, cost_most x k))
    place_slack Ordering.eq y ys r h = holds_all _ (add? y.exponent x.exponent) λ e. omega (arith, cost_most x k)
    place_slack Ordering.gt y ys r h = holds_map _ h λ zs p. omega arith

    insert_slack : (l : List Factor) → Holds (Slacked x (slacks l)) (insert cmp x l)
    unfolding insert total
    insert_slack [] = held {a = x ∷ []} (omega (arith, cost_most x k))
    insert_slack (y ∷ ys) = place_slack _ y ys _ (insert_slack ys)

  gather_slack : (a l : List Factor) → some factor_fault l ≡ false → Holds (λ b. costs l + slacks b ≤ 82 * length l + slacks a) (gather cmp a l)
  unfolding gather total some
  gather_slack a [] h = held {a = a} (omega arith)
  gather_slack a (x ∷ l) h =
      holds_bind _ (insert_slack x (or_left (factor_fault x) (some factor_fault l) h) a) λ b p.
      holds_imp (gather_slack b l (or_right (factor_fault x) (some factor_fault l) h)) λ c q. omega arith

  nonzero_slack : (l : List Factor) → slacks (nonzero l) ≤ slacks l
  unfolding nonzero total
  nonzero_slack [] = omega arith
  nonzero_slack (f ∷ l) = omega (arith, drop_total slack (same f.exponent nought) f (nonzero l), nonzero_slack l)

  canon_slack : (l : List Factor) → some factor_fault l ≡ false → Holds (λ c. costs l + slacks c ≤ 82 * length l) (canon cmp l)
  unfolding canon total
  canon_slack l h = holds_map _ (gather_slack [] l h) λ b p. omega (arith, nonzero_slack b)

-- ---- what f shares with g, and what is left of g, take at most 152 with the slack of f
raising_neg : (e : Exponent) → raising (neg e) ≡ raising e
unfolding neg
raising_neg e = ap (λ n. cond (eqb e.den 1) (multiplications (bits n)) 0) (size e.num)
  where
    size : (z : ℤ) → nat_abs (neg_ℤ z) ≡ nat_abs z
    size (pos n) = nat_abs-neg n
    size (negsuc n) = refl

shared_cost : (f g : Factor) (s e : Exponent) → factor_fault f ≡ false → factor_fault g ≡ false → meet f.exponent g.exponent ≡ Some s → add? g.exponent (neg s) ≡ Ok e →
    cost (inverted (of (atom f) s)) + cost (of (atom g) e) ≤ 152 + slack f
unfolding cost inverted with_exponent
shared_cost f g s e kf kg m p =
    let h = shared_most f.exponent g.exponent e (exponent_sound f kf) (exponent_sound g kg) s m p in
    omega (arith, h.0, h.1, raising_neg s, its_prefix f kf, its_prefix g kg, cost_most f kf)

-- `cmp` is the order of factors
module _ (cmp : Atom → Atom → Ordering) (O : Weak cmp) where
  -- ---- x taken out of what compares with it in m: both take at most 152 and b
  abbrev Pays : Factor → ℕ → List Factor → Type 0
  Pays x b m = All (λ g. cmp (atom x) (atom g) ≡ Ordering.eq → (e : Exponent) → add? g.exponent x.exponent ≡ Ok e → cost x + cost (of (atom g) e) ≤ 152 + b) m

  -- nothing compares with what comes before all of m
  pays_none : (x : Factor) (b : ℕ) (m : List Factor) → Above cmp (atom x) m → Pays x b m
  pays_none x b [] a = tt
  pays_none x b (g ∷ m) a = (λ q. let p = a.0 in let z : ◌≡◌ {A = ℕ} 0 1 = cc in absurd (omega arith), pays_none x b m a.1)

  -- each of cs pays, all of them with n
  data Paid (m : List Factor) : List Factor → ℕ → Type 0 where
    none : {n : ℕ} → Paid m [] n
    more : {x : Factor} {cs : List Factor} {n : ℕ} (b k : ℕ) → b + k ≤ n → Pays x b m → Paid m cs k → Paid m (x ∷ cs) n

  paid_behind : (g : Factor) (m : List Factor) {cs : List Factor} {n : ℕ} → Paid (g ∷ m) cs n → Paid m cs n
  paid_behind g m none = none
  paid_behind g m (more b k l p h) = more b k l p.1 (paid_behind g m h)

  paid_with : (m : List Factor) {cs : List Factor} {n : ℕ} (j : ℕ) → Paid m cs n → Paid m cs (j + n)
  paid_with m j none = none
  paid_with m {n = n} j (more b k l p h) = more {n = j + n} b k (omega arith) p h

  -- ---- the walk that takes cs out of l
  abbrev Walked : List Factor → List Factor → ℕ → Type 0
  Walked l cs n = Holds (λ t. costs cs + costs t ≤ 152 * length l + n) (lessen cmp l cs)

  module _ (g : Factor) (m : List Factor) (c : Factor) (cs : List Factor) (k : factor_fault g ≡ false) (r : Rising cmp (g ∷ m)) (s : Rising cmp (c ∷ cs)) (n : ℕ) where
    turn : (o : Ordering) → cmp (atom c) (atom g) ≡ o → AllFound cmp O (c ∷ cs) (g ∷ m) → Paid (g ∷ m) (c ∷ cs) n →
        ((j : ℕ) → AllFound cmp O cs m → Paid m cs j → Walked m cs j) → (AllFound cmp O (c ∷ cs) m → Walked m (c ∷ cs) n) →
        Holds (λ t. costs (c ∷ cs) + costs t ≤ 152 * length (g ∷ m) + n) (taken o g c (λ e. apply (drop_if (same e nought) (of (atom g) e)) (lessen cmp m cs)) (lessen cmp m (c ∷ cs)))
    unfolding drop_if taken total
    turn Ordering.lt e h (more b j l p q) on past = absurd (found_before cmp O false g m (atom c) r.0 e h.0)
    turn Ordering.eq e h (more b j l p q) on past =
        holds_bind _ (holds_eq (add? g.exponent c.exponent)) λ u w.
        holds_map _ (on j (all-behind cmp O false g m cs (above_like cmp O (atom c) (atom g) cs e s.0) h.1) (paid_behind g m q)) λ t z. omega (arith, l, z, p.0 e u w, drop_total cost (same u nought) (of (atom g) u) t)
    turn Ordering.gt e h (more b j l p q) on past =
        let a : cmp (atom g) (atom c) ≡ Ordering.lt = O.swaps (atom c) (atom g) ∙ ap swap e in
        holds_map _ (past (all-behind cmp O false g m (c ∷ cs) (a, above_trans cmp O (atom g) (atom c) cs a s.0) h)) λ t z. omega (arith, z, cost_most g k)

  walk : (l cs : List Factor) (n : ℕ) → some factor_fault l ≡ false → Rising cmp l → Rising cmp cs → AllFound cmp O cs l → Paid l cs n → Walked l cs n
  unfolding lessen some total
  walk [] [] n k r s h p = held {a = []} (omega arith)
  walk [] (c ∷ cs) n k r s h p = absurd h.0
  walk (g ∷ m) [] n k r s h p = held {a = g ∷ m} (omega (arith, costs_most (length (g ∷ m)) (g ∷ m) (omega arith) k))
  walk (g ∷ m) (c ∷ cs) n k r s h p =
      turn g m c cs (or_left (factor_fault g) (some factor_fault m) k) r s n _ refl h p
      (λ j f q. walk m cs j (or_right (factor_fault g) (some factor_fault m) k) r.1 s.1 f q)
      (λ f. walk m (c ∷ cs) n (or_right (factor_fault g) (some factor_fault m) k) r.1 s f (paid_behind g m p))

  -- ---- the common factors pay with the slack of those they are shared of
  abbrev PaysIf : Option Exponent → Factor → List Factor → Type 0
  PaysIf (Some e) f m = Pays (inverted (of (atom f) e)) (slack f) m
  PaysIf None f m = Unit {0}

  pays_later : (s : Option Exponent) (f g : Factor) (m : List Factor) → (cmp (atom f) (atom g) ≡ Ordering.eq → ⊥) → PaysIf s f m → PaysIf s f (g ∷ m)
  unfolding inverted with_exponent
  pays_later (Some e) f g m h p = (λ q. absurd (h q), p)
  pays_later None f g m h p = tt

  module _ (f g : Factor) (m : List Factor) (kf : factor_fault f ≡ false) (kg : factor_fault g ≡ false) (a : Above cmp (atom g) m) where
    pays_here : (s : Option Exponent) → meet f.exponent g.exponent ≡ s → cmp (atom f) (atom g) ≡ Ordering.eq → PaysIf s f (g ∷ m)
    unfolding inverted with_exponent
    pays_here (Some s) e q =
        (λ _ u p. shared_cost f g s u kf kg e p, pays_none (inverted (of (atom f) s)) (slack f) m (above_like cmp O (atom g) (atom f) m (O.swaps (atom f) (atom g) ∙ ap swap q) a))
    pays_here None e q = tt

    pays_by : (o : Ordering) (b : Option Exponent) → cmp (atom f) (atom g) ≡ o → PaysIf b f m → PaysIf (if_same o (meet f.exponent g.exponent) b) f (g ∷ m)
    unfolding if_same
    pays_by Ordering.lt b q p = pays_later b f g m (λ e. let z : ◌≡◌ {A = ℕ} 0 1 = cc in omega arith) p
    pays_by Ordering.eq b q p = pays_here (meet f.exponent g.exponent) refl q
    pays_by Ordering.gt b q p = pays_later b f g m (λ e. let z : ◌≡◌ {A = ℕ} 0 1 = cc in omega arith) p

  pays_shared : (f : Factor) (m : List Factor) → factor_fault f ≡ false → some factor_fault m ≡ false → Rising cmp m → PaysIf (shared_with_lem cmp f m) f m
  unfolding shared_with_lem some
  pays_shared f [] kf k r = tt
  pays_shared f (g ∷ m) kf k r =
      pays_by f g m kf (or_left (factor_fault g) (some factor_fault m) k) r.0 _ (shared_with_lem cmp f m) refl (pays_shared f m kf (or_right (factor_fault g) (some factor_fault m) k) r.1)

  paid_one : (s : Option Exponent) (f : Factor) (m cs : List Factor) (n : ℕ) → PaysIf s f m → Paid m (map inverted cs) n → Paid m (map inverted (with_shared s f cs)) (slack f + n)
  unfolding with_shared
  paid_one (Some e) f m cs n p h = more {n = slack f + n} (slack f) n (omega arith) p h
  paid_one None f m cs n p h = paid_with m (slack f) h

  paid : (l m : List Factor) → some factor_fault l ≡ false → some factor_fault m ≡ false → Rising cmp m → Paid m (map inverted (common cmp l m)) (slacks l)
  unfolding common some total
  paid [] m k kn r = none
  paid (f ∷ l) m k km r =
      paid_one (shared_with_lem cmp f m) f m (common cmp l m) (slacks l) (pays_shared f m (or_left (factor_fault f) (some factor_fault l) k) km r) (paid l m (or_right (factor_fault f) (some factor_fault l) k) km r)

  -- ---- THEOREM: own list, common factors and what is left of the target take at most 234 for each of n factors
  pub longest : (n : ℕ) (l m cl cm t : List Factor) → Short n l → Short n m → canon cmp l ≡ Ok cl → canon cmp m ≡ Ok cm → lessen cmp cm (map inverted (common cmp cl cm)) ≡ Ok t →
      costs l + (costs (map inverted (common cmp cl cm)) + costs t) ≤ 234 * n
  longest n l m cl cm t sl sm el em et =
      let ol = form_short cmp n l cl el sl in
      let om = form_short cmp n m cm em sm in
      let rl = (take_out (canon_canonical cmp O l) el).rising in
      let rm = (take_out (canon_canonical cmp O m) em).rising in
      let w = take_out (walk cm (map inverted (common cmp cl cm)) (slacks cl) om.kept rm (common_rising cmp O cl cm rl) (common_found cmp O cl cm) (paid cl cm ol.kept om.kept rm)) et in
      omega (arith, w, take_out (canon_slack cmp l sl.kept) el, sl.few, om.few)

-- so does a conversion by 01's rule: its own list stays as it stands, followed by the common factors, inverted
pub convert_most : (R : Rules Float) → Weak R.order → (k : ℕ) (l m : List Factor) → Short k l → Short k m → (x : Tally) (n : ℕ) → Took R standing l m x n → n ≤ x.count + 234 * k
convert_most R O k l m sl sm x n (kept cl cm el em e p) = omega arith
convert_most R O k l m sl sm x n (scaled own t s p) =
    let c = map inverted (common R.order s.cl s.cm) in
    let q : costs own ≡ costs l + costs c = ap costs (sym (one_answer s.own_is)) ∙ costs_append l c in
    omega (arith, longest R.order O k l m s.cl s.cm t sl sm s.own_form s.target_form (target_lessened R standing l m x O s))
