-- One row over two lists of base rows that differ in later ones only: it is admitted over both, or refused alike, and what is known of it differs in zeros.
use mathlib.Core.Path.{◌≡◌, refl, sym, ap, ap₂, ◌∙◌}
use mathlib.Core.Bool.{false}
use mathlib.Core.List.{List, [], ◌∷◌, ◌++◌, map, map-append}
use Prim.Native.Nat.{ℕ, zero, suc, ◌<◌, ◌≤◌}
use native.Mathlib.Omega.{arith}
use lib.Dec.{eqb}
use lib.Ieee.{mul, binary64}
use lib.ListN.{length, get_or, length-map, length-append, get_or-map}
use lib.Seq.{ext_get_or}
use Rattle.exponents.specs.Outcome.{TABLE, SHAPE, Outcome, Ok, each, apply}
use Rattle.exponents.specs.Fractions.{nought}
use Rattle.exponents.specs.declared.Exponent.{Exponent}
use Rattle.exponents.proofs.Each.{each_map}
use Rattle.exponents.proofs.Holds.{bind_given}
use Rattle.units.specs.declared.Factor.{Factor}
use Rattle.units.specs.declared.Kind.{Kind}
use Rattle.units.specs.declared.Kind.TheVariants.{Base, Derived}
use Rattle.units.specs.declared.Row.{Row}
use Rattle.units.specs.Lists.{some, factor_fault}
use Rattle.tables.specs.declared.Slot.{Slot}
use Rattle.tables.specs.Lists.{base_at, base}
use Rattle.tables.specs.Scale.{doubles, scale, size_by}
use Rattle.tables.specs.Held.{no_slot}
use Rattle.tables.specs.Rows.{Facts, nobody, exp_at, scale_at, bases, def_of, is_base, count, table_fault, self_exp, row_exps, row_scale, worked_out, row_facts}
use Rattle.tables.proofs.Terms.{get_map, long_bases, get_bases}
use Rattle.tables.proofs.Working.{self_other}
use Rattle.beginnings.proofs.Matched.{Matched, answers, matched_unless, matched_imp, matched_bind, matched_same}
use Rattle.beginnings.proofs.Between.{Between}
use Rattle.beginnings.proofs.Zeros.{Spread, base-zero, each_spread, key_spread}

-- ---- what admission takes from the rows before, base exponents left out
abbrev pub bare : Facts → Facts
bare k = record { exps = []; key = []; scale = k.scale; rank = k.rank; base = k.base }

some_bare : (x : ℕ) (js : List Facts) → some (λ k. eqb k.rank x) (map bare js) ≡ some (λ k. eqb k.rank x) js
unfolding some
some_bare x [] = refl
some_bare x (k ∷ js) = rw (some_bare x js)

count_bare : (js : List Facts) → count (map bare js) ≡ count js
unfolding count
count_bare [] = refl
count_bare (k ∷ js) = rw (count_bare js)

fault_bare : (js : List Facts) (r : Row) → table_fault (map bare js) r ≡ table_fault js r
unfolding table_fault
fault_bare js r = rw (some_bare r.rank js, count_bare js, length-map js bare)

scale_bare : (k : Kind) (js : List Facts) (r : Row) → row_scale k (map bare js) r ≡ row_scale k js r
unfolding row_scale scale_at
scale_bare Base js r = refl
scale_bare (Derived f) js r = λ i. apply (mul binary64 f) (scale doubles (size_by (λ q. (get_or-map bare js q nobody i).scale)) (def_of r))

-- ---- base exponents by a function of the base row, one function for each row before
abbrev none : Slot → Exponent
none s = nought

-- vs have the base exponents of js at ss
abbrev Has : List Slot → List (Slot → Exponent) → List Facts → Type 0
Has ss vs js = map (λ k. k.exps) js ≡ map (λ v. map v ss) vs

-- those of a row's own, with the definition l, after i rows
abbrev own_at : Kind → List (Slot → Exponent) → ℕ → List Factor → Slot → Outcome Exponent
own_at Base vs i l s = Ok (self_exp i s)
own_at (Derived f) vs i l s = base_at l (λ q. get_or vs q none s)

has_at : (ss : List Slot) (vs : List (Slot → Exponent)) (q j : ℕ) → j < length ss → get_or (get_or (map (λ v. map v ss) vs) q []) j nought ≡ get_or vs q none (get_or ss j no_slot)
has_at ss [] q j h = refl
has_at ss (v ∷ vs) zero j h = get_map v ss j no_slot nought h
has_at ss (v ∷ vs) (suc q) j h = has_at ss vs q j h

each_given : (g : Slot → Exponent) (l : List Slot) → each (λ s. Ok (g s)) l ≡ Ok (map g l)
unfolding each
each_given g [] = refl
each_given g (s ∷ l) = bind_given _ refl ∙ ap (apply (λ m. g s ∷ m)) (each_given g l)

module _ (ss : List Slot) (vs : List (Slot → Exponent)) (js : List Facts) (e : Has ss vs js) where
  bases-are : bases (length ss) js ≡ map (λ s q. get_or vs q none s) ss
  unfolding exp_at
  bases-are =
      ext_get_or (λ q. nought) (bases (length ss) js) (map (λ s q. get_or vs q none s) ss) (long_bases (length ss) js ∙ sym (length-map ss _)) λ j h.
      let p : j < length ss = omega (arith, long_bases (length ss) js) in
      get_bases (length ss) js j (λ q. nought) p
      ∙ (λ i q. (ap (λ l. get_or l j nought) (sym (get_or-map (λ k. k.exps) js q nobody) ∙ ap (λ l. get_or l q []) e) ∙ has_at ss vs q j p) i)
      ∙ sym (get_map (λ s q. get_or vs q none s) ss j no_slot (λ q. nought) p)

  exps_are : (k : Kind) (r : Row) → row_exps k ss js r ≡ each (own_at k vs (length js) (def_of r)) ss
  unfolding row_exps base
  exps_are Base r = sym (each_given (self_exp (length js)) ss)
  exps_are (Derived f) r = ap (each (base_at (def_of r))) bases-are ∙ each_map (base_at (def_of r)) (λ s q. get_or vs q none s) ss

-- ---- the rows before, js over ss and ks over ts
pub record Alike (n : ℕ) (ss ts : List Slot) (js ks : List Facts) : Type 0 where
  pub long : length js ≡ n
  pub rest : map bare js ≡ map bare ks
  pub at : List (Slot → Exponent)
  pub one : Has ss at js
  pub two : Has ts at ks
  pub zeros : (q : ℕ) (s : Slot) → n ≤ s.row → get_or at q none s ≡ nought

pub alike_none : (ss ts : List Slot) → Alike 0 ss ts [] []
alike_none ss ts = record { long = refl; rest = refl; at = []; one = refl; two = refl; zeros = λ q s h. refl }

-- one row more, r: j over ss, k over ts
pub record Pair (n : ℕ) (ss ts : List Slot) (r : Row) (j k : Facts) : Type 0 where
  pub rank : j.rank ≡ r.rank
  pub rest : bare j ≡ bare k
  pub exps : Spread (suc n) ss ts j.exps k.exps

snoc : {A B : Type 0} (f : A → B) (l : List A) (a : A) (m : List B) (b : B) → map f l ≡ m → f a ≡ b → map f (l ++ (a ∷ [])) ≡ m ++ (b ∷ [])
snoc f l a m b e d = map-append f l (a ∷ []) ∙ ap₂ (λ u v. u ++ (v ∷ [])) e d

snoc_at : {A : Type 0} (d : A) (P : A → Type 0) (l : List A) (a : A) → ((q : ℕ) → P (get_or l q d)) → P a → (q : ℕ) → P (get_or (l ++ (a ∷ [])) q d)
snoc_at d P [] a h p zero = p
snoc_at d P [] a h p (suc q) = h 0
snoc_at d P (b ∷ l) a h p zero = h 0
snoc_at d P (b ∷ l) a h p (suc q) = snoc_at d P l a (λ i. h (suc i)) p q

module _ (n : ℕ) (ss ts : List Slot) (js ks : List Facts) (a : Alike n ss ts js ks) where
  pub alike_long : length js ≡ length ks
  alike_long = sym (length-map js bare) ∙ ap length a.rest ∙ length-map ks bare

  pub alike_on : (r : Row) (j k : Facts) → Pair n ss ts r j k → Alike (suc n) ss ts (js ++ (j ∷ [])) (ks ++ (k ∷ []))
  alike_on r j k h =
      let v = h.exps.at in record {
        long = length-append js (j ∷ []) ∙ omega (arith, a.long);
        rest = snoc bare js j _ _ a.rest h.rest ∙ sym (snoc bare ks k _ _ refl refl);
        at = a.at ++ (v ∷ []);
        one = snoc _ js j _ _ a.one h.exps.one ∙ sym (snoc _ a.at v _ _ refl refl);
        two = snoc _ ks k _ _ a.two h.exps.two ∙ sym (snoc _ a.at v _ _ refl refl);
        zeros = snoc_at none (λ u. (s : Slot) → suc n ≤ s.row → u s ≡ nought) a.at v (λ q s p. a.zeros q s (omega arith)) h.exps.zero;
      }

  own_zero : (k : Kind) (l : List Factor) → some factor_fault l ≡ false → (s : Slot) → suc n ≤ s.row → own_at k a.at n l s ≡ Ok nought
  own_zero Base l h s p = ap Ok (sym (self_other s n (λ e. omega arith)))
  own_zero (Derived f) l h s p = base-zero l _ h λ q. a.zeros q s (omega arith)

  module _ (r : Row) where
    scales : row_scale r.kind js r ≡ row_scale r.kind ks r
    scales = sym (scale_bare r.kind js r) ∙ ap (λ l. row_scale r.kind l r) a.rest ∙ scale_bare r.kind ks r

    faults : table_fault js r ≡ table_fault ks r
    faults = sym (fault_bare js r) ∙ ap (λ l. table_fault l r) a.rest ∙ fault_bare ks r

    -- l are the base rows up to this one
    module _ (l : List Slot) (b : Between (suc n) l ss) (c : Between (suc n) l ts) where
      exps : some factor_fault (def_of r) ≡ false → Matched (Spread (suc n) ss ts) (row_exps r.kind ss js r) (row_exps r.kind ts ks r)
      exps h =
          rw (exps_are ss a.at js a.one r.kind r, exps_are ts a.at ks a.two r.kind r, sym alike_long, a.long)
          (each_spread (suc n) l ss ts b c (own_at r.kind a.at n (def_of r)) (own_zero r.kind (def_of r) h))

      worked : some factor_fault (def_of r) ≡ false → Matched (Pair n ss ts r) (worked_out ss js r) (worked_out ts ks r)
      unfolding worked_out
      worked h =
          matched_bind _ _ (exps h) λ es ds e.
          matched_bind _ _ (key_spread (suc n) l ss ts b c es ds e) λ u v _.
          matched_bind _ _ (rw (← scales) (matched_same (row_scale r.kind js r))) λ x y z.
          answers (record { rank = refl; rest = ap (λ w. record { exps = []; key = []; scale = w; rank = r.rank; base = is_base r.kind }) z; exps = e })

    -- admitted over both, or refused alike: TABLE by what all rows show, then the rest
    pub row_alike : (l : List Slot) → (table_fault js r ≡ false → Between (suc n) l ss × Between (suc n) l ts)
        → Matched (λ j k. Pair n ss ts r j k × (table_fault js r ≡ false)) (row_facts ss js r) (row_facts ts ks r)
    unfolding row_facts
    row_alike l b =
        rw (← faults)
        (matched_unless (table_fault js r) TABLE λ t.
        matched_unless (some factor_fault (def_of r)) SHAPE λ h.
        matched_imp (worked l (b t).0 (b t).1 h) λ j k m. (m, t))
