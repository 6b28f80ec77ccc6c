-- Base exponents worked out factor by factor: one factor more at one base row, at all of them, and the answer.
use mathlib.Core.Path.{◌≡◌, refl, sym, ap, ap₂, subst, ◌∙◌}
use mathlib.Core.Bool.{Bool, true, false}
use mathlib.Core.List.{List, [], ◌∷◌, ◌++◌, map, append-nil, append_assoc}
use Prim.Native.Nat.{ℕ, zero, suc, ◌+◌, ◌-◌, ◌≤◌, ◌<◌}
use native.Mathlib.Omega.{arith}
use native.Mathlib.Numerals.{add-one}
use lib.Dec.{eqb}
use lib.IntN.{ℤ}
use lib.ListN.{length, take, drop, get_or, set, replicate, take-append-drop}
use lib.Seq.{get_or-set_same, get_or-set_other, drop-set-lt, length-take-le, take_all, take-suc}
use borrow.Author.Tests.{eqb-true, eqb-false}
use Rattle.std.specs.Prelude.{Option, Some, None}
use Rattle.exponents.specs.Outcome.{Refusal, Outcome, Ok, Err, bind, each}
use Rattle.exponents.specs.Fractions.{nought, add?, mul?, sum?, faulty}
use Rattle.exponents.specs.declared.Exponent.{Exponent}
use Rattle.exponents.proofs.Holds.{take_out, bind_given, bind_refused}
use Rattle.exponents.proofs.Sound.{nought_sound, sum_sound}
use Rattle.exponents.proofs.Following.{bind_bind}
use Rattle.units.specs.declared.Factor.{Factor}
use Rattle.tables.specs.Lists.{base_at, base}
use Rattle.tables.specs.Rows.{places}
use Rattle.tables.specs.Held.{pack_exps, exps_of, told, View, Lends, view_at, view_bases}
use Rattle.reduction.specs.declared.bases.Partial.{Partial}
use Rattle.reduction.specs.Held.{Ends, Summed}
use Rattle.canonical.proofs.Packs.{any_default}

-- ---- one factor more at one base row
bind_id : {A : Type 0} (o : Outcome A) → bind o Ok ≡ o
unfolding bind
bind_id (Ok a) = refl
bind_id (Err r) = refl

sum_snoc : {A : Type 0} (term : A → Outcome Exponent) (s : Exponent) (l : List A) (a : A) → sum? term s (l ++ (a ∷ [])) ≡ bind (sum? term s l) (λ u. bind (term a) (λ t. add? u t))
unfolding sum? bind
sum_snoc term s [] a = ap (bind (term a)) (λ i t. bind_id (add? s t) i)
sum_snoc term s (x ∷ l) a =
    ap (bind (term x)) (λ i t. bind (add? s t) (λ u. sum_snoc term u l a i))
    ∙ ap (bind (term x)) (λ i t. sym (bind_bind (add? s t) (λ u. sum? term u l) (λ u. bind (term a) (λ t. add? u t))) i)
    ∙ sym (bind_bind (term x) (λ t. bind (add? s t) (λ u. sum? term u l)) (λ u. bind (term a) (λ t. add? u t)))

module _ (fs : List Factor) (f : Factor) (b : ℕ → Exponent) where
  -- what one factor makes of the sum so far
  abbrev pub more : Exponent → Outcome Exponent
  more acc = bind (mul? f.exponent (b f.row)) (λ t. add? acc t)

  base_snoc : base_at (fs ++ (f ∷ [])) b ≡ bind (base_at fs b) more
  unfolding base_at
  base_snoc = sum_snoc _ nought fs f

  pub base_on : (acc u : Exponent) → base_at fs b ≡ Ok acc → more acc ≡ Ok u → base_at (fs ++ (f ∷ [])) b ≡ Ok u
  base_on acc u p q = base_snoc ∙ bind_given more p ∙ q

  pub base_off : (acc : Exponent) (r : Refusal) → base_at fs b ≡ Ok acc → more acc ≡ Err r → base_at (fs ++ (f ∷ [])) b ≡ Err r
  base_off acc r p q = base_snoc ∙ bind_given more p ∙ q

  -- a refusal stays
  pub base_stays : (r : Refusal) → base_at fs b ≡ Err r → base_at (fs ++ (f ∷ [])) b ≡ Err r
  base_stays r e = base_snoc ∙ bind_refused more e

pub base_sound : (fs : List Factor) (b : ℕ → Exponent) (x : Exponent) → base_at fs b ≡ Ok x → faulty x ≡ false
unfolding base_at
base_sound fs b x e = take_out (sum_sound _ nought fs nought_sound) e

-- ---- one factor more at the base rows before `stop`: those before s have it
pub record Adding (v : View) (n : ℕ) (fs : List Factor) (f : Factor) (stop : ℕ) (at : List Exponent) (s : ℕ) : Type 0 where
  pub done : (t : ℕ) → t < s → base_at (fs ++ (f ∷ [])) (view_at v t) ≡ Ok (get_or at t nought)
  pub left : (t : ℕ) → s ≤ t → t < stop → base_at fs (view_at v t) ≡ Ok (get_or at t nought)
  pub clean : drop n at ≡ replicate (16 - n) nought

-- t is s, or before it
last : {C : Type 0} (t s : ℕ) → t < s + 1 → (t ≡ s → C) → (t < s → C) → C
last {C = C} t s h f g = go (eqb t s) refl
  where
    go : (b : Bool) → eqb t s ≡ b → C
    go true e = f (eqb-true t s e)
    go false e = g (let n = eqb-false t s e in omega arith)

module _ (v : View) (n : ℕ) (fs : List Factor) (f : Factor) where
  pub adding_none : (p : Partial) → Summed v n fs p → Adding v n fs f p.stop p.at 0
  adding_none p h = record { done = λ t k. absurd (omega arith); left = λ t k. h.sums t; clean = h.clean }

  module _ (stop : ℕ) (at : List Exponent) (s : ℕ) (a : Adding v n fs f stop at s) (h : s < stop) where
    pub so_far : base_at fs (view_at v s) ≡ Ok (get_or at s nought)
    so_far = a.left s (omega arith) h

    pub adding_on : stop ≤ n → s < length at → (u : Exponent) → more fs f (view_at v s) (get_or at s nought) ≡ Ok u → Adding v n fs f stop (set at s u) (s + 1)
    adding_on k m u q = record {
      done = λ t l.
          last t s l
          (λ e. subst (λ t. base_at (fs ++ (f ∷ [])) (view_at v t) ≡ Ok (get_or (set at s u) t nought)) (sym e)
          (base_on fs f (view_at v s) (get_or at s nought) u so_far q ∙ ap Ok (sym (get_or-set_same at s u nought m))))
          (λ e. a.done t e ∙ ap Ok (sym (get_or-set_other at s t u nought (λ z. omega arith))));
      left = λ t l r. a.left t (omega arith) r ∙ ap Ok (sym (get_or-set_other at s t u nought (λ z. omega arith)));
      clean = drop-set-lt n at s u (omega arith) ∙ a.clean;
    }

    pub adding_off : stop ≤ n → (r : Refusal) → more fs f (view_at v s) (get_or at s nought) ≡ Err r → Summed v n (fs ++ (f ∷ [])) (record { at = at; stop = s; refusal = Some r })
    adding_off k r e = record {
      within = omega arith;
      sums = a.done;
      ends = (omega arith, base_off fs f (view_at v s) (get_or at s nought) r so_far e);
      clean = a.clean;
    }

  pub adding_end : (p : Partial) (at : List Exponent) (s : ℕ) → Summed v n fs p → Adding v n fs f p.stop at s → p.stop ≤ s → Summed v n (fs ++ (f ∷ [])) (record { at = at; stop = p.stop; refusal = p.refusal })
  adding_end p at s h a k = record {
    within = h.within;
    sums = λ t l. a.done t (omega arith);
    ends = stays p.refusal h.ends;
    clean = a.clean;
  }
    where
      stays : (o : Option Refusal) → Ends v n fs p.stop o → Ends v n (fs ++ (f ∷ [])) p.stop o
      stays None e = e
      stays (Some r) e = (e.0, base_stays fs f (view_at v p.stop) r e.1)

-- ---- the code's turn: it has the factor's own exponent d at base row s and the sum so far, and `term` is what it made of them
abbrev pub read : Factor → List Exponent → ℕ → Exponent → Exponent → Outcome Exponent
read f at s d y = bind (mul? f.exponent d) (λ t. add? (get_or at s y) t)

module _ (v : View) (n : ℕ) (fs : List Factor) (f : Factor) (nums : List ℤ) (dens : List ℕ) (lends : Lends v n nums dens) (rule : faulty f.exponent ≡ false)
    (p : Partial) (so : Summed v n fs p) (at : List Exponent) (s : ℕ) (a : Adding v n fs f p.stop at s)
    (h : s < p.stop) (full : length at ≡ 16) (d : Exponent) (own : d ≡ told nums dens f.row s) (y : Exponent)
    (term : Outcome Exponent) (got : faulty f.exponent ≡ false → faulty (get_or at s y) ≡ false → term ≡ read f at s d y) where
  reads : read f at s d y ≡ more fs f (view_at v s) (get_or at s nought)
  reads =
      let k : s < 16 = omega (arith, so.within, lends.few) in
      ap₂ (λ (d acc : Exponent). bind (mul? f.exponent d) (λ t. add? acc t)) (own ∙ sym (lends.lent f.row s k)) (any_default at s y nought (omega arith))

  is_term : term ≡ more fs f (view_at v s) (get_or at s nought)
  is_term =
      let k : s < 16 = omega (arith, so.within, lends.few) in
      got rule (ap faulty (any_default at s y nought (omega arith)) ∙ base_sound fs (view_at v s) (get_or at s nought) (so_far v n fs f p.stop at s a h))
      ∙ reads

  pub factor_on : (u : Exponent) → term ≡ Ok u → Adding v n fs f p.stop (set at s u) (s + 1)
  factor_on u e = adding_on v n fs f p.stop at s a h so.within (omega (arith, so.within, lends.few)) u (sym is_term ∙ e)

  pub factor_off : (r : Refusal) → term ≡ Err r → Summed v n (fs ++ (f ∷ [])) (record { at = at; stop = s; refusal = Some r })
  factor_off r e = adding_off v n fs f p.stop at s a h so.within r (sym is_term ∙ e)

-- ---- factor by factor along a list: those before i are in
module _ (v : View) (n : ℕ) (fs gs : List Factor) (p : Partial) where
  pub along_none : Summed v n fs p → Summed v n (fs ++ take 0 gs) p
  along_none h = rw append-nil h

  pub along_on : (i : ℕ) (f : Factor) → i < length gs → Summed v n ((fs ++ take i gs) ++ (get_or gs i f ∷ [])) p → Summed v n (fs ++ take (i + 1) gs) p
  along_on i f k h = subst (λ l. Summed v n l p) (append_assoc fs (take i gs) (get_or gs i f ∷ []) ∙ ap (λ l. fs ++ l) (rw (add-one, take-suc gs i f k))) h

  pub along_end : (i : ℕ) → length gs ≤ i → Summed v n (fs ++ take i gs) p → Summed v n (fs ++ gs) p
  along_end i k h = subst (λ l. Summed v n (fs ++ l) p) (take_all i gs k) h

-- ---- the answer
module _ {A B : Type 0} (f : B → Outcome A) (g : ℕ → B) (d : A) where
  -- the same place
  spot : (m n : ℕ) → m ≡ n → f (g m) ≡ f (g n)
  spot m n e = ap (λ m. f (g m)) e

  each_given : (n p : ℕ) (at : List A) → n ≤ length at → ((s : ℕ) → s < n → f (g (p + s)) ≡ Ok (get_or at s d)) → each f (map g (places p n)) ≡ Ok (take n at)
  unfolding each places bind
  each_given zero p at k h = refl
  each_given (suc n) p [] k h = absurd (omega arith)
  each_given (suc n) p (x ∷ at) k h =
      let here : f (g p) ≡ Ok x = spot p (p + 0) (omega arith) ∙ h 0 (omega arith) in
      let rest = each_given n (suc p) at (omega arith) (λ s l. spot (suc p + s) (p + suc s) (omega arith) ∙ h (suc s) (omega arith)) in
      rw (here, rest)

  each_refused : (n k p : ℕ) (at : List A) (r : Refusal) → k < n → ((s : ℕ) → s < k → f (g (p + s)) ≡ Ok (get_or at s d)) → f (g (p + k)) ≡ Err r → each f (map g (places p n)) ≡ Err r
  unfolding each places bind
  each_refused zero k p at r l h e = absurd (omega arith)
  each_refused (suc n) zero p at r l h e = rw (spot p (p + 0) (omega arith) ∙ e)
  each_refused (suc n) (suc k) p at r l h e =
      let here : f (g p) ≡ Ok (get_or at 0 d) = spot p (p + 0) (omega arith) ∙ h 0 (omega arith) in
      let rest = each_refused n k (suc p) (drop 1 at) r (omega arith) (λ s l. spot (suc p + s) (p + suc s) (omega arith) ∙ h (suc s) (omega arith) ∙ ap Ok (tail at s)) (spot (suc p + k) (p + suc k) (omega arith) ∙ e) in
      rw (here, rest)
    where
      tail : (at : List A) (s : ℕ) → get_or at (suc s) d ≡ get_or (drop 1 at) s d
      tail [] s = refl
      tail (x ∷ at) s = refl

pub summed_none : (v : View) (n : ℕ) → n ≤ 16 → Summed v n [] (record { at = replicate 16 nought; stop = n; refusal = None })
unfolding base_at sum?
summed_none v n h = record { within = omega arith; sums = λ s l. ap Ok (sym (blank 16 s (omega arith))); ends = omega arith; clean = rest n 16 }
  where
    blank : (m s : ℕ) → s < m → get_or (replicate m nought) s nought ≡ nought
    blank zero s l = absurd (omega arith)
    blank (suc m) zero l = refl
    blank (suc m) (suc s) l = blank m s (omega arith)

    count : (a b : ℕ) → a ≡ b → replicate a nought ≡ replicate b nought
    count a b e = ap (λ n. replicate n nought) e

    rest : (k m : ℕ) → drop k (replicate m nought) ≡ replicate (m - k) nought
    rest zero zero = refl
    rest zero (suc m) = count (suc m) (suc m - 0) (omega arith)
    rest (suc k) zero = count 0 (0 - suc k) (omega arith)
    rest (suc k) (suc m) = rest k m ∙ count (m - k) (suc m - suc k) (omega arith)

module _ (v : View) (n : ℕ) (fs : List Factor) (p : Partial) (h : Summed v n fs p) where
  pub summed_refused : (r : Refusal) → p.refusal ≡ Some r → Err r ≡ exps_of (base (view_bases v n) fs)
  unfolding base
  summed_refused r e =
      let stops = subst (Ends v n fs p.stop) e h.ends in
      sym (ap exps_of (each_refused (base_at fs) (view_at v) nought n p.stop 0 p.at r stops.0 (λ s q. spot (base_at fs) (view_at v) nought (0 + s) s (omega arith) ∙ h.sums s q) (spot (base_at fs) (view_at v) nought (0 + p.stop) p.stop (omega arith) ∙ stops.1)))

  pub summed_given : p.refusal ≡ None → n ≤ 16 → length p.at ≡ 16 → Ok p.at ≡ exps_of (base (view_bases v n) fs)
  unfolding base pack_exps
  summed_given e k m =
      let l : n ≤ p.stop = subst (Ends v n fs p.stop) e h.ends in
      let long = length-take-le n p.at (omega arith) in
      let all : p.at ≡ pack_exps (take n p.at) = sym (take-append-drop n p.at) ∙ ap (λ t. take n p.at ++ t) (h.clean ∙ ap (λ k. replicate (16 - k) nought) (sym long)) in
      ap Ok all ∙ sym (ap exps_of (each_given (base_at fs) (view_at v) nought n 0 p.at (omega arith) (λ s q. spot (base_at fs) (view_at v) nought (0 + s) s (omega arith) ∙ h.sums s (omega arith))))
