-- The knots' conversions, all given or the lowest refused; a vector by its conversions; count, degree and tolerance that passed.
use mathlib.Core.Path.{◌≡◌, refl, sym, ◌∙◌, ap}
use mathlib.Core.Bool.{true, false}
use mathlib.Core.List.{List, [], ◌∷◌, ◌++◌}
use Prim.Native.Nat.{ℕ, ◌+◌, ◌≤◌, ◌<◌}
use native.Mathlib.Numerals.{add-one}
use native.Mathlib.Omega.{arith}
use borrow.Author.Tests.{ltb-false, not-false}
use lib.Dec.{ltb}
use lib.ListN.{length, length-map}
use lib.Ieee.{Float}
use Rattle.exponents.specs.Outcome.{Refusal, ORDER, ARGUMENT, Outcome, Ok, Err, apply}
use Rattle.exponents.proofs.InRange.{or_left, or_right}
use Rattle.exponents.proofs.Steps.{unless_on, unless_off, bind_on, bind_off, each_none, each_first}
use Rattle.knotruns.specs.Values.{tolerable, argument_fault, unordered}
use Rattle.knotruns.specs.Runs.{runs}
use Rattle.knotruns.specs.Knots.{converted, uncrowded, merged, vector}
use Rattle.knotruns.specs.Held.{all}

-- ---- one conversion after the other

given_first : (x : Float) (cs : List (Outcome Float)) → converted (Ok x ∷ cs) ≡ apply (λ m. x ∷ m) (converted cs)
given_first x cs = rw (each_first, bind_on)

refused_first : (r : Refusal) (cs : List (Outcome Float)) → converted (Err r ∷ cs) ≡ Err r
refused_first r cs = rw (each_first, bind_off)

-- all given
pub all_given : (xs : List Float) → converted (all xs) ≡ Ok xs
all_given [] = each_none (λ o. o)
all_given (x ∷ l) = given_first x (all l) ∙ rw (all_given l)

-- the conversions before it given, one refused: that refusal, whatever follows
pub stops : (vs : List Float) (r : Refusal) (cs : List (Outcome Float)) → converted (all vs ++ Err r ∷ cs) ≡ Err r
stops [] r cs = refused_first r cs
stops (v ∷ vs) r cs = given_first v (all vs ++ Err r ∷ cs) ∙ rw (stops vs r cs)

-- all given: the conversions are the values
cons_given : (v : Float) (o : Outcome (List Float)) (xs : List Float) → apply (λ m. v ∷ m) o ≡ Ok xs → (l : List Float) × (o ≡ Ok l) × (xs ≡ v ∷ l)
cons_given v (Ok l) xs h = (l, refl, cc)
cons_given v (Err r) xs h = let z : ◌≡◌ {A = ℕ} 0 1 = cc in absurd (omega arith)

pub given_all : (cs : List (Outcome Float)) (xs : List Float) → converted cs ≡ Ok xs → cs ≡ all xs
given_all [] xs h =
    let g : Ok [] ≡ Ok xs = sym (each_none (λ o. o)) ∙ h in
    let e : [] ≡ xs = cc in
    rw (sym e)
given_all (Ok v ∷ cs) xs h =
    let p = cons_given v (converted cs) xs (sym (given_first v cs) ∙ h) in
    ap (λ l. Ok v ∷ l) (given_all cs p.0 p.1) ∙ ap all (sym p.2)
given_all (Err r ∷ cs) xs h =
    let g : Err r ≡ Ok xs = sym (refused_first r cs) ∙ h in
    let z : ◌≡◌ {A = ℕ} 0 1 = cc in
    absurd (omega arith)

-- the same conversions have the same values
pub all_same : (xs ys : List Float) → all xs ≡ all ys → xs ≡ ys
all_same xs ys e =
    let g : Ok xs ≡ Ok ys = sym (all_given xs) ∙ ap converted e ∙ all_given ys in
    cc

-- one refused: the lowest is behind knots that all convert
cons_refused : (v : Float) (o : Outcome (List Float)) (r : Refusal) → apply (λ m. v ∷ m) o ≡ Err r → o ≡ Err r
cons_refused v (Ok l) r h = let z : ◌≡◌ {A = ℕ} 0 1 = cc in absurd (omega arith)
cons_refused v (Err q) r h = cc

pub lowest : (cs : List (Outcome Float)) (r : Refusal) → converted cs ≡ Err r → (vs : List Float) × (more : List (Outcome Float)) × (cs ≡ all vs ++ Err r ∷ more)
lowest [] r h =
    let g : Ok [] ≡ Err r = sym (each_none (λ o. o)) ∙ h in
    let z : ◌≡◌ {A = ℕ} 0 1 = cc in
    absurd (omega arith)
lowest (Ok v ∷ cs) r h =
    let l = lowest cs r (cons_refused v (converted cs) r (sym (given_first v cs) ∙ h)) in
    (v ∷ l.0, l.1, ap (λ m. Ok v ∷ m) l.2)
lowest (Err q ∷ cs) r h =
    let g : Err q ≡ Err r = sym (refused_first q cs) ∙ h in
    let e : q ≡ r = cc in
    ([], cs, ap (λ p. Err p ∷ cs) e)

-- ---- a vector by its conversions alone

pub vector_fault : (cs : List (Outcome Float)) (d : ℕ) (t : Float) → argument_fault (length cs) d t ≡ true → vector cs d t ≡ Err ARGUMENT
unfolding vector
vector_fault cs d t h = rw (h, unless_on)

pub vector_refused : (cs : List (Outcome Float)) (d : ℕ) (t : Float) (r : Refusal) → argument_fault (length cs) d t ≡ false → converted cs ≡ Err r → vector cs d t ≡ Err r
unfolding vector
vector_refused cs d t r h e = rw (h, unless_off, e, bind_off)

pub vector_given : (cs : List (Outcome Float)) (d : ℕ) (t : Float) (xs : List Float) → argument_fault (length cs) d t ≡ false → converted cs ≡ Ok xs → vector cs d t ≡ merged d t xs
unfolding vector
vector_given cs d t xs h e = rw (h, unless_off, e, bind_on)

-- of given values
pub vector-all : (xs : List Float) (d : ℕ) (t : Float) → argument_fault (length xs) d t ≡ false → vector (all xs) d t ≡ merged d t xs
vector-all xs d t h = vector_given (all xs) d t xs (ap (λ n. argument_fault n d t) (length-map xs Ok) ∙ h) (all_given xs)

pub all_fault : (xs : List Float) (d : ℕ) (t : Float) → argument_fault (length xs) d t ≡ true → vector (all xs) d t ≡ Err ARGUMENT
all_fault xs d t h = vector_fault (all xs) d t (ap (λ n. argument_fault n d t) (length-map xs Ok) ∙ h)

pub all_order : (xs : List Float) (d : ℕ) (t : Float) → argument_fault (length xs) d t ≡ false → unordered xs ≡ true → vector (all xs) d t ≡ Err ORDER
unfolding merged
all_order xs d t h u = rw (vector-all xs d t h, u, unless_on)

pub all_merged : (xs : List Float) (d : ℕ) (t : Float) → argument_fault (length xs) d t ≡ false → unordered xs ≡ false → vector (all xs) d t ≡ uncrowded (d + 1) (runs t xs)
unfolding merged
all_merged xs d t h u = rw (vector-all xs d t h, u, unless_off, add-one d)

-- ---- the same, as a survey tells the number of runs

pub tell_order : (xs : List Float) (d : ℕ) (t : Float) → argument_fault (length xs) d t ≡ false → unordered xs ≡ true → Err ORDER ≡ apply length (vector (all xs) d t)
tell_order xs d t h u = sym (ap (apply length) (all_order xs d t h u))

pub tell_merged : (xs : List Float) (d : ℕ) (t : Float) → argument_fault (length xs) d t ≡ false → unordered xs ≡ false → apply length (uncrowded (d + 1) (runs t xs)) ≡ apply length (vector (all xs) d t)
tell_merged xs d t h u = sym (ap (apply length) (all_merged xs d t h u))

-- ---- past ARGUMENT

pub record Sound (n d : ℕ) (t : Float) : Type 0 where
  pub some : 0 < n
  pub most : n ≤ 512
  pub low : 0 < d
  pub high : d ≤ 9
  pub bears : tolerable t ≡ true

pub sound : (n d : ℕ) (t : Float) → argument_fault n d t ≡ false → Sound n d t
unfolding argument_fault
sound n d t h =
    let a = or_right (ltb n 1) _ h in
    let b = or_right (ltb 512 n) _ a in
    let e = or_right (ltb d 1) _ b in
    record {
      some = omega (arith, ltb-false n 1 (or_left (ltb n 1) _ h));
      most = ltb-false 512 n (or_left (ltb 512 n) _ a);
      low = omega (arith, ltb-false d 1 (or_left (ltb d 1) _ b));
      high = ltb-false 9 d (or_left (ltb 9 d) _ e);
      bears = not-false (tolerable t) (or_right (ltb 9 d) _ e);
    }
