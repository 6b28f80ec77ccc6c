-- Two outcomes that refuse alike: both answer, and R holds between their answers, or both refuse by one refusal.
use mathlib.Core.Path.{◌≡◌, refl, subst}
use mathlib.Core.Bool.{Bool, true, false}
use Prim.Native.Nat.{ℕ}
use native.Mathlib.Omega.{arith}
use Rattle.exponents.specs.Outcome.{Refusal, Outcome, Ok, Err, unless, apply, bind}
use Rattle.exponents.proofs.Holds.{Holds, moot, held}

pub data Matched {A B : Type 0} (R : A → B → Type 0) : Outcome A → Outcome B → Type 0 where
  answers : {a : A} {b : B} → R a b → Matched R (Ok a) (Ok b)
  refuses : {r : Refusal} → Matched R (Err r) (Err r)

-- that an outcome answers, or its refusal
abbrev pub mute : {A : Type 0} → Outcome A → Outcome (Unit {0})
mute o = apply (λ _. tt) o

module _ {A B : Type 0} {R : A → B → Type 0} where
  pub matched_unless : (t : Bool) (r : Refusal) {o : Outcome A} {p : Outcome B} → (t ≡ false → Matched R o p) → Matched R (unless t r o) (unless t r p)
  unfolding unless
  matched_unless true r h = refuses
  matched_unless false r h = h refl

  pub matched_imp : {S : A → B → Type 0} {o : Outcome A} {p : Outcome B} → Matched R o p → ((a : A) (b : B) → R a b → S a b) → Matched S o p
  matched_imp (answers {a = a} {b = b} r) h = answers (h a b r)
  matched_imp refuses h = refuses

  pub matched_bind : {C D : Type 0} {S : C → D → Type 0} {o : Outcome A} {p : Outcome B} (f : A → Outcome C) (g : B → Outcome D) → Matched R o p → ((a : A) (b : B) → R a b → Matched S (f a) (g b)) → Matched S (bind o f) (bind p g)
  unfolding bind
  matched_bind f g (answers {a = a} {b = b} r) h = h a b r
  matched_bind f g refuses h = refuses

pub matched_same : {A : Type 0} (o : Outcome A) → Matched (λ a b. a ≡ b) o o
matched_same (Ok a) = answers refl
matched_same (Err r) = refuses

module _ {A B : Type 0} {P : A → Type 0} {Q : B → Type 0} where
  pub matched_by : {o : Outcome A} {p : Outcome B} → Holds P o → Holds Q p → mute o ≡ mute p → Matched (λ a b. P a × Q b) o p
  matched_by (moot {r = r}) (moot {r = s}) e = let z : r ≡ s = cc in subst (λ t. Matched (λ a b. P a × Q b) (Err r) (Err t)) z refuses
  matched_by moot (held h) e = absurd (let z : ◌≡◌ {A = ℕ} 0 1 = cc in omega arith)
  matched_by (held h) moot e = absurd (let z : ◌≡◌ {A = ℕ} 0 1 = cc in omega arith)
  matched_by (held h) (held k) e = answers (h, k)
