-- The form of a record in bytes: it is of one size, reads nothing before and behind it, and what is written is read back. Forms of parts give the form of the whole.
use mathlib.Core.Path.{◌≡◌, refl, sym, ap, ap₂, ◌∙◌}
use mathlib.Core.List.{List, [], ◌∷◌, ◌++◌, append_assoc, append-nil}
use Prim.Native.Nat.{ℕ, zero, suc, ◌+◌, ◌-◌, ◌*◌, ◌≤◌}
use native.Mathlib.Nat.{add_assoc, mul-le-mul_right}
use native.Mathlib.Omega.{arith}
use borrow.Author.Tests.{le-leb}
use lib.ListN.{length, replicate, length-append, length-replicate}
use Rattle.exponents.specs.Words.{All}
use Rattle.wire.specs.Bytes.{run_at, run_bytes, pad_to, count_of}
use Rattle.wire.proofs.Runs.{count_room}

-- what stands before is skipped
abbrev pub Skips : {A : Type 0} → (List ℕ → ℕ → A) → Type 0
Skips read = (p s : List ℕ) (i : ℕ) → read (p ++ s) (length p + i) ≡ read s i

-- what stands behind `size` bytes is not read
abbrev pub Stops : {A : Type 0} → (List ℕ → ℕ → A) → ℕ → Type 0
Stops read size = (s t : List ℕ) (i : ℕ) → i + size ≤ length s → read (s ++ t) i ≡ read s i

-- P tells what can be written
pub record Form {A : Type 0} (P : A → Type 0) (read : List ℕ → ℕ → A) (bytes : A → List ℕ) (size : ℕ) : Type 0 where
  pub sized : (a : A) → P a → length (bytes a) ≡ size
  pub skips : Skips read
  pub stops : Stops read size
  pub back : (a : A) (s : List ℕ) → P a → read (bytes a ++ s) 0 ≡ a

-- a part of n bytes is skipped
pub past : {A : Type 0} {read : List ℕ → ℕ → A} → Skips read → (p s : List ℕ) (n : ℕ) → length p ≡ n → read (p ++ s) n ≡ read s 0
past {read = read} h p s n e = ap (read (p ++ s)) (omega arith) ∙ h p s 0

-- with nothing behind it
pub alone : {A : Type 0} {P : A → Type 0} {read : List ℕ → ℕ → A} {bytes : A → List ℕ} {size : ℕ} → Form P read bytes size → (a : A) → P a → read (bytes a) 0 ≡ a
alone {read = read} {bytes = bytes} f a h = ap (λ s. read s 0) (sym (append-nil (bytes a))) ∙ f.back a [] h

-- ---- a record from its parts

module _ {A B : Type 0} {P : A → Type 0} {read : List ℕ → ℕ → A} {bytes : A → List ℕ} {m : ℕ} (f : Form P read bytes m) where
  -- the same bytes, told as something else
  pub told : {Q : B → Type 0} {read' : List ℕ → ℕ → B} {bytes' : B → List ℕ} (to : A → B) (from : B → A)
      → ((s : List ℕ) (i : ℕ) → read' s i ≡ to (read s i)) → ((b : B) → bytes' b ≡ bytes (from b))
      → ((b : B) → Q b → P (from b)) → ((b : B) → Q b → to (from b) ≡ b) → Form Q read' bytes' m
  told {read' = read'} to from r w p e = record {
    sized = λ b h. ap length (w b) ∙ f.sized (from b) (p b h);
    skips = λ q s i. r (q ++ s) (length q + i) ∙ ap to (f.skips q s i) ∙ sym (r s i);
    stops = λ s t i h. r (s ++ t) i ∙ ap to (f.stops s t i h) ∙ sym (r s i);
    back = λ b s h. ap (λ l. read' (l ++ s) 0) (w b) ∙ r (bytes (from b) ++ s) 0 ∙ ap to (f.back (from b) s (p b h)) ∙ e b h;
  }

  -- one behind the other
  pub then : {Q : B → Type 0} {next : List ℕ → ℕ → B} {bytes' : B → List ℕ} {n : ℕ} → Form Q next bytes' n
      → Form (λ (x : A × B). P x.0 × Q x.1) (λ s i. (read s i, next s (i + m))) (λ x. bytes x.0 ++ bytes' x.1) (m + n)
  then {next = next} {bytes' = bytes'} g = record {
    sized = λ x h. length-append (bytes x.0) (bytes' x.1) ∙ ap₂ ◌+◌ (f.sized x.0 h.0) (g.sized x.1 h.1);
    skips = λ q s i. ap₂ (λ a b. (a, b)) (f.skips q s i) (ap (next (q ++ s)) (add_assoc (length q) i m) ∙ g.skips q s (i + m));
    stops = λ s t i h. ap₂ (λ a b. (a, b)) (f.stops s t i (omega arith)) (g.stops s t (i + m) (omega arith));
    back = λ x s h. rw append_assoc (ap₂ (λ a b. (a, b)) (f.back x.0 (bytes' x.1 ++ s) h.0)
        (past g.skips (bytes x.0) (bytes' x.1 ++ s) (0 + m) (f.sized x.0 h.0 ∙ omega arith) ∙ g.back x.1 s h.1));
  }

-- ---- runs

module _ {A : Type 0} {read : List ℕ → ℕ → A} (size : ℕ) where
  pub run_skips : (n : ℕ) → Skips read → Skips (run_at read size n)
  unfolding run_at
  run_skips zero h p s i = refl
  run_skips (suc n) h p s i = ap₂ (λ a l. a ∷ l) (h p s i) (ap (run_at read size n (p ++ s)) (add_assoc (length p) i size) ∙ run_skips n h p s (i + size))

  pub run_stops : (n : ℕ) → Stops read size → Stops (run_at read size n) (n * size)
  unfolding run_at
  run_stops zero h s t i q = refl
  run_stops (suc n) h s t i q = ap₂ (λ a l. a ∷ l) (h s t i (omega arith)) (run_stops n h s t (i + size) (omega arith))

module _ {A : Type 0} {P : A → Type 0} {read : List ℕ → ℕ → A} {bytes : A → List ℕ} {size : ℕ} (f : Form P read bytes size) where
  pub run_sized : (l : List A) → All P l → length (run_bytes bytes l) ≡ length l * size
  unfolding run_bytes
  run_sized [] h = omega arith
  run_sized (a ∷ l) h = omega (arith, length-append (bytes a) (run_bytes bytes l), f.sized a h.0, run_sized l h.1)

  pub run_back : (l : List A) (s : List ℕ) → All P l → run_at read size (length l) (run_bytes bytes l ++ s) 0 ≡ l
  unfolding run_at run_bytes
  run_back [] s h = refl
  run_back (a ∷ l) s h =
      let rest = run_bytes bytes l ++ s in
      rw append_assoc (ap₂ (λ b m. b ∷ m) (f.back a rest h.0) (past (run_skips size (length l) f.skips) (bytes a) rest (0 + size) (f.sized a h.0 ∙ omega arith) ∙ run_back l s h.1))

-- ---- m places behind the number of those that are in use

-- the places l hold n records that can be written, and are clean past them
pub record Holding {A : Type 0} (P : A → Type 0) (none : A) (m n : ℕ) (l : List A) : Type 0 where
  pub held : List A
  pub fit : All P held
  pub room : length held ≤ m
  pub count : n ≡ length held
  pub places : l ≡ pad_to none m held

-- any l that there is room for
pub holding : {A : Type 0} (P : A → Type 0) (none : A) (m : ℕ) (l : List A) → All P l → length l ≤ m → Holding P none m (length l) (pad_to none m l)
holding P none m l a h = record { held = l; fit = a; room = h; count = refl; places = refl }

all_padded : {A : Type 0} (P : A → Type 0) (l : List A) (n : ℕ) (none : A) → P none → All P l → All P (l ++ replicate n none)
all_padded P [] zero none p h = tt
all_padded P [] (suc n) none p h = (p, all_padded P [] n none p h)
all_padded P (a ∷ l) n none p h = (h.0, all_padded P l n none p h.1)

run-append : {A : Type 0} (bytes : A → List ℕ) (l m : List A) → run_bytes bytes (l ++ m) ≡ run_bytes bytes l ++ run_bytes bytes m
unfolding run_bytes
run-append bytes [] m = refl
run-append bytes (a ∷ l) m = rw append_assoc (ap (λ r. bytes a ++ r) (run-append bytes l m))

module _ {A : Type 0} {P : A → Type 0} {read : List ℕ → ℕ → A} {bytes : A → List ℕ} {size : ℕ} (f : Form P read bytes size) (none : A) (m : ℕ) where
  -- those in use are read, of n of them; none, where n is too many
  abbrev in_use : ℕ → List ℕ → ℕ → List A
  in_use n s i = pad_to none m (run_at read size (count_of m n) s i)

  places_sized : (n : ℕ) (l : List A) → P none → Holding P none m n l → length (run_bytes bytes l) ≡ m * size
  unfolding pad_to
  places_sized n l p h =
      let spare = replicate (m - length h.held) none in
      let long : length (h.held ++ spare) ≡ m = simp (length-append, length-replicate) (omega (arith, h.room)) in
      ap (λ b. length (run_bytes bytes b)) h.places ∙ run_sized f (h.held ++ spare) (all_padded P h.held (m - length h.held) none p h.fit) ∙ ap (λ k. k * size) long

  places_back : (n : ℕ) (l : List A) (s : List ℕ) → Holding P none m n l → in_use n (run_bytes bytes l ++ s) 0 ≡ l
  unfolding pad_to count_of
  places_back n l s h =
      let spare = run_bytes bytes (replicate (m - length h.held) none) in
      let used = ap (λ b. run_at read size (length h.held) b 0) (ap (λ b. b ++ s) (run-append bytes h.held _) ∙ append_assoc (run_bytes bytes h.held) spare s)
      ∙ run_back f h.held (spare ++ s) h.fit in
      rw (h.places, h.count, le-leb (length h.held) m h.room) (ap (λ r. r ++ replicate (m - length r) none) used)

  -- `count` finds the number of places in use in what stands before them
  module _ {B : Type 0} {Q : B → Type 0} {first : List ℕ → ℕ → B} {bytes' : B → List ℕ} {n : ℕ} (g : Form Q first bytes' n) (count : B → ℕ) where
    abbrev pub counted_at : List ℕ → ℕ → B × List A
    counted_at s i = (first s i, in_use (count (first s i)) s (i + n))

    -- places past those in use are not read
    pub counted_stops : (s t : List ℕ) (i : ℕ) → i + (n + count_of m (count (first s i)) * size) ≤ length s → counted_at (s ++ t) i ≡ counted_at s i
    counted_stops s t i h =
        let e = g.stops s t i (omega arith) in
        ap₂ (λ b l. (b, l)) e (ap (λ b. in_use (count b) (s ++ t) (i + n)) e ∙ ap (pad_to none m) (run_stops size (count_of m (count (first s i))) f.stops s t (i + n) (omega arith)))

    pub counted : P none → Form (λ (x : B × List A). Q x.0 × Holding P none m (count x.0) x.1) counted_at (λ x. bytes' x.0 ++ run_bytes bytes x.1) (n + m * size)
    counted p = record {
      sized = λ x h. length-append (bytes' x.0) (run_bytes bytes x.1) ∙ ap₂ ◌+◌ (g.sized x.0 h.0) (places_sized (count x.0) x.1 p h.1);
      skips = λ q s i. ap₂ (λ b l. (b, l)) (g.skips q s i)
          (ap₂ (λ b j. in_use (count b) (q ++ s) j) (g.skips q s i) (add_assoc (length q) i n)
          ∙ ap (pad_to none m) (run_skips size (count_of m (count (first s i))) f.skips q s (i + n)));
      stops = λ s t i h. counted_stops s t i (omega (arith, mul-le-mul_right size (count_room m (count (first s i)))));
      back = λ x s h.
          let r = run_bytes bytes x.1 ++ s in
          let e = g.back x.0 r h.0 in
          rw append_assoc (ap₂ (λ b l. (b, l)) e
          (ap (λ b. in_use (count b) (bytes' x.0 ++ r) (0 + n)) e
          ∙ ap (pad_to none m) (past (run_skips size (count_of m (count x.0)) f.skips) (bytes' x.0) r (0 + n) (g.sized x.0 h.0 ∙ omega arith))
          ∙ places_back (count x.0) x.1 s h.1));
    }
