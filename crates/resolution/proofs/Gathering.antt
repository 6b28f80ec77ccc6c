-- The factors of two checked lists gathered with the rows and keys that an admitted table has for them: what the code reads of the lists and of the table, and what it answers.
use mathlib.Core.Path.{◌≡◌, sym, ◌∙◌, ap, ap₂, subst}
use mathlib.Core.Bool.{Bool, false}
use mathlib.Core.Logic.{⊎_elim}
use mathlib.Core.List.{List, [], ◌∷◌, ◌++◌}
use Prim.Native.Nat.{ℕ, ◌+◌, ◌-◌, ◌*◌, ◌<◌, ◌≤◌}
use native.Mathlib.Omega.{arith}
use native.Mathlib.Nat.{eq-or-lt_of_le}
use lib.IntN.{ℤ}
use lib.ListN.{length, take, drop, get_or, set, length-append, length-drop, take-append-drop, get_or-append}
use lib.Seq.{sets, sets-eq, get_or-take, get_or-append-add, get_or-set_same, get_or-set_other, length-take-le, take-append-le, drop-append-le, take_at, take_all, drop_at}
use borrow.Author.Tests.{ltb-true, not-false}
use Rattle.exponents.specs.Outcome.{Refusal, Outcome, Ok, Err, tested}
use Rattle.exponents.specs.declared.Exponent.{Exponent}
use Rattle.exponents.proofs.Holds.{Holds, held, take_out, holds_unless, one_answer}
use Rattle.exponents.proofs.InRange.{or_left, or_right}
use Rattle.exponents.proofs.Numbers.{clash}
use Rattle.units.specs.declared.Factor.{Factor}
use Rattle.units.specs.declared.Factors.{Factors}
use Rattle.units.specs.Lists.{no_factor, list_of, some, unknown, checked, both}
use Rattle.units.proofs.Laws.{listed, none_at}
use Rattle.units.proofs.Checked.{short, passes, first_passed, second_passed, both_pass}
use Rattle.tables.proofs.Terms.{get_any}
use Rattle.tables.specs.declared.Items.{Items}
use Rattle.keys.specs.Key.{key}
use Rattle.keys.specs.Held.{key_at}
use Rattle.tables.specs.Held.{pack_exps, view_of, pack_items}
use Rattle.tables.specs.Rows.{Facts, nobody}
use Rattle.resolution.specs.declared.Resolved.{Resolved}
use Rattle.resolution.specs.Held.{Keyed, Named, Within, pack_key, resolved_of}
use Rattle.resolution.proofs.KeyPads.{key-packed}

-- ---- two lists that passed, with so many rows

none_append : (fault : Factor → Bool) (xs ys : List Factor) → some fault xs ≡ false → some fault ys ≡ false → some fault (xs ++ ys) ≡ false
unfolding some
none_append fault [] ys p q = q
none_append fault (x ∷ xs) ys p q = rw (or_left (fault x) (some fault xs) p) (none_append fault xs ys (or_right (fault x) (some fault xs) p) q)

all_known : (rows : ℕ) (l : Factors) → Holds (λ fs. some (unknown rows) fs ≡ false) (checked rows l)
unfolding checked
all_known rows l = holds_unless _ _ λ s. holds_unless _ _ λ u. held u

-- the lists joined
abbrev pub join : Factors → Factors → List Factor
join a b = list_of a ++ list_of b

module _ (a b : Factors) (first_full : length a.at ≡ 16) (first_short : a.len ≤ 16) where
  long_first : length (list_of a) ≡ a.len
  long_first = listed a first_full first_short

  -- the factor at place i, as the code reads it
  pub from_first : (i : ℕ) (d : Factor) → i < a.len → get_or a.at i d ≡ get_or (join a b) i d
  from_first i d h = sym (get_or-take a.len a.at i d h) ∙ sym (get_or-append (list_of a) (list_of b) d i (omega (arith, long_first)))

  pub from_second : (i : ℕ) (d : Factor) → a.len ≤ i → i < a.len + b.len → get_or b.at (i - a.len) d ≡ get_or (join a b) i d
  from_second i d h k =
      let e : length (list_of a) + (i - a.len) ≡ i = omega (arith, long_first) in
      sym (get_or-take b.len b.at (i - a.len) d (omega arith))
      ∙ sym (get_or-append-add (list_of a) (list_of b) (i - a.len) d)
      ∙ ap (λ n. get_or (join a b) n d) e

  -- the row that it names, past the end no factor's
  pub row_first : (i : ℕ) (d : Factor) → i < a.len → (get_or a.at i d).row ≡ (get_or (join a b) i no_factor).row
  row_first i d h =
      let there : i < length (join a b) = omega (arith, length-append (list_of a) (list_of b), long_first) in
      ap (λ (f : Factor). f.row) (from_first i d h ∙ get_any (join a b) i d no_factor there)

  pub row_second : (i : ℕ) (d : Factor) → length b.at ≡ 16 → b.len ≤ 16 → a.len ≤ i → i < a.len + b.len → (get_or b.at (i - a.len) d).row ≡ (get_or (join a b) i no_factor).row
  row_second i d full short h k =
      let there : i < length (join a b) = omega (arith, length-append (list_of a) (list_of b), long_first, listed b full short) in
      ap (λ (f : Factor). f.row) (from_second i d h k ∙ get_any (join a b) i d no_factor there)

-- two lists that passed
pub record Lists (rows : ℕ) (a b : Factors) : Type 0 where
  pub passed : Ok tt ≡ tested (both rows a b)
  pub first_full : length a.at ≡ 16
  pub second_full : length b.at ≡ 16

module _ {rows : ℕ} {a b : Factors} (g : Lists rows a b) where
  pub first_short : a.len ≤ 16
  first_short = short rows a (first_passed rows a b g.passed)

  pub second_short : b.len ≤ 16
  second_short = short rows b (second_passed rows a b g.passed)

  pub long_join : length (join a b) ≡ a.len + b.len
  long_join = length-append (list_of a) (list_of b) ∙ ap₂ ◌+◌ (listed a g.first_full first_short) (listed b g.second_full second_short)

  -- it names a row of the table
  pub names_row : (i : ℕ) (d : Factor) → i < a.len + b.len → (get_or (join a b) i d).row < rows
  names_row i d h =
      let none = none_append (unknown rows) (list_of a) (list_of b)
      (take_out (all_known rows a) (passes rows a (first_passed rows a b g.passed)))
      (take_out (all_known rows b) (passes rows b (second_passed rows a b g.passed))) in
      ltb-true _ _ (not-false _ (none_at (unknown rows) (join a b) i d (omega (arith, long_join)) none))

  -- each list is a part of the join
  pub first_part : list_of a ≡ take a.len (drop 0 (join a b))
  first_part = sym (take_at (list_of a) (list_of b) a.len (listed a g.first_full first_short))

  pub second-part : list_of b ≡ take b.len (drop a.len (join a b))
  second-part = sym (ap (take b.len) (drop_at (list_of a) (list_of b) a.len (listed a g.first_full first_short)) ∙ take_all b.len (list_of b) (omega (arith, listed b g.second_full second_short)))

-- ---- an admitted table

-- its key is worked out
module _ {ks : List Facts} (h : Keyed ks) (r : ℕ) (there : r < length ks) (e : List Exponent) (is : e ≡ pack_exps (get_or ks r nobody).exps) where
  key_known : key e ≡ Ok (pack_key (get_or ks r nobody).key)
  key_known = ap key is ∙ key-packed _ _ (h.keys r there)

  pub key_there : (why : Refusal) → Err why ≡ key e → ⊥
  key_there why w = clash (sym key_known ∙ sym w)

  pub key_is : (q : List ℤ) → Ok q ≡ key e → q ≡ pack_key (get_or ks r nobody).key
  key_is q w = one_answer (w ∙ key_known)

-- ---- what is gathered, one factor more

-- the key that is put at place i, and the keys before it
key_here : (keys k : List ℤ) (i : ℕ) → length k ≡ 16 → i * 16 + 16 ≤ length keys → key_at (i * 16) (sets keys (i * 16) k) ≡ k
key_here keys k i n h =
    let head = take (i * 16) keys in
    let tail = drop (i * 16 + length k) keys in
    let m = length-take-le (i * 16) keys (omega arith) in
    ap (key_at (i * 16)) (sets-eq k keys (i * 16) (omega arith))
    ∙ ap (take 16) (drop-append-le (i * 16) (head ++ k) tail (omega (arith, length-append head k)) ∙ ap (λ l. l ++ tail) (drop_at head k (i * 16) m))
    ∙ take_at k tail 16 n

key-kept : (keys k : List ℤ) (i j : ℕ) → length k ≡ 16 → i * 16 + 16 ≤ length keys → j < i → key_at (j * 16) (sets keys (i * 16) k) ≡ key_at (j * 16) keys
key-kept keys k i j n h p =
    let head = take (i * 16) keys in
    let m = length-take-le (i * 16) keys (omega arith) in
    ap (key_at (j * 16)) (sets-eq k keys (i * 16) (omega arith))
    ∙ front (head ++ k) (drop (i * 16 + length k) keys) (omega (arith, length-append head k))
    ∙ front head k (omega arith)
    ∙ sym (front head (drop (i * 16) keys) (omega arith))
    ∙ ap (key_at (j * 16)) (take-append-drop (i * 16) keys)
  where
    front : (xs ys : List ℤ) → j * 16 + 16 ≤ length xs → key_at (j * 16) (xs ++ ys) ≡ key_at (j * 16) xs
    front xs ys q = ap (take 16) (drop-append-le (j * 16) xs ys (omega arith)) ∙ take-append-le 16 (drop (j * 16) xs) ys (omega (arith, length-drop (j * 16) xs))

one_more : {P : ℕ → Type 0} (i : ℕ) → ((j : ℕ) → j < i → P j) → P i → (j : ℕ) → j < i + 1 → P j
one_more {P} i h p j q = ⊎_elim (λ e. subst P (sym e) p) (h j) (eq-or-lt_of_le (omega arith))

module _ (rows : List ℕ) (i r : ℕ) (room : i < length rows) where
  row_kept : (j : ℕ) → j < i → get_or (set rows i r) j 0 ≡ get_or rows j 0
  row_kept j h = get_or-set_other rows i j r 0 (λ e. omega arith)

  pub within_on : r < 128 → Within i rows → Within (i + 1) (set rows i r)
  within_on h w = one_more i (λ j q. rw (row_kept j q) (w j q)) (rw (get_or-set_same rows i r 0 room) h)

  pub named_on : {ks : List Facts} {l : List Factor} {keys : List ℤ} → Named ks l i rows keys → (k : List ℤ) → i < length l → i * 16 + 16 ≤ length keys → r ≡ (get_or l i no_factor).row → r < length ks → length k ≡ 16 →
      k ≡ pack_key (get_or ks r nobody).key → Named ks l (i + 1) (set rows i r) (sets keys (i * 16) k)
  named_on {ks} {l} {keys} g k h space e there n is = record {
    few = omega arith;
    row = one_more i (λ j q. row_kept j q ∙ g.row j q) (get_or-set_same rows i r 0 room ∙ e);
    known = one_more i g.known (subst (λ r. r < length ks) e there);
    key = one_more i (λ j q. key-kept keys k i j n space q ∙ g.key j q) (key_here keys k i n space ∙ is ∙ ap (λ r. pack_key (get_or ks r nobody).key) e);
  }

pub named_none : (ks : List Facts) (l : List Factor) (rows : List ℕ) (keys : List ℤ) → Named ks l 0 rows keys
named_none ks l rows keys = record { few = omega arith; row = λ j h. absurd (omega arith); known = λ j h. absurd (omega arith); key = λ j h. absurd (omega arith) }

-- ---- the answer

-- x and y are the parts of the join
pub resolved_by : {rows : ℕ} {a b : Factors} → Lists rows a b → (ks : List Facts) (x y : Items) → x ≡ pack_items (view_of ks (join a b)) (list_of a) → y ≡ pack_items (view_of ks (join a b)) (list_of b) →
    ◌≡◌ {A = Outcome Resolved} (Ok record { a = x; b = y }) (resolved_of ks (both rows a b))
resolved_by {rows} {a} {b} g ks x y p q = ap₂ (λ (x y : Items). Ok record { a = x; b = y }) p q ∙ sym (ap (resolved_of ks) (both_pass rows a b g.passed))

-- ---- how the loop goes: the rows and the keys of the factors before i are gathered
pub record Gathers (rows : ℕ) (a b : Factors) (i : ℕ) (named : List ℕ) (keys : List ℤ) (Read : List Facts → Type 0) : Type 0 where
  pub lists : Lists rows a b
  pub first : a.len ≤ 16
  pub second : b.len ≤ 16
  pub long_keys : length keys ≡ 512
  pub long_rows : length named ≡ 32
  pub within : Within i named
  pub gathered : (ks : List Facts) → Read ks → Named ks (join a b) i named keys
