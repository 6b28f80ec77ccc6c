-- The code of a table: rows read one after the other as far as they are whole, and the whole file.
use mathlib.Core.Path.{◌≡◌, refl, sym, ap, ◌∙◌}
use mathlib.Core.Bool.{Bool, true, false, not, ◌||◌}
use mathlib.Core.List.{List, [], ◌∷◌, ◌++◌, append_assoc, append-nil}
use Prim.Native.Nat.{ℕ, suc, ◌+◌, ◌-◌, ◌≤◌, ◌<◌}
use native.Mathlib.Nat.{sub-zero}
use native.Mathlib.Omega.{arith}
use borrow.Author.Tests.{eqb-true, eqb-false, le-leb}
use lib.Dec.{eqb}
use lib.ListN.{length, set, drop, replicate, length-append, length-replicate, length-drop}
use Rattle.units.specs.declared.Row.{Row}
use Rattle.lent.specs.Lent.{no_row, over, lent_rows_lem}
use Rattle.groups.specs.Taken.{nothing, then}
use Rattle.files.specs.Records.{row?, front, table?}
use Rattle.groups.specs.Held.{handed}
use Rattle.filereads.specs.Held.{front_of, rows_read_of}
use Rattle.std.specs.declared.option.Option.{Option}
use Rattle.std.specs.declared.option.Option.TheVariants.{None, Some}
use Rattle.filereads.specs.declared.Front.{Front}
use Rattle.groups.specs.Numbers.{up_to?}
use Rattle.groups.proofs.Steps.{Read, behind, found, missing}
use Rattle.files.proofs.Tables.{row_leaves}
use Rattle.files.proofs.Fronts.{front-all, front-some, front_shorter, no_bytes, some_bytes}

-- ---- a row found

pub row_found : (s : List ℕ) (at i : ℕ) (r : Row) (x : Option (Row × ℕ)) → x ≡ handed (length s) (row? (drop at s)) → x ≡ Some (r, i) → Read row? s at r i
row_found s at i r x d e = found {r = row?} row_leaves s at x d r i e

pub row_missing : (s : List ℕ) (at : ℕ) (x : Option (Row × ℕ)) → x ≡ handed (length s) (row? (drop at s)) → x ≡ None → row? (drop at s) ≡ nothing
row_missing s at x d e = missing {r = row?} row_leaves s at x d e

-- ---- one row more over the places

pub over_put : {A : Type 0} (l ys : List A) (a : A) → set (over l ys) (length l) a ≡ over (l ++ (a ∷ [])) ys
unfolding over
over_put [] [] a = refl
over_put [] (y ∷ ys) a = refl
over_put (x ∷ l) [] a = refl
over_put (x ∷ l) (y ∷ ys) a = ap (λ m. x ∷ m) (over_put l ys a)

pub over_past : {A : Type 0} (l ys : List A) (a : A) → length ys ≤ length l → over l ys ≡ over (l ++ (a ∷ [])) ys
unfolding over
over_past [] [] a h = refl
over_past [] (y ∷ ys) a h = absurd (omega arith)
over_past (x ∷ l) [] a h = refl
over_past (x ∷ l) (y ∷ ys) a h = ap (λ m. x ∷ m) (over_past l ys a (omega arith))

-- ---- up to n rows: those held so far, and those to come

abbrev after : List Row → List Row × List ℕ → List Row × List ℕ
after l f = (l ++ f.0, f.1)

pub record Kept (s : List ℕ) (at n : ℕ) (a : List Row) (p i : ℕ) : Type 0 where
  pub held : List Row
  pub count : length held ≡ i
  pub within : i ≤ n
  pub places : a ≡ over held (replicate 128 no_row)
  pub inside : p ≤ length s
  pub rest : after held (front (n - i) (drop p s)) ≡ front n (drop at s)

pub kept_none : (s : List ℕ) (at n : ℕ) (a : List Row) → at ≤ length s → a ≡ replicate 128 no_row → Kept s at n a at 0
unfolding over
kept_none s at n a h e = record { held = []; count = refl; within = omega arith; places = e; inside = h; rest = rw (sub-zero n) }

module _ (s : List ℕ) (at n : ℕ) (a : List Row) (p i : ℕ) (z : Kept s at n a p i) where
  front_on_lem : (m : ℕ) (r : Row) (q : ℕ) → Read row? s p r q → front (suc m) (drop p s) ≡ after (r ∷ []) (front m (drop q s))
  unfolding front
  front_on_lem m r q e = rw e.reads

  front_off : (m : ℕ) → row? (drop p s) ≡ nothing → front (suc m) (drop p s) ≡ ([], drop p s)
  unfolding front
  front_off m e = rw e

  front_end : front 0 (drop p s) ≡ ([], drop p s)
  unfolding front
  front_end = refl

  kept_next : (b : List Row) (r : Row) (q : ℕ) → i < n → Read row? s p r q → b ≡ over (z.held ++ (r ∷ [])) (replicate 128 no_row) → Kept s at n b q (i + 1)
  kept_next b r q h e g =
      let k : n - i ≡ suc (n - (i + 1)) = omega arith in
      let f = front (n - (i + 1)) (drop q s) in
      record {
        held = z.held ++ (r ∷ []);
        count = simp length-append (ap (λ x. x + 1) z.count);
        within = omega arith;
        places = g;
        inside = e.inside;
        rest = ap (λ l. (l, f.1)) (append_assoc z.held (r ∷ []) f.0) ∙ ap (after z.held) (sym (ap (λ m. front m (drop p s)) k ∙ front_on_lem (n - (i + 1)) r q e)) ∙ z.rest;
      }

  -- there is a place for it
  pub kept_on : (r : Row) (q : ℕ) → i < n → Read row? s p r q → Kept s at n (set a i r) q (i + 1)
  kept_on r q h e = kept_next (set a i r) r q h e (ap (λ x. set x i r) z.places ∙ ap (λ x. set (over z.held (replicate 128 no_row)) x r) (sym z.count) ∙ over_put z.held (replicate 128 no_row) r)

  -- there is none
  pub kept_past : (r : Row) (q : ℕ) → i < n → 128 ≤ i → Read row? s p r q → Kept s at n a q (i + 1)
  kept_past r q h k e = kept_next a r q h e (z.places ∙ over_past z.held (replicate 128 no_row) r (omega (arith, z.count, length-replicate 128 no_row)))

  held_of : (f : List Row × List ℕ) → f ≡ ([], drop p s) → after z.held f ≡ (z.held, drop p s)
  held_of f e = rw (e, append-nil)

  told : front n (drop at s) ≡ (z.held, drop p s) → record { rows = record { at = a; len = i }; next = p } ≡ front_of (length s) (front n (drop at s))
  unfolding lent_rows_lem
  told e = rw (e, z.places, behind s p z.inside, z.count)

  pub kept_off : i < n → row? (drop p s) ≡ nothing → record { rows = record { at = a; len = i }; next = p } ≡ front_of (length s) (front n (drop at s))
  kept_off h e =
      let k : n - i ≡ suc (n - (i + 1)) = omega arith in
      told (sym z.rest ∙ held_of (front (n - i) (drop p s)) (ap (λ m. front m (drop p s)) k ∙ front_off (n - (i + 1)) e))

  pub kept_end : n ≤ i → record { rows = record { at = a; len = n }; next = p } ≡ front_of (length s) (front n (drop at s))
  kept_end h =
      let k : n - i ≡ 0 = omega (arith, z.within) in
      let e : n ≡ i = omega (arith, z.within) in
      ap (λ m. record { rows = record { at = a; len = m }; next = p }) e ∙ told (sym z.rest ∙ held_of (front (n - i) (drop p s)) (ap (λ m. front m (drop p s)) k ∙ front_end))

-- ---- the whole file

module _ (places : ℕ) (s : List ℕ) where
  module _ (n at : ℕ) (p : Read (up_to? 4294967295) s 0 n at) where
    module _ (k : n ≤ places) (f : Front) (g : f ≡ front_of (length s) (front n (drop at s))) where
      rest_none : f.next ≡ length s → length (front n (drop at s)).1 ≡ 0
      rest_none e = omega (arith, ap (λ x. x.next) g, front_shorter n (drop at s), length-drop at s)

      rest_some : (f.next ≡ length s → ⊥) → length (front n (drop at s)).1 ≡ 0 → ⊥
      rest_some e z = e (ap (λ x. x.next) g ∙ omega (arith, front_shorter n (drop at s), length-drop at s))

      table_2 : (f.rows.len ≡ n → ⊥) → None ≡ rows_read_of (table? places s)
      unfolding table? then lent_rows_lem
      table_2 h = rw (p.reads, le-leb n places k, front-some n (drop at s) (λ e. h (ap (λ x. x.rows.len) g ∙ e)))

      table_3 : f.rows.len ≡ n → (f.next ≡ length s → ⊥) → None ≡ rows_read_of (table? places s)
      unfolding table? then lent_rows_lem
      table_3 h z = rw (p.reads, le-leb n places k, front-all n (drop at s) (sym (ap (λ x. x.rows.len) g) ∙ h), some_bytes (front n (drop at s)).1 (rest_some z))

      table_4 : f.rows.len ≡ n → f.next ≡ length s → Some f.rows ≡ rows_read_of (table? places s)
      unfolding table? then lent_rows_lem
      table_4 h z =
          rw (p.reads, le-leb n places k, front-all n (drop at s) (sym (ap (λ x. x.rows.len) g) ∙ h), no_bytes (front n (drop at s)).1 (rest_none z)) (ap (λ x. Some x) (ap (λ x. x.rows) g))

      -- by the test that the code makes
      pub table_broken : (not (eqb f.rows.len n) || not (eqb f.next (length s))) ≡ true → None ≡ rows_read_of (table? places s)
      table_broken e = go (eqb f.rows.len n) (eqb f.next (length s)) refl refl e
        where
          go : (x y : Bool) → eqb f.rows.len n ≡ x → eqb f.next (length s) ≡ y → (not x || not y) ≡ true → None ≡ rows_read_of (table? places s)
          go false y a b e = table_2 (eqb-false f.rows.len n a)
          go true false a b e = table_3 (eqb-true f.rows.len n a) (eqb-false f.next (length s) b)
          go true true a b e = let w : ◌≡◌ {A = ℕ} 0 1 = cc in absurd (omega arith)

      pub table-whole : (not (eqb f.rows.len n) || not (eqb f.next (length s))) ≡ false → Some f.rows ≡ rows_read_of (table? places s)
      table-whole e = go (eqb f.rows.len n) (eqb f.next (length s)) refl refl e
        where
          go : (x y : Bool) → eqb f.rows.len n ≡ x → eqb f.next (length s) ≡ y → (not x || not y) ≡ false → Some f.rows ≡ rows_read_of (table? places s)
          go false y a b e = let w : ◌≡◌ {A = ℕ} 0 1 = cc in absurd (omega arith)
          go true false a b e = let w : ◌≡◌ {A = ℕ} 0 1 = cc in absurd (omega arith)
          go true true a b e = table_4 (eqb-true f.rows.len n a) (eqb-true f.next (length s) b)
