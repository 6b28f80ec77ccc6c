-- What salvage keeps, where the file's count is read: the front of so many rows, and where it ends.
use mathlib.Core.Path.{◌≡◌, sym, ap, subst, ◌∙◌}
use mathlib.Core.Bool.{Bool, true, false}
use mathlib.Core.List.{List, []}
use Prim.Native.Nat.{ℕ, ◌-◌, ◌≤◌}
use native.Mathlib.Omega.{arith}
use borrow.Author.Tests.{le-leb}
use lib.Dec.{leb}
use lib.ListN.{length, take}
use lib.Seq.{length-take-le}
use Rattle.exponents.specs.Words.{pick}
use Rattle.units.specs.declared.Row.{Row}
use Rattle.tables.specs.Rows.{Facts, admitted}
use Rattle.beginnings.specs.Beginnings.{admitting, before}
use Rattle.beginnings.proofs.Counted.{before-short, Whole, whole_before}
use Rattle.beginnings.proofs.Kept as beginnings
use Rattle.groups.specs.Taken.{nothing, taken}
use Rattle.groups.specs.Numbers.{number?}
use Rattle.files.specs.Records.{front}
use Rattle.filelaws.proofs.Beginnings.{front-first, front-more, front_same}
use Rattle.tablefiles.specs.Calls.{least, kept_from, salvage}

pub least_is : (a b : ℕ) → a ≤ b → least a b ≡ a
least_is a b h = rw (le-leb a b h)

pub least-most : (j a b : ℕ) → j ≤ a → j ≤ b → j ≤ least a b
least-most j a b h k = go (leb a b)
  where
    go : (t : Bool) → j ≤ pick t a b
    go true = h
    go false = k

-- ---- of m rows from t on
module _ (m : ℕ) (t : List ℕ) where
  -- how many are kept
  abbrev pub kept : ℕ
  kept = before (admitting (front m t).0)

  kept-rows : (front kept t).0 ≡ take kept (front m t).0
  kept-rows = front-first m kept t (before-short (front m t).0)

  pub kept-count : length (kept_from m t).0 ≡ kept
  unfolding kept_from
  kept-count = ap length kept-rows ∙ length-take-le kept (front m t).0 (before-short (front m t).0)

  pub kept_whole : Whole (kept_from m t).0
  unfolding kept_from
  kept_whole = subst Whole (sym kept-rows) (beginnings.kept_admitted (front m t).0)

  -- the front of their number
  pub kept-front : kept_from m t ≡ front (length (kept_from m t).0) t
  unfolding kept_from
  kept-front = sym (ap (λ k. front k t) kept-count)

  pub kept-most : (j : ℕ) (ks : List Facts) → j ≤ m → length (front j t).0 ≡ j → admitting (front j t).0 ≡ admitted ks → j ≤ length (kept_from m t).0
  kept-most j ks h e a =
      let k = front-more j m t h e in
      omega (arith, kept-count, beginnings.kept-longest (front m t).0 j ks k (ap admitting (sym (front-first m j t k)) ∙ a))

  pub kept-each : length (kept_from m t).0 ≡ m → front m t ≡ kept_from m t
  kept-each h = sym (kept-front ∙ ap (λ k. front k t) h)

  -- all that are whole, where their table is admitted
  pub kept-all : (rs : List Row) (u : List ℕ) → front m t ≡ (rs, u) → Whole rs → kept_from m t ≡ (rs, u)
  unfolding kept_from
  kept-all rs u e w =
      let all : before (admitting (front m t).0) ≡ length (front m t).0 = rw (ap (λ (p : List Row × List ℕ). p.0) e) (whole_before rs w) in
      ap (λ k. front k t) all ∙ front_same m t ∙ e

-- ---- of a file

module _ (places : ℕ) (s : List ℕ) where
  pub none_kept : number? s ≡ nothing → salvage places s ≡ ([], 0)
  unfolding salvage
  none_kept e = rw e

  pub salvage_is : (n : ℕ) (t : List ℕ) → number? s ≡ taken n t → salvage places s ≡ ((kept_from (least n (least places 128)) t).0, length s - length (kept_from (least n (least places 128)) t).1)
  unfolding salvage
  salvage_is n t e = rw e

  -- a count that fits the places
  pub salvage-all : (n : ℕ) (t : List ℕ) → number? s ≡ taken n t → n ≤ places → n ≤ 128 → salvage places s ≡ ((kept_from n t).0, length s - length (kept_from n t).1)
  salvage-all n t e h k =
      salvage_is n t e ∙ ap (λ m. ((kept_from m t).0, length s - length (kept_from m t).1)) (least_is n (least places 128) (least-most n places 128 h k))
