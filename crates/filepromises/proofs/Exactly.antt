-- Read and salvage tell the same of a good file: what is read is kept to the end, and what is kept to the end is read.
use mathlib.Core.Path.{◌≡◌, refl, sym, ap, subst, ◌∙◌}
use mathlib.Core.List.{List, [], ◌∷◌}
use Prim.Native.Nat.{ℕ, ◌-◌, ◌≤◌}
use native.Mathlib.Omega.{arith}
use borrow.Author.Tests.{le-leb}
use lib.ListN.{length}
use Rattle.exponents.specs.Outcome.{Ok}
use Rattle.units.specs.declared.Row.{Row}
use Rattle.beginnings.proofs.Counted.{Whole}
use Rattle.groups.specs.Taken.{taken, then}
use Rattle.groups.specs.Numbers.{groups?, up_to?, number?}
use Rattle.files.specs.Records.{table?, front}
use Rattle.files.proofs.Fronts.{front-all}
use Rattle.tablefiles.specs.Calls.{read_table, kept_from, salvage}
use Rattle.tablefiles.proofs.Reading.{read_file}
use Rattle.tablefiles.proofs.Sized.{read_told, counted, read_few, kept_few}
use Rattle.filepromises.proofs.Whole.{given_whole, whole_given}
use Rattle.filepromises.proofs.Keeping.{kept_whole, kept-each, kept-all, salvage-all}

nil : (u : List ℕ) → length u ≡ 0 → u ≡ []
nil [] h = refl
nil (b ∷ u) h = absurd (omega arith)

number_bytes_lem : (s : List ℕ) (n : ℕ) (t : List ℕ) → number? s ≡ taken n t → 1 ≤ length s
unfolding up_to? groups? then
number_bytes_lem [] n t e = absurd (let z : ◌≡◌ {A = ℕ} 0 1 = cc in omega arith)
number_bytes_lem (b ∷ s) n t e = omega arith

front_read : (places : ℕ) (s : List ℕ) (rs : List Row) (t : List ℕ) → number? s ≡ taken (length rs) t → length rs ≤ places → front (length rs) t ≡ (rs, []) → table? places s ≡ taken rs []
unfolding table? then
front_read places s rs t d h f =
    let a = front-all (length rs) t (ap (λ (p : List Row × List ℕ). length p.0) f) ∙ ap (λ (p : List Row × List ℕ). taken p.0 p.1) f in
    rw (d, le-leb (length rs) places h, a)

module _ (places : ℕ) (s : List ℕ) (rs : List Row) where
  pub read_kept : read_table places s ≡ Ok rs → (salvage places s ≡ (rs, length s)) × ((t : List ℕ) × (number? s ≡ taken (length rs) t))
  read_kept e =
      let r = read_told places s rs e in
      let c = counted places s rs r.left r.formed in
      let few = read_few places s rs e in
      let k = kept-all c.count c.left rs [] c.rows (given_whole rs few.0 r.known r.admitted) in
      let all = salvage-all places s c.count c.left c.number c.room (omega (arith, c.all, few.0)) in
      let end : length s - length (kept_from c.count c.left).1 ≡ length s = omega (arith, ap (λ (p : List Row × List ℕ). length p.1) k) in
      (all ∙ (λ i. ((k i).0, end i)), (c.left, c.number ∙ ap (λ m. taken m c.left) (sym c.all)))

  pub kept_read : (t : List ℕ) → salvage places s ≡ (rs, length s) → number? s ≡ taken (length rs) t → read_table places s ≡ Ok rs
  kept_read t e d =
      let few = kept_few places s in
      let long = ap (λ (p : List Row × ℕ). length p.0) e in
      let most : length rs ≤ 128 = omega arith in
      let room : length rs ≤ places = omega arith in
      let all = sym (salvage-all places s (length rs) t d room most) ∙ e in
      let x : (kept_from (length rs) t).0 ≡ rs = ap (λ (p : List Row × ℕ). p.0) all in
      let y : (kept_from (length rs) t).1 ≡ [] = nil _ (omega (arith, ap (λ (p : List Row × ℕ). p.1) all, number_bytes_lem s (length rs) t d)) in
      let f : front (length rs) t ≡ (rs, []) = kept-each (length rs) t (ap length x) ∙ (λ i. (x i, y i)) in
      let w = whole_given rs most (subst Whole x (kept_whole (length rs) t)) in
      read_file places s rs [] (front_read places s rs t d room f) w.0 w.1
