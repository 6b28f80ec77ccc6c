-- Nothing past a row's definition is read: a row and the row as it comes back from a file are admitted and written alike.
use mathlib.Core.Path.{◌≡◌, refl, sym, ap, ◌∙◌}
use mathlib.Core.List.{List, [], ◌∷◌, ◌++◌, map}
use Prim.Native.Nat.{ℕ, suc, ◌≤◌}
use native.Mathlib.Omega.{arith}
use lib.ListN.{length, take}
use lib.Seq.{length-take-le, take-append_seam}
use Rattle.exponents.specs.Words.{All}
use Rattle.units.specs.declared.Kind.{Kind}
use Rattle.units.specs.declared.Kind.TheVariants.{Base, Derived}
use Rattle.units.specs.declared.Row.{Row}
use Rattle.tables.specs.declared.Slot.{Slot}
use Rattle.tables.specs.Rows.{Facts, def_of, slots_from, slots, table_fault, row_exps, row_scale, worked_out, row_facts, admit_on, admit_from}
use Rattle.wire.specs.Bytes.{run_bytes, pad_to}
use Rattle.files.specs.Records.{kind_file, row_file, clean, cleaned, table_file}
use Rattle.filelaws.proofs.Admitted.{KindKept, Kept}

-- all that is read of a row
pub record Alike (r q : Row) : Type 0 where
  pub rank : r.rank ≡ q.rank
  pub kind : r.kind ≡ q.kind
  pub len : r.len ≡ q.len
  pub def : def_of r ≡ def_of q

module _ (r q : Row) (a : Alike r q) where
  exps_alike : (k : Kind) (ss : List Slot) (ks : List Facts) → row_exps k ss ks r ≡ row_exps k ss ks q
  unfolding row_exps
  exps_alike Base ss ks = refl
  exps_alike (Derived x) ss ks = rw a.def

  scale_alike : (k : Kind) (ks : List Facts) → row_scale k ks r ≡ row_scale k ks q
  unfolding row_scale
  scale_alike Base ks = refl
  scale_alike (Derived x) ks = rw a.def

  facts_alike : (ss : List Slot) (ks : List Facts) → row_facts ss ks r ≡ row_facts ss ks q
  unfolding row_facts table_fault worked_out
  facts_alike ss ks = rw (exps_alike r.kind ss ks, scale_alike r.kind ks, a.def, a.len, a.rank, a.kind)

  bytes_alike : (k : Kind) → kind_file k r ≡ kind_file k q
  unfolding kind_file
  bytes_alike Base = refl
  bytes_alike (Derived x) = rw (a.def, a.len)

  row_alike : row_file r ≡ row_file q
  unfolding row_file
  row_alike = rw (bytes_alike r.kind, a.rank, a.kind)

-- ---- rows, each read as f of it
module _ (f : Row → Row) where
  slots_alike : (i : ℕ) (l : List Slot) (rs : List Row) → All (λ r. Alike (f r) r) rs → slots_from i l (map f rs) ≡ slots_from i l rs
  unfolding slots_from
  slots_alike i l [] h = refl
  slots_alike i l (r ∷ rs) h = rw (h.0.rank, h.0.kind) (slots_alike (suc i) _ rs h.1)

  from_alike : (ss : List Slot) (ks : List Facts) (rs : List Row) → All (λ r. Alike (f r) r) rs → admit_from ss ks (map f rs) ≡ admit_from ss ks rs
  unfolding admit_from
  from_alike ss ks [] h = refl
  from_alike ss ks (r ∷ rs) h = rw (facts_alike (f r) r h.0 ss ks) (ap (admit_on (row_facts ss ks r) ks) (λ i k. from_alike ss (ks ++ (k ∷ [])) rs h.1 i))

  pub admit_alike : (rs : List Row) → All (λ r. Alike (f r) r) rs → admit_from (slots (map f rs)) [] (map f rs) ≡ admit_from (slots rs) [] rs
  admit_alike rs h = ap (λ l. admit_from l [] (map f rs)) (slots_alike 0 [] rs h) ∙ from_alike (slots rs) [] rs h

  run_alike : (rs : List Row) → All (λ r. Alike (f r) r) rs → run_bytes row_file (map f rs) ≡ run_bytes row_file rs
  unfolding run_bytes
  run_alike [] h = refl
  run_alike (r ∷ rs) h = rw (row_alike (f r) r h.0, run_alike rs h.1)

  many_alike : (rs : List Row) → length (map f rs) ≡ length rs
  many_alike [] = refl
  many_alike (r ∷ rs) = ap suc (many_alike rs)

  pub file_alike : (rs : List Row) → All (λ r. Alike (f r) r) rs → table_file (map f rs) ≡ table_file rs
  unfolding table_file
  file_alike rs h = rw (many_alike rs, run_alike rs h)

-- ---- a row as it comes back

clean_alike : (k : Kind) (r : Row) → r.kind ≡ k → r.len ≤ 8 → length r.def ≡ 8 → KindKept k r → Alike (clean k r) r
unfolding clean pad_to
clean_alike Base r e n p h = record { rank = refl; kind = sym e; len = sym h; def = sym (ap (λ m. take m r.def) h) }
clean_alike (Derived x) r e n p h =
    let l : length (def_of r) ≡ r.len = length-take-le r.len r.def (omega arith) in
    record { rank = refl; kind = sym e; len = l; def = take-append_seam (def_of r) _ }

pub cleaned_alike : (r : Row) → Kept 128 r → length r.def ≡ 8 → Alike (cleaned r) r
cleaned_alike r k p = clean_alike r.kind r refl k.few p k.kind
