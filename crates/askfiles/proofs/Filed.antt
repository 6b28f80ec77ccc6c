-- A table's file behind its length, written into the room behind the two numbers: the part's reply tells the room's.
use mathlib.Core.Path.{◌≡◌, refl, sym, ap, ◌∙◌}
use mathlib.Core.Bool.{Bool, true, false}
use mathlib.Core.List.{List, ◌++◌, append_assoc}
use Prim.Native.Nat.{ℕ, ◌+◌, ◌-◌, ◌≤◌, ◌<◌, min}
use native.Mathlib.Omega.{arith}
use borrow.Author.Tests.{ltb-true, ltb-false, lt-ltb, le-ltb}
use lib.Dec.{ltb}
use lib.ListN.{length, take, drop, length-append, length-drop, take-append-drop}
use lib.Seq.{sets, length-take-le, drop-drop}
use Rattle.exponents.specs.Outcome.{Refusal, ROOM, Outcome, Ok, Err, unless, bind}
use Rattle.wire.specs.Bytes.{bytes_of}
use Rattle.wire.proofs.Digits.{length-bytes_of}
use Rattle.exponents.proofs.Holds.{one_answer}
use Rattle.exponents.proofs.Numbers.{clash}
use Rattle.replies.specs.Replies.{sent, left}
use Rattle.replies.specs.Held.{reply_of, Replied}
use Rattle.replies.proofs.Headed.{left-part, head_written}
use Rattle.askfiles.specs.Calls.{file_reply}

-- the file's outcome, against the room that is lent for it
abbrev pub asked : ℕ → Outcome (List ℕ) → Outcome (List ℕ)
asked room o = bind o (λ f. unless (ltb room (length f)) ROOM (Ok (file_reply f)))

-- no file is empty
abbrev pub Some : Outcome (List ℕ) → Type 0
Some o = (f : List ℕ) → o ≡ Ok f → 0 < length f

reply_length : (f : List ℕ) → length (file_reply f) ≡ 8 + length f
unfolding file_reply
reply_length f = simp (length-append, length-bytes_of) (omega arith)

-- the part of the room behind the two numbers, from one place on for q bytes, and the room with the part changed
abbrev part : List ℕ → ℕ → ℕ → List ℕ
part out from q = take (from + q - from) (drop from out)

abbrev with : List ℕ → ℕ → ℕ → List ℕ → List ℕ
with out from q end = take from out ++ (end ++ drop (from + q - from) (drop from out))

with_same : (out : List ℕ) (from q : ℕ) → with out from q (part out from q) ≡ out
with_same out from q = rw (take-append-drop, take-append-drop)

module _ (out : List ℕ) (from room q : ℕ) (hf : from ≡ min (length out) 8) (hq : q ≡ min room (length out - from)) where
  part_length : length (part out from q) ≡ q
  part_length = length-take-le (from + q - from) (drop from out) (omega (arith, length-drop from out)) ∙ omega arith

  -- ---- a refusal: the part's is the room's

  record Refusing (o : Outcome (List ℕ)) (w : Refusal) : Type 0 where
    part_is : sent (part out from q) o ≡ Err w
    all_is : sent out (asked room o) ≡ Err w

  no_room_at_all : (f : List ℕ) → q < length f → sent out (asked room (Ok f)) ≡ Err ROOM
  unfolding sent bind unless
  no_room_at_all f h = go (ltb room (length f)) refl
    where
      go : (b : Bool) → ltb room (length f) ≡ b → bind (unless b ROOM (Ok (file_reply f))) (λ bs. unless (ltb (length out) (length bs)) ROOM (Ok bs)) ≡ Err ROOM
      go true e = refl
      go false e =
          let k = ltb-false room (length f) e in
          rw (lt-ltb (length out) (length (file_reply f)) (omega (arith, reply_length f)))

  refusing : (o : Outcome (List ℕ)) (w : Refusal) → Err w ≡ reply_of (sent (part out from q) o) → Refusing o w
  unfolding sent bind unless
  refusing (Err v) w t = let z : v ≡ w = cc in record { part_is = ap Err z; all_is = ap Err z }
  refusing (Ok f) w t = go (ltb (length (part out from q)) (length f)) refl t
    where
      go : (b : Bool) → ltb (length (part out from q)) (length f) ≡ b → Err w ≡ reply_of (unless b ROOM (Ok f)) → Refusing (Ok f) w
      go true e t =
          let z : ROOM ≡ w = cc in
          record { part_is = rw e (ap Err z); all_is = no_room_at_all f (omega (arith, ltb-true (length (part out from q)) (length f) e, part_length)) ∙ ap Err z }
      go false e t = absurd (clash (sym t))

  -- ---- an answer: a file that has room

  record Answering (o : Outcome (List ℕ)) (n : ℕ) : Type 0 where
    file : List ℕ
    is : o ≡ Ok file
    len : n ≡ length file
    fits : length file ≤ q
    part_is : sent (part out from q) o ≡ Ok file

  answering : (o : Outcome (List ℕ)) (n : ℕ) → Ok n ≡ reply_of (sent (part out from q) o) → Answering o n
  unfolding sent bind unless
  answering (Err w) n t = absurd (clash t)
  answering (Ok f) n t = go (ltb (length (part out from q)) (length f)) refl t
    where
      go : (b : Bool) → ltb (length (part out from q)) (length f) ≡ b → Ok n ≡ reply_of (unless b ROOM (Ok f)) → Answering (Ok f) n
      go true e t = absurd (clash t)
      go false e t = record { file = f; is = refl; len = one_answer t; fits = omega (arith, ltb-false (length (part out from q)) (length f) e, part_length); part_is = rw e }

  all_given : (f : List ℕ) → length f ≤ room → 8 + length f ≤ length out → sent out (asked room (Ok f)) ≡ Ok (file_reply f)
  unfolding sent bind unless
  all_given f a b = rw (le-ltb room (length f) a, le-ltb (length out) (length (file_reply f)) (omega (arith, reply_length f)))

  module _ (o : Outcome (List ℕ)) (some : Some o) (end : List ℕ) (left_there : end ≡ left (part out from q) (sent (part out from q) o)) where
    pub file_refused : (w : Refusal) → Err w ≡ reply_of (sent (part out from q) o) → (r : Outcome ℕ) → r ≡ Err w → Replied out (asked room o) r (with out from q end)
    file_refused w t r s =
        let x = refusing o w t in (
          s ∙ ap reply_of (sym x.all_is),
          ap (with out from q) (left_there ∙ ap (left (part out from q)) x.part_is) ∙ with_same out from q ∙ ap (left out) (sym x.all_is),
        )

    module _ (n : ℕ) (told : Ok n ≡ reply_of (sent (part out from q) o)) where
      a : Answering o n
      a = answering o n told

      -- the two numbers are there
      begins : from ≡ 8
      begins = omega (arith, a.fits, some a.file a.is)

      pub long_enough : 8 ≤ length out
      long_enough = omega (arith, begins)

      pub file_short : 8 + n ≤ length out
      file_short = omega (arith, a.len, a.fits, begins)

      fits_room : sent out (asked room o) ≡ Ok (file_reply a.file)
      fits_room = ap (λ p. sent out (asked room p)) a.is ∙ all_given a.file (omega (arith, a.fits)) (omega (arith, file_short, a.len))

      -- from place 8 on
      laid : with out from q end ≡ take 8 out ++ (a.file ++ drop (length a.file) (drop 8 out))
      laid =
          ap (with out from q) (left_there ∙ ap (left (part out from q)) a.part_is)
          ∙ ap (λ b. take b out ++ ((a.file ++ drop (length a.file) (take (b + q - b) (drop b out))) ++ drop (b + q - b) (drop b out))) begins
          ∙ ap (λ z. take 8 out ++ z) (left-part (drop 8 out) (8 + q - 8) (Ok a.file) (omega (arith, length-drop 8 out, begins)) (omega (arith, a.fits)))

      pub file_written : (l₁ l₂ : List ℕ) → l₁ ≡ sets (with out from q end) 0 (bytes_of 4 n) → l₂ ≡ sets l₁ 4 (bytes_of 4 0) → Replied out (asked room o) (Ok (8 + n)) l₂
      unfolding file_reply
      file_written l₁ l₂ x y =
          let z = a.file ++ drop (length a.file) (drop 8 out) in
          let w : l₂ ≡ (bytes_of 4 (length a.file) ++ bytes_of 4 0) ++ z =
          y ∙ ap (λ l. sets l 4 (bytes_of 4 0)) (x ∙ ap (λ l. sets l 0 (bytes_of 4 n)) laid)
          ∙ head_written out z 0 n 0 long_enough
          ∙ ap (λ n. (bytes_of 4 n ++ bytes_of 4 0) ++ z) a.len in (
            ap (λ k. Ok (8 + k)) a.len ∙ ap Ok (sym (reply_length a.file)) ∙ ap reply_of (sym fits_room),
            w ∙ behind ∙ ap (left out) (sym fits_room),
          )
        where
          behind : (bytes_of 4 (length a.file) ++ bytes_of 4 0) ++ (a.file ++ drop (length a.file) (drop 8 out)) ≡ file_reply a.file ++ drop (length (file_reply a.file)) out
          behind = rw (reply_length a.file) (simp (append_assoc, drop-drop))
