-- An answer behind two numbers: what is left in a part of the room, and the numbers in front of it.
use mathlib.Core.Path.{◌≡◌, sym, ◌∙◌}
use mathlib.Core.List.{List, ◌++◌, append_assoc}
use Prim.Native.Nat.{ℕ, ◌+◌, ◌≤◌}
use native.Mathlib.Omega.{arith}
use lib.ListN.{length, take, drop, length-append, take-append-drop}
use lib.Seq.{sets, sets-eq, length-take-le, take-append-le, take-take, drop_at, drop-append-le}
use Rattle.exponents.specs.Outcome.{Outcome, Ok, Err}
use Rattle.wire.specs.Bytes.{bytes_of}
use Rattle.wire.proofs.Digits.{length-bytes_of}
use Rattle.wire.proofs.Stored.{sets_number}
use Rattle.replies.specs.Replies.{left}
use Rattle.replies.specs.Held.{reply_of, reply_len}

-- what is left in the first k bytes of a room is left in the room
pub left-part : (room : List ℕ) (k : ℕ) (q : Outcome (List ℕ)) → k ≤ length room → reply_len (reply_of q) ≤ k → left (take k room) q ++ drop k room ≡ left room q
left-part room k (Err r) h l = take-append-drop k room
left-part room k (Ok bs) h l =
    let m : length bs ≤ length (take k room) = omega (arith, length-take-le k room h) in
    rw (append_assoc, ← drop-append-le, take-append-drop)

pub head_written : (out z : List ℕ) (o x y : ℕ) → o + 8 ≤ length out
    → sets (sets (take (o + 8) out ++ z) o (bytes_of 4 x)) (o + 4) (bytes_of 4 y) ≡ take o out ++ ((bytes_of 4 x ++ bytes_of 4 y) ++ z)
head_written out z o x y h =
    let n : length (bytes_of 4 x ++ bytes_of 4 y) ≡ 8 = simp (length-append, length-bytes_of) in
    let t : length (take (o + 8) out) ≡ o + 8 = length-take-le (o + 8) out h in
    let a : o + length (bytes_of 4 x ++ bytes_of 4 y) ≤ length (take (o + 8) out ++ z) = omega (arith, length-append (take (o + 8) out) z) in
    let b : o ≤ length (take (o + 8) out) = omega arith in
    sym (sets_number 4 x (bytes_of 4 y) (take (o + 8) out ++ z) o)
    ∙ sets-eq (bytes_of 4 x ++ bytes_of 4 y) (take (o + 8) out ++ z) o a
    ∙ rw (n, take-append-le o (take (o + 8) out) z b, take-take o (o + 8) out (omega arith), drop_at (take (o + 8) out) z (o + 8) t) (append_assoc (take o out) (bytes_of 4 x ++ bytes_of 4 y) z)
