-- The stream of requests and answers (the byte form, "The stream of `calls`").
use Rattle.std.specs.Prelude.{◌≡◌, ◌&&◌, ◌||◌, List, [], ◌++◌, ℕ, zero, suc, ◌+◌, ◌-◌, ◌≤◌, ◌<◌, eqb, ltb, length, take, drop, replicate}
use Rattle.exponents.specs.Outcome.{Outcome, Ok, Err, number}
use Rattle.exponents.specs.Words.{pick}
use Rattle.wire.specs.Bytes.{le, bytes_of}
use Rattle.replies.specs.Replies.{sent}
use Rattle.stream.specs.Calls.{call_of}
use Rattle.stream.specs.declared.Fed.{Fed}
use Rattle.stream.specs.declared.Frame.{Frame}
use Rattle.stream.specs.declared.Frame.TheVariants.{Whole, Short, Bad}

-- ---- a request: its code, then each argument's length and bytes

-- all of a request is here
abbrev pub IsWhole : Frame → Type 0
IsWhole (Whole to) = Unit {0}
IsWhole Short = ⊥
IsWhole Bad = ⊥

-- where its arguments end, 0 where not all of it is here
abbrev pub end_of : Frame → ℕ
end_of (Whole to) = to
end_of Short = 0
end_of Bad = 0

-- the most bytes that the k-th argument of a call may have, counted from 0: 262,144 for Knots, behind the table in the calls 28 and 29 (02, order 4), and 65,536 for every other one
unfoldable pub most : ℕ → ℕ → ℕ
most code k = pick ((eqb code 28 || eqb code 29) && eqb k 1) 262144 65536

-- so many arguments of a call from place i on, the first of them its k-th: none is longer than it may be
unfoldable pub arguments : ℕ → ℕ → ℕ → List ℕ → ℕ → Frame
arguments code k zero s i = Whole i
arguments code k (suc n) s i =
    pick (ltb (length s - i) 4) Short
    (pick (ltb (most code k) (le 4 s i)) Bad
    (pick (ltb (length s - (i + 4)) (le 4 s i)) Short
    (arguments code (k + 1) n s (i + 4 + le 4 s i))))

-- the request whose code stands at place i: an unknown code, which has no arguments, ends the stream
unfoldable pub framed : ℕ → List ℕ → ℕ → Frame
framed code s i = pick (eqb (call_of code).arity 0) Bad (arguments code 0 (call_of code).arity s i)

-- the k-th argument in the bytes behind a code
unfoldable pub part : ℕ → List ℕ → List ℕ
part zero s = take (le 4 s 0) (drop 4 s)
part (suc k) s = part k (drop (4 + le 4 s 0) s)

-- ---- an answer: the refusal's number, the answer's length and bytes

unfoldable pub answer_to : ℕ → List ℕ → Outcome (List ℕ)
answer_to code s = (call_of code).answer (part 0 s) (part 1 s) (part 2 s)

-- the longest answer: a salvaged table's two numbers and 128 rows of 176 bytes
abbrev pub longest : ℕ
longest = 22536

-- the room for one answer: no call's is longer (promises/proofs/Sizes)
unfoldable pub lent : List ℕ
lent = replicate longest 0

-- the answer that a request gets in this room
unfoldable pub answered : ℕ → List ℕ → Outcome (List ℕ)
answered code s = sent lent (answer_to code s)

unfoldable pub answer_bytes : Outcome (List ℕ) → List ℕ
answer_bytes (Ok bs) = bytes_of 4 0 ++ (bytes_of 4 (length bs) ++ bs)
answer_bytes (Err r) = bytes_of 4 (number r) ++ bytes_of 4 0

-- the place for an answer's bytes
abbrev pub place : ℕ
place = 8 + longest

-- ---- many requests

-- where the n-th request ends, from place i on
unfoldable pub ends : ℕ → List ℕ → ℕ → ℕ
ends zero s i = i
ends (suc n) s i = ends n s (end_of (framed (le 4 s i) s (i + 4)))

-- the bytes behind the code of the request at place i
unfoldable pub behind : List ℕ → ℕ → List ℕ
behind s i = take (end_of (framed (le 4 s i) s (i + 4)) - (i + 4)) (drop (i + 4) s)

-- the answers to n requests from place i on, one behind the other
unfoldable pub answers : ℕ → List ℕ → ℕ → List ℕ
answers zero s i = []
answers (suc n) s i = answer_bytes (answered (le 4 s i) (behind s i)) ++ answers n s (end_of (framed (le 4 s i) s (i + 4)))

-- how the next request lies, where fewer than 4 bytes are short of one
unfoldable pub next : List ℕ → ℕ → Frame
next s i = pick (ltb (length s - i) 4) Short (framed (le 4 s i) s (i + 4))

-- what is told of the requests s once some are answered into a room, and what the room holds at the end: one result only (proofs/Feeding)
pub record Feeds (s room : List ℕ) (r : Fed) (end : List ℕ) : Type 0 where
  -- each that is answered was whole
  pub each : (k : ℕ) → k < r.count → IsWhole (next s (ends k s 0))
  -- and had room for any answer, behind the answers before it
  pub roomy : (k : ℕ) → k < r.count → length (answers k s 0) + place ≤ length room
  pub used : r.used ≡ ends r.count s 0
  pub inside : r.used ≤ length s
  pub wrote : r.wrote ≡ length (answers r.count s 0)
  pub fits : r.wrote ≤ length room
  pub held : end ≡ answers r.count s 0 ++ drop r.wrote room
  pub lies : r.next ≡ next s r.used
  -- a whole one is left only for want of room
  pub full : IsWhole r.next → length room < r.wrote + place
