-- The calls by their codes (the byte form, "Calls"): a list has one line for each.
use Rattle.std.specs.Prelude.{List, [], ◌∷◌, ℕ, eqb}
use Rattle.exponents.specs.Outcome.{Outcome, Err, SHAPE}
use Rattle.exponents.specs.Words.{pick}

-- the number of a call's arguments, the table among them, and its answer to three byte strings, of which it reads so many
pub record Call : Type 0 where
  pub code : ℕ
  pub arity : ℕ
  pub answer : List ℕ → List ℕ → List ℕ → Outcome (List ℕ)

abbrev pub one : ℕ → (List ℕ → Outcome (List ℕ)) → Call
one n f = record { code = n; arity = 1; answer = λ a b c. f a }

abbrev pub two : ℕ → (List ℕ → List ℕ → Outcome (List ℕ)) → Call
two n f = record { code = n; arity = 2; answer = λ a b c. f a b }

abbrev pub three : ℕ → (List ℕ → List ℕ → List ℕ → Outcome (List ℕ)) → Call
three n f = record { code = n; arity = 3; answer = f }

-- what stands for a code that is no call's: no arguments, and an answer that is never asked for
abbrev pub no_call : ℕ → Call
no_call n = record { code = n; arity = 0; answer = λ a b c. Err SHAPE }

unfoldable pub look : List Call → ℕ → Call
look [] n = no_call n
look (c ∷ l) n = pick (eqb n c.code) c (look l n)
