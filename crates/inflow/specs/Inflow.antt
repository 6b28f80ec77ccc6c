-- The bytes of a buffer that were read and not used: moved to its front, and more read behind them.
use Rattle.std.specs.Prelude.{◌≡◌, List, ℕ, ◌-◌, ◌≤◌, ltb, length, take, drop}
use Rattle.inflow.specs.declared.Held.{Held}

-- the bytes of the buffer t, filled again, that were read
abbrev pub fresh : ℕ → ℕ → Held → List ℕ → List ℕ
fresh at end r t = take (r.end - (end - at)) (drop (end - at) t)

-- what is told of the buffer s, used up to place at and filled up to place end, and what it is, t, once more is read
pub record Refilled (s : List ℕ) (at end : ℕ) (r : Held) (t : List ℕ) : Type 0 where
  pub front : r.at ≡ 0
  pub kept : take (end - at) t ≡ take (end - at) (drop at s)
  pub behind : end - at ≤ r.end
  pub inside : r.end ≤ length t
  pub same : length t ≡ length s
  -- the input has ended where nothing was read
  pub live : r.live ≡ ltb (end - at) r.end
