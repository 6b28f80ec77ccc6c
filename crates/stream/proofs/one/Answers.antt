-- `one` meets its contract: the answer into the room behind its two numbers, then the numbers.
use native.Mathlib.Omega.{arith}
use Rattle.stream.specs.Stream.{answered}
use Rattle.stream.proofs.Answering.{reply_short, one_end, one_written}
use Rattle.stream.proofs.one.Goals as goal

pub returns : goal.returns
unfolding answered
returns c =
    let pre = c.requires in
    let said = c.answer-r.ensures.0 in
    let len = c.unwrap_or-len.ensures in (
      one_end _ _ pre _ _ said _ len,
      omega (arith, reply_short _ _ pre _ _ said _ len),
      one_written _ _ pre _ _ said _ len _ c.number_of.ensures _ _ _ c.answer-r.ensures.1 c.write_u32.ensures.0 c.write_u32-2.ensures.0,
    )
