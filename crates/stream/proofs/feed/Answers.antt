-- `feed` meets its contract: each turn answers one request more.
use borrow.Author.Rules.{rules}
use mathlib.Core.Path.{sym, ◌∙◌}
use native.Mathlib.Omega.{arith}
use Rattle.stream.proofs.Frames.{whole_inside}
use Rattle.stream.proofs.Answering.{none_answered, one_answered}
use Rattle.stream.proofs.feed.Goals as goal

pub loop-next-init : goal.loop-next-init
loop-next-init c = record {
  inside = omega arith;
  few = omega arith;
  fits = omega arith;
  long = search rules;
  so_far = none_answered _ _;
  lies = c.next_at-next.ensures;
}

pub loop-next-preserved : goal.loop-next-preserved
loop-next-preserved c =
    let so = c.loop-next.invariant in
    let lies = sym c.in-Whole.is ∙ so.lies in
    let w = whole_inside _ _ _ lies in
    record {
      inside = w.1;
      few = omega (arith, w.0);
      fits = search rules;
      long = search rules;
      so_far = one_answered _ _ _ _ _ _ so.so_far _ c.read_u32-code.ensures _ lies _ _ c.one-o.ensures.0 c.one-o.ensures.2 (omega arith);
      lies = c.next_at-next-in-Whole.ensures;
    }
