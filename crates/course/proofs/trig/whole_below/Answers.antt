-- `course::trig::whole_below` meets its contract: within 2^52 it is `near_whole`, beyond it 0. Assumes nothing.
use Rattle.std.proofs.Common.{◌^◌, T, sym, ◌∙◌, subst, lit≤}
use lib.Ieee.{of_bits, of_int, round}
use Rattle.course.specs.Rules.Arithmetic.{natural}
use Rattle.course.specs.Rules.Trig.{whole_below, quarter_of}
use Rattle.course.specs.Steps.Numbers.{turns_at}
use Rattle.course.proofs.Naturals.{natural-val}
use Rattle.course.proofs.Bounds.{bounded-of-within}
use Rattle.course.proofs.trig.whole_below.Goals as goal

pub near_whole-requires : goal.near_whole-requires
unfolding of_bits of_int natural
near_whole-requires c = bounded-of-within (natural (2 ^ 52)) c.args.v (2 ^ 52) (natural-val (2 ^ 52) (lit≤ tt)) (subst T (sym c.if-inside.true ∙ c.inside.ensures) tt)

pub returns-then-inside : goal.returns-then-inside
unfolding of_bits of_int natural whole_below
returns-then-inside c = rw (sym c.inside.ensures ∙ c.if-inside.true, c.near_whole.ensures)

pub returns : goal.returns
unfolding of_bits of_int round natural whole_below turns_at quarter_of
returns c = rw (sym c.inside.ensures ∙ c.if-inside.false)
