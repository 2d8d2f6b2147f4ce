-- `course::trig::whole_part` meets its contract. Assumes nothing.
use Rattle.std.proofs.Common.{sym, refl, lit≤}
use lib.Ieee.{of_bits, of_int}
use Rattle.course.specs.Rules.Arithmetic.{natural}
use Rattle.course.proofs.Wholes.{cut-between, cut_below, whole_is}
use Rattle.course.proofs.trig.whole_part.Goals as goal

pub returns-then-v : goal.returns-then-v
returns-then-v c = whole_is _ _ _ c.truncating_f64_to_u64-n.ensures c.nearest_u64_to_f64-f.ensures

pub returns-then-v-2 : goal.returns-then-v-2
unfolding of_bits of_int natural
returns-then-v-2 c = whole_is 4 _ _ (sym (cut-between c.args.v 4 (lit≤ tt) (lit≤ tt) c.if-v-2.true c.if-v.false)) refl

pub returns-then-v-3 : goal.returns-then-v-3
unfolding of_bits of_int natural
returns-then-v-3 c = whole_is 3 _ _ (sym (cut-between c.args.v 3 (lit≤ tt) (lit≤ tt) c.if-v-3.true c.if-v-2.false)) refl

pub returns-then-v-4 : goal.returns-then-v-4
unfolding of_bits of_int natural
returns-then-v-4 c = whole_is 2 _ _ (sym (cut-between c.args.v 2 (lit≤ tt) (lit≤ tt) c.if-v-4.true c.if-v-3.false)) refl

pub returns-then-v-5 : goal.returns-then-v-5
unfolding of_bits of_int natural
returns-then-v-5 c = whole_is 1 _ _ (sym (cut-between c.args.v 1 (lit≤ tt) (lit≤ tt) c.if-v-5.true c.if-v-4.false)) refl

pub returns : goal.returns
unfolding of_bits of_int natural
returns c = whole_is 0 _ _ (sym (cut_below c.args.v c.if-v-5.false)) refl
