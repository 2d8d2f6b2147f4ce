-- `course::checkpoints::one_checkpoint` meets its contract. Assumes nothing.
use Rattle.course.specs.Rules.Checkpoints.{checkpoint_of, base_of}
use Rattle.course.proofs.Literals.{far-rad-bits, tau-bits, twelve, natural-is}
use Rattle.std.proofs.Common.{eq-eqb, ne_eqb}
use Rattle.course.proofs.checkpoints.one_checkpoint.Goals as goal

pub returns-then-c-eq0 : goal.returns-then-c-eq0
unfolding checkpoint_of
returns-then-c-eq0 c = simp (eq-eqb _ _ c.if-c-eq0.true, far-rad-bits) c.spot.ensures

pub returns-then-c-eq11 : goal.returns-then-c-eq11
unfolding checkpoint_of base_of
returns-then-c-eq11 c = simp (ne_eqb _ _ c.if-c-eq0.false, eq-eqb _ _ c.if-c-eq11.true, far-rad-bits, tau-bits, twelve, natural-is c.args.c, ← c.from.ensures) c.spot-then-c-eq11.ensures

pub returns : goal.returns
unfolding checkpoint_of base_of
returns c = simp (ne_eqb _ _ c.if-c-eq0.false, ne_eqb _ _ c.if-c-eq11.false, tau-bits, twelve, natural-is c.args.c, ← c.from.ensures) c.spot-2.ensures
