-- `course::step::steer` meets its contract. Assumes nothing.
use Rattle.std.proofs.Common.{◌≡◌, true, refl}
use lib.Ieee.{Float, binary64, of_bits, neg, lt, mul}
use Rattle.course.proofs.Literals.{thousandth, three-tenths, rate-bits}
use Rattle.course.proofs.Signs.{times_above, times_below}
use Rattle.course.specs.Rules.Numeric.{abs_of}
use Rattle.course.specs.Rules.Step.{steered}
use Rattle.course.proofs.step.steer.Goals as goal

-- 0.001 and 0.3
abbrev part : Float
part = of_bits binary64 0x3f50624dd2f1a9fc

abbrev least : Float
least = of_bits binary64 0x3fd3333333333333

above : (proj : Float) → lt least proj ≡ true → mul binary64 part proj ≡ abs_of (mul binary64 part proj)
unfolding of_bits
above proj h = times_above _ _ refl _ _ proj h

below : (proj : Float) → lt proj (neg least) ≡ true → neg (mul binary64 part proj) ≡ abs_of (mul binary64 part proj)
unfolding of_bits neg
below proj h = times_below _ _ refl _ _ proj h

pub returns-then-proj : goal.returns-then-proj
unfolding steered
returns-then-proj c =
    let h = c.if-proj.true in simp (thousandth, three-tenths, rate-bits, ← above _ h, ← c.min.ensures, h)

pub returns-then-proj-2 : goal.returns-then-proj-2
unfolding steered
returns-then-proj-2 c =
    let h = c.if-proj-2.true in simp (thousandth, three-tenths, rate-bits, ← below _ h, ← c.min-then-proj-2.ensures, c.if-proj.false, h)

pub returns : goal.returns
unfolding steered
returns c = simp (three-tenths, c.if-proj.false, c.if-proj-2.false)
