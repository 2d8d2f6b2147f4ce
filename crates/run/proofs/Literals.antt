-- The bits of constants: what the compiled code has in the place of the Rust's expressions. Assumes nothing.
use mathlib.Core.Path.{◌≡◌, refl}
use lib.Ieee.{binary64, of_bits, of_int, round, mul, div}
use Rattle.course.specs.Rules.Arithmetic.{natural, decimal}
use Rattle.course.specs.Rules.Constants.{fps}
use Rattle.run.specs.Rules.Dynamics.{engine_power, wheel_moment_of_inertia, friction_limit, wheel_rad, stiffness, dt}
use Rattle.run.specs.Rules.Wheel.{size, wheel_r}

-- ---- the constants of the reference's dynamics.rs

pub engine_power_bits : engine_power ≡ of_bits binary64 0x40e3880000000000
unfolding engine_power size natural decimal of_int round of_bits mul
engine_power_bits = refl

pub inertia_bits : wheel_moment_of_inertia ≡ of_bits binary64 0x3ff999999999999a
unfolding wheel_moment_of_inertia size natural decimal of_int round of_bits mul
inertia_bits = refl

pub friction_limit_bits : friction_limit ≡ of_bits binary64 0x4079000000000000
unfolding friction_limit size natural decimal of_int round of_bits mul
friction_limit_bits = refl

pub wheel_rad_bits : wheel_rad ≡ of_bits binary64 0x3fe147ae147ae148
unfolding wheel_rad wheel_r size natural decimal of_int round of_bits mul
wheel_rad_bits = refl

pub stiffness_bits : stiffness ≡ of_bits binary64 0x4054800000000000
unfolding stiffness size natural decimal of_int round of_bits mul
stiffness_bits = refl

pub dt_bits : dt ≡ of_bits binary64 0x3f947ae147ae147b
unfolding dt fps natural of_int of_bits div
dt_bits = refl

-- ---- literals

pub zero_bits : natural 0 ≡ of_bits binary64 0
unfolding natural of_int of_bits
zero_bits = refl

pub one : natural 1 ≡ of_bits binary64 0x3ff0000000000000
unfolding natural of_int of_bits
one = refl

pub three : natural 3 ≡ of_bits binary64 0x4008000000000000
unfolding natural of_int of_bits
three = refl

pub five : natural 5 ≡ of_bits binary64 0x4014000000000000
unfolding natural of_int of_bits
five = refl

pub fifteen : natural 15 ≡ of_bits binary64 0x402e000000000000
unfolding natural of_int of_bits
fifteen = refl

pub fifty : natural 50 ≡ of_bits binary64 0x4049000000000000
unfolding natural of_int of_bits
fifty = refl

pub million : natural 1000000 ≡ of_bits binary64 0x412e848000000000
unfolding natural of_int of_bits
million = refl

pub tenth : decimal 1 10 ≡ of_bits binary64 0x3fb999999999999a
unfolding decimal round of_bits
tenth = refl

pub two-tenths : decimal 2 10 ≡ of_bits binary64 0x3fc999999999999a
unfolding decimal round of_bits
two-tenths = refl

pub six_tenths : decimal 6 10 ≡ of_bits binary64 0x3fe3333333333333
unfolding decimal round of_bits
six_tenths = refl

pub nine_tenths : decimal 9 10 ≡ of_bits binary64 0x3feccccccccccccd
unfolding decimal round of_bits
nine_tenths = refl
