-- The bits of constants: what the compiled code has in the place of the Rust's expressions. Assumes nothing.
use Rattle.std.proofs.Common.{◌≡◌, ℕ, ◌+◌, pos, refl}
use lib.Ieee.{binary64, of_bits, of_int, round, add, mul, div, neg, to_unsigned}
use Rattle.course.specs.Rules.Arithmetic.{◌⊗◌, ◌⊘◌, natural, decimal}
use Rattle.course.specs.Rules.Constants.{scale, playfield, grid_cell, grid_dim, track_rad, track_detail_step, track_width, border, track_turn_rate, pi, tau}
use Rattle.course.specs.Grader.Curbs.{outer_width}
use Rattle.course.specs.Rules.Checkpoints.{far_rad}
use Rattle.course.specs.Rules.Step.{far_above, far_below}
use Rattle.course.specs.Rules.Track.{start_alpha}

pub width-bits : track_width ≡ of_bits binary64 0x401aaaaaaaaaaaab
unfolding track_width scale natural of_int of_bits div
width-bits = refl

pub outer-bits : outer_width ≡ of_bits binary64 0x4020000000000000
unfolding outer_width track_width border scale natural of_int of_bits div add
outer-bits = refl

pub steep-bits : track_turn_rate ⊗ decimal 2 10 ≡ of_bits binary64 0x3fafbe76c8b43958
unfolding track_turn_rate decimal round of_bits mul
steep-bits = refl

pub one-bits : natural 1 ≡ of_bits binary64 0x3ff0000000000000
unfolding natural of_int of_bits
one-bits = refl

pub sixteen : natural 16 ≡ of_bits binary64 0x4030000000000000
unfolding natural of_int of_bits
sixteen = refl

pub thousand : natural 1000 ≡ of_bits binary64 0x408f400000000000
unfolding natural of_int of_bits
thousand = refl

-- GRID_DIM by the Rust's expression, (2.0 * PLAYFIELD / GRID_CELL) as usize + 1
pub grid-dim : to_unsigned 64 (natural 2 ⊗ playfield ⊘ grid_cell) + 1 ≡ grid_dim
unfolding playfield scale grid_cell natural of_int mul div to_unsigned
grid-dim = refl

-- ---- lay's

-- a whole number as the code makes it
pub natural-is : (n : ℕ) → natural n ≡ of_int binary64 (pos n)
unfolding natural
natural-is n = refl

pub tau-bits : tau ≡ of_bits binary64 0x401921fb54442d18
unfolding pi tau natural of_int decimal round of_bits mul
tau-bits = refl

pub far-above-bits : far_above ≡ of_bits binary64 0x4012d97c7f3321d2
unfolding far_above pi tau natural of_int decimal round of_bits mul
far-above-bits = refl

pub far-below-bits : far_below ≡ of_bits binary64 0xc012d97c7f3321d2
unfolding far_below neg pi tau natural of_int decimal round of_bits mul
far-below-bits = refl

pub scale-bits : scale ≡ of_bits binary64 0x4018000000000000
unfolding scale natural of_int of_bits
scale-bits = refl

pub rad-bits : track_rad ≡ of_bits binary64 0x4062c00000000000
unfolding track_rad scale div natural of_int of_bits
rad-bits = refl

pub step-bits : track_detail_step ≡ of_bits binary64 0x400c000000000000
unfolding track_detail_step scale div natural of_int of_bits
step-bits = refl

pub rate-bits : track_turn_rate ≡ of_bits binary64 0x3fd3d70a3d70a3d7
unfolding track_turn_rate decimal round of_bits
rate-bits = refl

pub tau12-bits : tau ⊘ natural 12 ≡ of_bits binary64 0x3fe0c152382d7365
unfolding div pi tau natural of_int decimal round of_bits mul
tau12-bits = refl

pub rad3-bits : track_rad ⊘ natural 3 ≡ of_bits binary64 0x4049000000000000
unfolding track_rad scale div natural of_int of_bits
rad3-bits = refl

pub far-rad-bits : far_rad ≡ of_bits binary64 0x406c200000000000
unfolding far_rad track_rad scale div natural of_int decimal round of_bits mul
far-rad-bits = refl

pub start-bits : start_alpha ≡ of_bits binary64 0xbfd0c152382d7365
unfolding start_alpha neg div pi tau natural of_int decimal round of_bits mul
start-bits = refl

pub twelve : natural 12 ≡ of_bits binary64 0x4028000000000000
unfolding natural of_int of_bits
twelve = refl

pub half-bits : decimal 1 2 ≡ of_bits binary64 0x3fe0000000000000
unfolding decimal round of_bits
half-bits = refl

pub three-tenths : decimal 3 10 ≡ of_bits binary64 0x3fd3333333333333
unfolding decimal round of_bits
three-tenths = refl

pub thousandth : decimal 1 1000 ≡ of_bits binary64 0x3f50624dd2f1a9fc
unfolding decimal round of_bits
thousandth = refl

-- the literals of the code, for `using`
pub ruleset literals = (width-bits, outer-bits, steep-bits, one-bits, sixteen, thousand, start-bits)
