-- A sum of squares that is not above the limit's square has a root that is not above the limit. Assumes nothing.
use mathlib.Core.Path.{◌≡◌, refl, sym, subst}
use mathlib.Core.Bool.{true, false}
use lib.Dec.{T}
use lib.Ieee.{Float, binary64, of_bits, of_int, round, mul, fits, lt, le}
use Rattle.course.specs.Rules.Arithmetic.{natural, decimal}
use Rattle.course.specs.Rules.Root.{sqrt_of}
use Rattle.course.proofs.BoolLaws.{no-T}
use Rattle.course.proofs.RootLaw.{root-within}
use Rattle.run.specs.Rules.Dynamics.{friction_limit, limit_of}
use Rattle.run.specs.Rules.Wheel.{size}

-- the limits are 400 and 240
road-bits : limit_of true ≡ of_bits binary64 0x4079000000000000
unfolding limit_of friction_limit size natural decimal of_int round of_bits mul
road-bits = refl

grass-bits : limit_of false ≡ of_bits binary64 0x406e000000000000
unfolding limit_of friction_limit size natural decimal of_int round of_bits mul
grass-bits = refl

pub small_road : (s : Float) → T (fits binary64 s) → le s (of_bits binary64 0x4103880000000000) ≡ true → lt (limit_of true) (sqrt_of s) ≡ false
unfolding of_bits fits
small_road s F h =
    no-T (lt (limit_of true) (sqrt_of s)) (λ t.
    root-within 400 s (of_bits binary64 0x4079000000000000) (of_bits binary64 0x4103880000000000) F tt tt refl tt (refl, refl)
    (subst T (sym h) tt) (subst (λ (v : Float). T (lt v (sqrt_of s))) road-bits t))

pub small_grass : (s : Float) → T (fits binary64 s) → le s (of_bits binary64 0x40ec200000000000) ≡ true → lt (limit_of false) (sqrt_of s) ≡ false
unfolding of_bits fits
small_grass s F h =
    no-T (lt (limit_of false) (sqrt_of s)) (λ t.
    root-within 240 s (of_bits binary64 0x406e000000000000) (of_bits binary64 0x40ec200000000000) F tt tt refl tt (refl, refl)
    (subst T (sym h) tt) (subst (λ (v : Float). T (lt v (sqrt_of s))) grass-bits t))
