-- `course::trig::turned` meets its contract: the two results are those of `pick`, by the quarter. Assumes nothing.
use Rattle.std.proofs.Common.{◌≡◌, ap, arith}
use lib.Ieee.{Float, of_bits, round, sub, mul, neg, binary64}
use Rattle.course.specs.Rules.Constants.{half_pi}
use Rattle.course.specs.Rules.Arithmetic.{decimal}
use Rattle.course.specs.Rules.Trig.{turns_of, rest_of, sine_poly, cosine_poly, pick, sin_cos_of}
use Rattle.course.specs.Steps.Numbers.{turns_at}
use Rattle.course.specs.declared.trig.Turns.{Turns}
use Rattle.course.proofs.Turned.{turned, sin-cos-is, pick-0, pick-1, pick-2, pick-3}
use Rattle.course.proofs.trig.turned.Goals as goal

-- the two results, by the quarter
both : (a : Float) (t : Turns) (s c : Float) → t ≡ turns_at (turns_of a)
    → s ≡ sine_poly (sub binary64 a (mul binary64 t.k half_pi)) → c ≡ cosine_poly (sub binary64 a (mul binary64 t.k half_pi))
    → record { cos = pick t.quarter c (neg s) (neg c) s; sin = pick t.quarter s c (neg s) (neg c) } ≡ sin_cos_of a
unfolding rest_of turns_at
both a t s c e hs hc =
    turned a t.quarter (sub binary64 a (mul binary64 t.k half_pi)) s c
    (ap (λ (x : Turns). x.quarter) e) (ap (λ (x : Turns). sub binary64 a (mul binary64 x.k half_pi)) e) hs hc

pub returns-in-0 : goal.returns-in-0
unfolding of_bits half_pi decimal round
returns-in-0 c =
    let q = c.args.t.quarter in
    let z = c.in-0.is in
    sin-cos-is _ _ _ _ _ (pick-0 q _ _ _ _ z) (pick-0 q _ _ _ _ z)
    (both c.args.a c.args.t c.sine_poly-s.result c.cosine_poly-c.result c.requires c.sine_poly-s.ensures c.cosine_poly-c.ensures)

pub returns-in-1 : goal.returns-in-1
unfolding of_bits half_pi decimal round
returns-in-1 c =
    let q = c.args.t.quarter in
    let o = c.in-1.is in
    sin-cos-is _ _ _ _ _ (pick-1 q _ _ _ _ o) (pick-1 q _ _ _ _ o)
    (both c.args.a c.args.t c.sine_poly-s.result c.cosine_poly-c.result c.requires c.sine_poly-s.ensures c.cosine_poly-c.ensures)

pub returns-in-2 : goal.returns-in-2
unfolding of_bits half_pi decimal round
returns-in-2 c =
    let q = c.args.t.quarter in
    let w = c.in-2.is in
    sin-cos-is _ _ _ _ _ (pick-2 q _ _ _ _ w) (pick-2 q _ _ _ _ w)
    (both c.args.a c.args.t c.sine_poly-s.result c.cosine_poly-c.result c.requires c.sine_poly-s.ensures c.cosine_poly-c.ensures)

pub returns-in_default : goal.returns-in_default
unfolding of_bits half_pi decimal round
returns-in_default c =
    let q = c.args.t.quarter in
    let z : q ≡ 0 → ⊥ = λ h. omega (arith, h) in
    let o : q ≡ 1 → ⊥ = λ h. omega (arith, h) in
    let w : q ≡ 2 → ⊥ = λ h. omega (arith, h) in
    sin-cos-is _ _ _ _ _ (pick-3 q _ _ _ _ z o w) (pick-3 q _ _ _ _ z o w)
    (both c.args.a c.args.t c.sine_poly-s.result c.cosine_poly-c.result c.requires c.sine_poly-s.ensures c.cosine_poly-c.ensures)
