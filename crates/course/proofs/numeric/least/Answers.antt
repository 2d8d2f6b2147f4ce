-- `course::numeric::least` meets its contract. Assumes nothing.
use Rattle.std.proofs.Common.{refl, ap, ◌∙◌}
use lib.Ieee.{Float, of_bits, round, neg, is_nan}
use Rattle.course.specs.Rules.Arithmetic.{decimal}
use Rattle.course.specs.Rules.Constants.{f64_max}
use Rattle.course.specs.Rules.Numeric.{min_of, least_of}
use Rattle.course.proofs.numeric.least.Goals as goal

pub lesser-requires : goal.lesser-requires
unfolding is_nan of_bits neg
lesser-requires c = refl

pub returns : goal.returns
unfolding least_of of_bits f64_max decimal round neg
returns c =
    let s = c.args in
    c.lesser-4.ensures.value
    ∙ ap (λ (z : Float). min_of z s.d) (c.lesser-3.ensures.value ∙ ap (λ (z : Float). min_of z s.c) (c.lesser-2.ensures.value ∙ ap (λ (z : Float). min_of z s.b) c.lesser.ensures.value))
