-- `course::numeric::greatest` meets its contract. Assumes nothing.
use Rattle.std.proofs.Common.{refl, ap, ◌∙◌}
use lib.Ieee.{Float, of_bits, round, neg, is_nan}
use Rattle.course.specs.Rules.Arithmetic.{decimal}
use Rattle.course.specs.Rules.Constants.{f64_min, f64_max}
use Rattle.course.specs.Rules.Numeric.{max_of, greatest_of}
use Rattle.course.proofs.numeric.greatest.Goals as goal

pub greater-requires : goal.greater-requires
unfolding is_nan of_bits neg
greater-requires c = refl

pub returns : goal.returns
unfolding greatest_of of_bits f64_min f64_max decimal round neg
returns c =
    let s = c.args in
    c.greater-4.ensures.value
    ∙ ap (λ (z : Float). max_of z s.d) (c.greater-3.ensures.value ∙ ap (λ (z : Float). max_of z s.c) (c.greater-2.ensures.value ∙ ap (λ (z : Float). max_of z s.b) c.greater.ensures.value))
