-- `course::root::sqrt` meets its contract. Each way out of the code is a law of `RootFields`. Assumes nothing.
use Rattle.std.proofs.Common.{T, not, sym, refl, ap, ◌∙◌, subst, arith}
use lib.Ieee.{binary64, fits, to_bits}
use Rattle.course.specs.Rules.Root.{nearest_root}
use Rattle.course.proofs.RootFields.{way-nan, way-zero, way-top, way-negative, way-root, below_inf}
use Rattle.course.proofs.root.sqrt.Goals as goal

pub returns-then-is_nan : goal.returns-then-is_nan
returns-then-is_nan c = way-nan c.args.x (sym c.is_nan.ensures.value ∙ c.if-is_nan.true)

pub float_to_bits-b : goal.float_to_bits-b
float_to_bits-b c = subst (λ b. T (not b)) (sym c.if-is_nan.false ∙ c.is_nan.ensures.value) tt

-- below, what owning an `f64` tells: the format holds it
pub returns-then-b-le-SIGN : goal.returns-then-b-le-SIGN
returns-then-b-le-SIGN c =
    let held : T (fits binary64 c.args.x) = subst T (sym c.well_formed.0.1) tt in
    way-top c.args.x held (to_bits binary64 c.args.x) refl c.if-b-ge-INFINITY.true c.if-b-le-SIGN.true

pub returns-then-b-ge-INFINITY : goal.returns-then-b-ge-INFINITY
unfolding lib.Ieee.of_bits
returns-then-b-ge-INFINITY c =
    let held : T (fits binary64 c.args.x) = subst T (sym c.well_formed.0.1) tt in
    way-negative c.args.x held (to_bits binary64 c.args.x) refl (omega arith)

pub returns-then-b-eq0 : goal.returns-then-b-eq0
returns-then-b-eq0 c =
    let held : T (fits binary64 c.args.x) = subst T (sym c.well_formed.0.1) tt in
    way-zero c.args.x held (to_bits binary64 c.args.x) refl (omega arith)

pub float_from_bits-result : goal.float_from_bits-result
float_from_bits-result c = below_inf c.root_bits.result c.root_bits.ensures.1

pub returns : goal.returns
returns c =
    let held : T (fits binary64 c.args.x) = subst T (sym c.well_formed.0.1) tt in
    c.root_bits.ensures.0
    ∙ ap nearest_root c.scaled-p.ensures.same
    ∙ sym (way-root c.args.x held (to_bits binary64 c.args.x) refl (omega arith) (omega arith) (omega arith))
