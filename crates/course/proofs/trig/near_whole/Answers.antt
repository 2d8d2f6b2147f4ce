-- `course::trig::near_whole` meets its contract. Assumes nothing.
use Rattle.std.proofs.Common.{◌≡◌, ℕ, ◌+◌, ◌%◌, ◌<◌, true, false, ℤ, pos, negsuc, neg_ℤ, sym, ap, ◌∙◌, subst, add-one, arith}
use lib.Ieee.{Float, of_bits, of_int, neg, lt, to_unsigned, binary64}
use Rattle.course.specs.Rules.Arithmetic.{natural}
use Rattle.course.specs.Rules.Trig.{floor, quarter_of}
use Rattle.course.proofs.Turned.{turns-is}
use Rattle.course.proofs.Wholes.{whole-n, whole-f}
use Rattle.course.proofs.Floor.{above_floor, above-fits, below-fits, below-small, below-between, below_at, minus-whole, minus-quarter}
use Rattle.course.proofs.trig.near_whole.Goals as goal

pub whole_part-w-requires : goal.whole_part-w-requires
unfolding of_bits
whole_part-w-requires c = above-fits c.args.v c.requires c.if-v.true

pub returns-then-v : goal.returns-then-v
unfolding of_bits quarter_of
returns-then-v c =
    let w = c.whole_part-w in
    let f : floor c.args.v ≡ pos (to_unsigned 64 c.args.v) = above_floor c.args.v c.requires c.if-v.true in
    turns-is _ _ (floor c.args.v) (whole-f _ _ w.ensures ∙ ap (λ (z : ℤ). of_int binary64 z) (sym f)) (ap (λ (z : ℕ). z % 4) (whole-n _ _ w.ensures) ∙ ap quarter_of (sym f))

pub whole_part-w-requires-2 : goal.whole_part-w-requires-2
unfolding of_bits
whole_part-w-requires-2 c = below-fits c.args.v c.requires c.if-v.false

pub overflow_add-n : goal.overflow_add-n
unfolding of_bits
overflow_add-n c = omega (arith, below-small c.args.v c.requires c.if-v.false, whole-n _ _ c.whole_part-w-2.ensures)

pub returns-then-f-x : goal.returns-then-f-x
unfolding of_bits quarter_of natural
returns-then-f-x c =
    let v = c.args.v in
    let w = c.whole_part-w-2 in
    let n = w.result.n in
    let l : lt (natural (to_unsigned 64 (neg v))) (neg v) ≡ true = ap (λ (x : Float). lt x (neg v)) (sym (whole-f _ _ w.ensures)) ∙ c.if-f-x.true in
    let f : floor v ≡ negsuc n = below-between v c.requires c.if-v.false l ∙ ap negsuc (sym (whole-n _ _ w.ensures)) in
    turns-is _ _ (floor v) (ap neg c.nearest_u64_to_f64-g.ensures ∙ minus-whole (n + 1) (omega arith) ∙ ap (λ (z : ℕ). of_int binary64 (neg_ℤ (pos z))) (add-one n) ∙ ap (λ (z : ℤ). of_int binary64 z) (sym f)) (ap quarter_of (sym f))

pub returns : goal.returns
unfolding of_bits natural
returns c =
    let v = c.args.v in
    let w = c.whole_part-w-2 in
    let n = w.result.n in
    let e : n ≡ to_unsigned 64 (neg v) = whole-n _ _ w.ensures in
    let l : lt (natural (to_unsigned 64 (neg v))) (neg v) ≡ false = ap (λ (x : Float). lt x (neg v)) (sym (whole-f _ _ w.ensures)) ∙ c.if-f-x.false in
    let f = below_at v c.requires c.if-v.false l in
    let p : 0 < n = subst (λ (z : ℕ). 0 < z) (sym e) f.0 in
    let k : floor v ≡ neg_ℤ (pos n) = f.1 ∙ ap (λ (z : ℕ). neg_ℤ (pos z)) (sym e) in
    turns-is _ _ (floor v) (ap neg (whole-f _ _ w.ensures ∙ ap (λ (z : ℕ). of_int binary64 (pos z)) (sym e)) ∙ minus-whole n p ∙ ap (λ (z : ℤ). of_int binary64 z) (sym k)) (minus-quarter n p ∙ ap quarter_of (sym k))
