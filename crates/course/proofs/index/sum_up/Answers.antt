-- `course::index::sum_up` meets its contract. Assumes nothing.
use Rattle.std.proofs.Common.{ℕ, ◌+◌, get_or, set, sym, refl, subst, arith}
use Rattle.course.specs.Rules.Lengths.{most_points}
use Rattle.course.proofs.CellRuns.{SummedTo, sum-none, sum_more, sum-small, summed-more}
use Rattle.course.proofs.index.sum_up.Goals as goal

pub loop-offset-init : goal.loop-offset-init
loop-offset-init c = (record { same = refl; done = λ d w. absurd (omega arith); left = λ d w. refl }, sym (sum-none _))

pub overflow_add-sum : goal.overflow_add-sum
overflow_add-sum c =
    let k = c.loop-offset.offset-index in
    let t = c.loop-offset.invariant.0 in
    omega (
      arith,
      sum-small most_points c.args.o.now k (λ d l. c.requires d (omega arith)),
      t.same,
      t.left k (omega arith),
      c.requires k (omega (arith, t.same)),
    )

pub loop-offset-preserved : goal.loop-offset-preserved
loop-offset-preserved c =
    let l = c.loop-offset in
    let k = l.offset-index in
    let t = l.invariant in (
      subst (λ (z : ℕ). SummedTo c.args.o.now (set l.o k (z + get_or l.o k 0)) (k + 1)) (sym t.1) (summed-more _ _ _ t.0 (omega arith)),
      omega (arith, t.1, sum_more c.args.o.now k, t.0.left k (omega arith)),
    )
