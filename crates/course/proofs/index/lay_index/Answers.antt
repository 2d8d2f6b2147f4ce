-- `course::index::lay_index` meets its contract. Assumes nothing.
use Rattle.std.proofs.Common.{ℕ, List, length, get_or, replicate, ◌≡◌, ap, ◌∙◌, arith}
use lib.ListN.{length-replicate, get_or-replicate}
use Rattle.course.specs.Rules.Lengths.{offset_count}
use Rattle.course.specs.Steps.Index.{held_in}
use Rattle.course.proofs.TileSteps.{counts-none, counts-small, placed-none, placed-offsets, placed-index}
use Rattle.course.proofs.index.lay_index.Goals as goal

pub count_all-requires : goal.count_all-requires
count_all-requires c =
    let o : List ℕ = c.args.o.now in
    let long : length o ≡ offset_count = omega arith in
    let zeros : c.fill.new.self ≡ replicate (length o) 0 = c.fill.ensures.after (λ y h. h) in
    counts-none (held_in c.args.rects.now.numbers.now) 0 c.fill.new.self
    (ap length zeros ∙ length-replicate (length o) 0 ∙ long)
    (λ d l. ap (λ (z : List ℕ). get_or z d 0) zeros ∙ get_or-replicate (length o) d 0 0 (omega (arith, long)))

pub sum_up-requires : goal.sum_up-requires
sum_up-requires c = λ k l. omega (arith, counts-small (held_in c.args.rects.now.numbers.now) (length c.args.rects.now.numbers.now) _ c.count_all.ensures k l, c.args.rects.now.rects_in.few)

pub place_all-requires : goal.place_all-requires
place_all-requires c = placed-none (held_in c.args.rects.now.numbers.now) (length c.args.rects.now.numbers.now) _ _ _ c.count_all.ensures c.sum_up.ensures c.requires

pub returns-clause-o_after : goal.returns-clause-o_after
returns-clause-o_after c = placed-offsets (held_in c.args.rects.now.numbers.now) (length c.args.rects.now.numbers.now) _ _ c.place_all.ensures

pub returns-clause-l_after : goal.returns-clause-l_after
returns-clause-l_after c = placed-index (held_in c.args.rects.now.numbers.now) (length c.args.rects.now.numbers.now) _ _ c.place_all.ensures
