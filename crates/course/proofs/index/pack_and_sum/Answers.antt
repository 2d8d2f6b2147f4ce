-- `course::index::pack_and_sum` meets its contract. Assumes nothing.
use Rattle.course.specs.Steps.Index.{Packs}
use Rattle.std.proofs.Common.{◌+◌, sym, ap, subst, arith}
use Rattle.course.specs.Rules.Rect.{Rect, area_of}
use Rattle.course.proofs.CourseRects.{needed-none, needed-more, needed-small}
use Rattle.course.proofs.PackedRects.{packed_none, packed_more}
use Rattle.course.proofs.index.pack_and_sum.Goals as goal

pub loop-i-init : goal.loop-i-init
loop-i-init c = (sym (needed-none _), packed_none _ _)

pub overflow_add-sum : goal.overflow_add-sum
overflow_add-sum c =
    omega (
      arith,
      needed-more c.args.tiles.now c.loop-i.i,
      c.loop-i.invariant.0,
      c.area-sum.ensures,
      ap area_of c.of_tile-r.ensures,
      needed-small c.args.tiles.now (c.loop-i.i + 1),
    )

pub loop-i-preserved : goal.loop-i-preserved
loop-i-preserved c =
    let l = c.loop-i in
    let p = subst (λ (r : Rect). Packs c.pack.result r) c.of_tile-r.ensures c.pack.ensures in (
      omega (arith, needed-more c.args.tiles.now l.i, l.invariant.0, c.area-sum.ensures, ap area_of c.of_tile-r.ensures),
      packed_more c.args.tiles.now l.i l.rects c.pack.result (omega arith) p l.invariant.1,
    )
