-- `course::tiles::write_tiles` meets its contract. Assumes nothing.
use Rattle.course.proofs.CourseTiles.{tiles-none, tiles_more, tile-given, edges-first, edges-kept}
use Rattle.course.specs.Rules.Tiles.{points_of, tiles_to}
use Rattle.course.specs.Steps.Tiles.{edges_at}
use Rattle.std.proofs.Common.{ℕ, ◌*◌, ◌++◌, drop, sym, ap, ◌∙◌, arith}
use Rattle.course.proofs.tiles.write_tiles.Goals as goal

pub returns-then-n-eq0 : goal.returns-then-n-eq0
returns-then-n-eq0 c =
    let p = c.args.points.now in
    let ps = points_of p.beta.now p.x.now p.y.now p.count in
    (tiles-none ps c.args.tiles.now).is ∙ ap (λ (z : ℕ). tiles_to ps z ++ drop (z * 8) c.args.tiles.now) (sym c.if-n-eq0.true)

pub loop-i-init : goal.loop-i-init
loop-i-init c = (edges-first _ _ _ _ _ _ c.edges_at-last.ensures c.point_at.ensures, tiles-none _ _)

pub loop-i-preserved : goal.loop-i-preserved
loop-i-preserved c =
    let l = c.loop-i in
    let t = c.loop-i-test.true in (
      edges-kept _ _ _ _ l.i _ _ c.edges_at-e.ensures c.point_at-in-loop-i.ensures,
      tiles_more _ _ _ _ _ l.i (omega (arith, t, c.requires)) (tile-given _ _ _ _ _ _ _ _ t c.tile_quad.ensures (c.edges_at-e.ensures ∙ ap edges_at c.point_at-in-loop-i.ensures) l.invariant.0) c.put_quad.ensures l.invariant.1,
    )
