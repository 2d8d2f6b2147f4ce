-- `course::points::all_good` meets its contract. Assumes nothing.
use Rattle.std.proofs.Common.{ℕ, ◌∙◌, refl, arith, rules}
use Rattle.std.proofs.lemmas.Iterator.{YieldsList-from_range}
use Rattle.std.proofs.lemmas.Iterator.Search.{all_from_yields_List}
use Rattle.course.specs.Rules.Tiles.{point_at}
use Rattle.course.specs.Grader.Points.{good_point}
use Rattle.course.proofs.CourseTiles.{good-each}
use Rattle.course.proofs.points.all_good.Goals as goal

pub returns : goal.returns
returns c =
    let p = c.args.points.now in
    all_from_yields_List (λ (i : ℕ). good_point (point_at p.beta.now p.x.now p.y.now i)) _ _ _ c.all.ensures.ran
    (YieldsList-from_range 0 p.count p.count refl (omega arith)) (λ x b q k. search rules)
    ∙ good-each p.beta.now p.x.now p.y.now p.count
