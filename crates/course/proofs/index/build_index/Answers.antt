-- `course::index::build_index` meets its contract. Assumes nothing.
use Rattle.std.proofs.Common.{◌≡◌, ℕ, take, length, sym, ap, ◌∙◌, subst, arith, length-take-le}
use Rattle.course.specs.Rules.Lengths.{cell_count}
use Rattle.course.specs.Rules.Rect.{needed}
use Rattle.course.specs.Grader.Index.{start, offsets_of, index_of}
use Rattle.course.specs.Steps.Index.{held_in, RectsPacked}
use Rattle.course.proofs.CourseRects.{needed-small}
use Rattle.course.proofs.PackedRects.{rects-in, needed-packed, packed-laid, told-short, told-laid}
use Rattle.course.proofs.index.build_index.Goals as goal
use Rattle.course.proofs.index.build_index.Goals.{Else-list-need}

-- the part that is packed has an entry for each tile
long : (c : Else-list-need) → length (take c.args.n c.args.rects.now) ≡ c.args.n
long c = length-take-le c.args.n c.args.rects.now c.requires.n_in_bounds.0

packed : (c : Else-list-need) → RectsPacked c.args.tiles.now c.args.n c.pack_and_sum-need.new.rects
packed c = subst (λ (k : ℕ). RectsPacked c.args.tiles.now k c.pack_and_sum-need.new.rects) (long c) c.pack_and_sum-need.ensures.rects_packed

-- the cells summed are those of the tiles below n, and fit a word of 32 bits
is : (c : Else-list-need) → c.pack_and_sum-need.result ≡ needed c.args.tiles.now c.args.n
is c = c.pack_and_sum-need.ensures.value ∙ ap (needed c.args.tiles.now) (long c)

pub overflow_cast-result : goal.overflow_cast-result
overflow_cast-result c =
    omega (arith, c.pack_and_sum-need.ensures.value, length-take-le c.args.n c.args.rects.now c.requires.n_in_bounds.0, needed-small c.args.tiles.now (length (take c.args.n c.args.rects.now)), c.requires.n_le_most_points.0)

pub returns-then-list-need-clause-value : goal.returns-then-list-need-clause-value
returns-then-list-need-clause-value c =
    told-short (c.pack_and_sum-need.ensures.value ∙ ap (needed c.args.tiles.now) (length-take-le c.args.n c.args.rects.now c.requires.n_in_bounds.0)) c.if-list-need.true

pub overflow_cast-result-2 : goal.overflow_cast-result-2
overflow_cast-result-2 c =
    let f = (goal.at.overflow_cast-result-2 c).Else-list-need in omega (arith, is f, needed-small c.args.tiles.now c.args.n, c.requires.n_le_most_points.0)

pub returns-clause-value : goal.returns-clause-value
returns-clause-value c = told-laid (is ((goal.at.returns-clause-value c).Else-list-need)) c.if-list-need.false

pub invariant_of-lay_index : goal.invariant_of-lay_index
invariant_of-lay_index c =
    let f = (goal.at.invariant_of-lay_index c).Else-list-need in
    record { rects_in = rects-in _ _ c.requires.n_le_most_points.0 (c.pack_and_sum-need.auto.rects ∙ long f) (packed f) }

pub lay_index-requires : goal.lay_index-requires
lay_index-requires c =
    let f = (goal.at.lay_index-requires c).Else-list-need in
    let t = c.pack_and_sum-need in
    length-take-le t.result c.args.list.now (omega (arith, c.if-list-need.false)) ∙ t.ensures.value ∙ ap (needed c.args.tiles.now) (long f) ∙ needed-packed (packed f)
    ∙ ap (λ (z : ℕ). start (held_in t.new.rects) z cell_count) (sym (t.auto.rects ∙ long f))

pub returns-clause-built : goal.returns-clause-built
returns-clause-built c =
    let f = (goal.at.returns-clause-built c).Else-list-need in
    let t = c.pack_and_sum-need in
    let h = held_in t.new.rects in
    let size : length t.new.rects ≡ c.args.n = t.auto.rects ∙ long f in
    packed-laid (packed f) (is f) c.if-list-need.false
    (c.lay_index.ensures.o_after ∙ ap (λ (z : ℕ). offsets_of h z cell_count) size) (c.lay_index.ensures.l_after ∙ ap (λ (z : ℕ). index_of h z cell_count) size)
