-- `course::finder::find` meets its contract, a step of the search at a time. Assumes nothing.
use Rattle.std.proofs.Common.{ap, sym, refl, ◌∙◌}
use Rattle.course.specs.Steps.Lay.{found_as}
use Rattle.course.proofs.FinderSteps.{scan-past, scan-at, searched-two, pass-begun, pass-over, passes-over}
use Rattle.course.proofs.finder.find.Goals as goal

pub search-init : goal.search-init
search-init c = record { none = refl; left = searched-two c.args.cs.now c.args.from c.args.alpha }

pub loop-index-init : goal.loop-index-init
loop-index-init c = record { none = c.search.invariant.none; left = c.search.invariant.left ∙ pass-begun _ _ _ _ c.search-test.true }

-- not here: the next place
pub loop-index-preserved : goal.loop-index-preserved
loop-index-preserved c = record {
  none = c.loop-index.invariant.none;
  left = c.loop-index.invariant.left ∙ scan-past _ _ _ _ _ c.loop-index-test.true c.if-a-checkpoint.false;
}

-- the pass is over: the next one starts at place 0, with alpha one tau less
pub search-preserved : goal.search-preserved
search-preserved c = record {
  none = c.loop-index.invariant.none;
  left = c.loop-index.invariant.left ∙ pass-over _ _ _ _ c.search-test.true c.loop-index-test.false;
}

pub returns-after-search : goal.returns-after-search
returns-after-search c = ap found_as c.search.invariant.none ∙ sym (c.search.invariant.left ∙ passes-over _ _ _ _ c.search-test.false)

-- found: both loops are left
pub returns-then-a-checkpoint : goal.returns-then-a-checkpoint
returns-then-a-checkpoint c = sym (c.loop-index.invariant.left ∙ scan-at _ _ _ _ _ c.loop-index-test.true c.if-a-checkpoint.true)
