-- What holds at the heads of the two loops of `course::finder::find`: nothing is found, and what is still to be searched finds what the search finds. The measures
-- are the passes left and the places left of a pass. Assumes nothing.
use Rattle.std.proofs.Common.{◌≡◌, ◌-◌, None, drop}
use Rattle.course.specs.Rules.Arithmetic.{◌⊖◌}
use Rattle.course.specs.Rules.Constants.{tau}
use Rattle.course.specs.Rules.Finder.{scan, or_again, dest_of}
use Rattle.course.proofs.FinderSteps.{searched}
use Rattle.course.proofs.finder.find.Given as goal

abbrev pub invariant-loop-index : goal.invariant-loop-index
invariant-loop-index l = record {
  none : l.found ≡ None;
  left : dest_of l.cs l.from l.alpha ≡ or_again (scan (drop l.index l.cs) l.index l.a) (searched (1 - l._pass) l.cs 0 (l.a ⊖ tau));
}

abbrev pub invariant-search : goal.invariant-search
invariant-search l = record {
  none : l.found ≡ None;
  left : dest_of l.cs l.from l.alpha ≡ searched (2 - l._pass) l.cs l.first l.a;
}
