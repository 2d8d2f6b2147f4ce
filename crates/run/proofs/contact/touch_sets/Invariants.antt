-- `run::contact::touch_sets` meets its contract. Assumes nothing.
use lib.ListN.{length}
use Rattle.run.proofs.ContactLaws.{Touched}
use Rattle.run.specs.Rules.Wheel.{quad_of}
use Rattle.run.specs.Grader.Touch.{touched_by}
use Rattle.run.proofs.contact.touch_sets.Given as goal

abbrev pub invariant-loop-wheel : goal.invariant-loop-wheel
invariant-loop-wheel l =
    let c = l.columns in
    Touched (length l.initial.tested) l.initial.wheels (λ v. touched_by c.tiles.now c.offsets.now c.list.now (quad_of l.stance.poses v)) l.wheels l.wheel
