-- `course::step::look` meets its contract. Assumes nothing.
use Rattle.std.proofs.Common.{◌≡◌, ℕ, ◌+◌, Bool, true, false, cond, not, refl, add-zero, ◌∙◌}
use mir.Val.{bool_byte}
use Rattle.course.proofs.Literals.{tau-bits}
use Rattle.course.specs.Rules.Step.{sight_of, walk_lap, laps_of}
use Rattle.course.specs.Steps.Lay.{walk_as}
use Rattle.course.proofs.step.look.Goals as goal
use Rattle.course.proofs.step.look.Goals.{After-from, then-w, else-w}

-- the lap as a number, and what is left of `visited` after it
laps-are : (n : ℕ) (b : Bool) → n + bool_byte b ≡ laps_of n b
unfolding laps_of
laps-are n true = refl
laps-are n false = add-zero n

not-is : (b : Bool) → not b ≡ cond b false true
not-is true = refl
not-is false = refl

lap : (c : After-from) → c.if-w.lap ≡ walk_lap (walk_as c.args.w) c.angle_of-a.result
unfolding walk_lap
lap c = elim c.if-w.branch [ then-w w ↦ w.lap-is ∙ simp w.if-w.true | else-w w ↦ w.lap-is ∙ simp w.if-w.false ]

pub returns-then-a : goal.returns-then-a
unfolding sight_of
returns-then-a c =
    let l = lap (goal.at.returns-then-a c).After-from in
    simp (tau-bits, ← c.angle_of-a.ensures, c.from.ensures, laps-are, l, c.if-a.true)

pub returns-then-w-2 : goal.returns-then-w-2
unfolding sight_of
returns-then-w-2 c =
    let l = lap (goal.at.returns-then-w-2 c).After-from in
    simp (← c.angle_of-a.ensures, c.from.ensures, laps-are, not-is, l, c.if-a.false, c.if-w-2.true)

pub returns-else-w-2 : goal.returns-else-w-2
unfolding sight_of walk_lap
returns-else-w-2 c =
    let l = lap (goal.at.returns-else-w-2 c).After-from in
    simp (← c.angle_of-a.ensures, c.from.ensures, laps-are, l, c.if-a.false, c.if-w-2.false)
