-- `course::columns::copy_front` meets its contract. Assumes nothing.
use Rattle.std.proofs.Common.{◌≡◌, take}
use Rattle.course.proofs.columns.copy_front.Given as goal

abbrev pub invariant-loop-i : goal.invariant-loop-i
invariant-loop-i l = take l.i l.place-items ≡ take l.i l.from
