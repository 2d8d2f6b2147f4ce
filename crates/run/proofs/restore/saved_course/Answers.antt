-- `run::restore::saved_course` meets its contract. Assumes nothing.
use mathlib.Core.Path.{ap, ◌∙◌}
use Rattle.std.specs.Result.{result_ok}
use Rattle.std.proofs.lemmas.Result.{err_from_is_err_and}
use Rattle.run.proofs.CheckLaws.{not-there}
use Rattle.run.proofs.LoadLaws.{not-loaded, is-loaded}
use Rattle.run.specs.Grader.Restore.{course_at, saved_course_of}
use Rattle.run.proofs.restore.saved_course.Goals as goal

pub returns-in_err-f : goal.returns-in_err-f
unfolding saved_course_of
returns-in_err-f c =
    let p = err_from_is_err_and c.from_residual.result c.from_residual.ensures.1 in
    let q = not-there c.load.result c.ok_or.ensures.value c.in_err-f.was in
    rw (p.1, p.2, q.1) (ap course_at (not-loaded q.0 c.load.ensures))

pub returns : goal.returns
unfolding saved_course_of
returns c = ap course_at (is-loaded (c.ok_or.ensures.ok_part ∙ ap result_ok c.in_ok-f.was) c.load.ensures)
