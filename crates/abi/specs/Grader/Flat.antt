-- Each answer as the numbers that cross the C boundary: those that the crates below define for each case. Assumes nothing.
use Rattle.std.specs.Prelude.{List, ℕ, Result, Float, false}
use Rattle.std.specs.Result.{result_unwrap_or}
use Rattle.rng.specs.Rules.SplitMix.{Drawn}
use Rattle.course.specs.Grader.Outcome.{CourseColumns, laid_cause_of, laid_values_of}
use Rattle.course.specs.Grader.Curbs.{curb_cause_of, curb_count_of}
use Rattle.course.specs.Grader.Angle.{angle_cause_of, value_of}
use Rattle.course.specs.Grader.Cause.{cause_number}
use Rattle.course.specs.declared.cause.Cause.{Cause}
use Rattle.course.specs.declared.points.LaidCourse.{LaidCourse}
use Rattle.course.specs.declared.points.LayError.{LayError}
use Rattle.run.specs.Grader.State.{State}
use Rattle.run.specs.Grader.Start.{Begun, no_start}
use Rattle.run.specs.Grader.Sheet.{no_figures}
use Rattle.run.specs.Grader.Save.{AfterSave}
use Rattle.run.specs.Grader.Restore.{AfterRestore, no_saved_for}
use Rattle.certificate.specs.Grader.Replay.{Replay}
use Rattle.run.specs.declared.state.Run.{Run}
use Rattle.run.specs.declared.start.StartValues.{StartValues}
use Rattle.run.specs.declared.state.Progress.{Progress}
use Rattle.run.specs.declared.dynamics.Force.{Force}
use Rattle.run.specs.declared.sheet.RunSheet.{RunSheet}
use Rattle.run.specs.declared.settle.SettleValues.{SettleValues}
use Rattle.run.specs.declared.restore.SavedFor.{SavedFor}
use Rattle.abi.specs.declared.flat.FlatLaid.{FlatLaid}
use Rattle.abi.specs.declared.flat.FlatCurbs.{FlatCurbs}
use Rattle.abi.specs.declared.flat.FlatStarted.{FlatStarted}
use Rattle.abi.specs.declared.flat.FlatDriven.{FlatDriven}
use Rattle.abi.specs.declared.flat.FlatSettled.{FlatSettled}
use Rattle.abi.specs.declared.flat.FlatSheet.{FlatSheet}
use Rattle.abi.specs.declared.flat.FlatSaved.{FlatSaved}
use Rattle.abi.specs.declared.flat.FlatRestored.{FlatRestored}
use Rattle.abi.specs.declared.flat.FlatSavedFor.{FlatSavedFor}
use Rattle.abi.specs.declared.flat.FlatAngle.{FlatAngle}
use Rattle.abi.specs.declared.flat.FlatReplayed.{FlatReplayed}
use Rattle.abi.specs.declared.flat.Draw.{Draw}

-- ---- courses and numbers

unfoldable pub flat_laid : Result LaidCourse LayError → FlatLaid
flat_laid a =
    record {
      cause = laid_cause_of a;
      n = (laid_values_of a).n;
      entries = (laid_values_of a).entries;
      fallback = (laid_values_of a).fallback;
      beta = (laid_values_of a).first.beta;
      x = (laid_values_of a).first.x;
      y = (laid_values_of a).first.y;
    }

unfoldable pub flat_curbs : Result ℕ Cause → FlatCurbs
flat_curbs a = record { cause = curb_cause_of a; count = curb_count_of a }

unfoldable pub flat_angle : Result Float Cause → FlatAngle
flat_angle a = record { cause = angle_cause_of a; value = value_of a }

-- a draw, the generator by its state
unfoldable pub flat_draw : Drawn ℕ → Draw
flat_draw d = record { value = d.value; state = d.rng.state }

-- ---- the run

-- a state whose sets have the full width, as the struct that is passed
unfoldable pub run_of : State → Run
run_of s =
    record {
      setup = s.setup;
      progress = s.progress;
      car = s.car;
      credited = s.credited;
      wheels = s.wheels;
      poses = s.poses;
      seed = s.seed;
    }

unfoldable pub flat_started : Begun → FlatStarted
flat_started b =
    record {
      cause = cause_number b.answer;
      count = (result_unwrap_or b.answer no_start).count;
      lap = (result_unwrap_or b.answer no_start).lap;
      run = run_of b.state;
    }

unfoldable pub flat_driven : Result (List Force) Cause → Progress → FlatDriven
flat_driven r p = record { cause = cause_number r; progress = p }

-- a refused settle has none
abbrev pub no_settle : SettleValues
no_settle = record { new_tiles = 0; n = 0; off = false; lap = false; ended = false }

unfoldable pub flat_settled : Result SettleValues Cause → Progress → FlatSettled
flat_settled r p =
    let v = result_unwrap_or r no_settle in
    record {
      cause = cause_number r;
      new_tiles = v.new_tiles;
      n = v.n;
      off = v.off;
      lap = v.lap;
      ended = v.ended;
      progress = p;
    }

unfoldable pub flat_sheet : Result RunSheet Cause → FlatSheet
flat_sheet a =
    record {
      cause = cause_number a;
      tick = (result_unwrap_or a no_figures).tick;
      credited = (result_unwrap_or a no_figures).credited;
      n = (result_unwrap_or a no_figures).n;
      share = (result_unwrap_or a no_figures).share;
      lap = (result_unwrap_or a no_figures).lap;
      ended = (result_unwrap_or a no_figures).ended;
      fallback = (result_unwrap_or a no_figures).fallback;
    }

-- ---- saves

unfoldable pub flat_saved : Result ℕ Cause → FlatSaved
flat_saved a = record { cause = cause_number a; length = result_unwrap_or a 0 }

-- with what the lent output holds after it
pub record SavedOut : Type 0 where
  pub answer : FlatSaved
  pub out : List ℕ

abbrev pub saved_out : FlatSaved → List ℕ → SavedOut
saved_out r out = record { answer = r; out = out }

unfoldable pub flat_save : AfterSave → SavedOut
flat_save d = saved_out (flat_saved d.answer) d.out

unfoldable pub flat_restored : AfterRestore → FlatRestored
flat_restored d = record { cause = cause_number d.answer; run = run_of d.state }

unfoldable pub flat_saved_for : Result SavedFor Cause → FlatSavedFor
flat_saved_for a = record { cause = cause_number a; n = (result_unwrap_or a no_saved_for).n; seed = (result_unwrap_or a no_saved_for).seed }

-- ---- a whole replay: its three answers, and the columns that it is lent

unfoldable pub flat_answers : Result LaidCourse LayError → Result StartValues Cause → Result RunSheet Cause → FlatReplayed
flat_answers l b s =
    record {
      laid = flat_laid l;
      start_cause = cause_number b;
      start_count = (result_unwrap_or b no_start).count;
      start_lap = (result_unwrap_or b no_start).lap;
      sheet = flat_sheet s;
    }

unfoldable pub flat_replayed : Replay → FlatReplayed
flat_replayed r = flat_answers r.laid r.start r.sheet

pub record ReplayColumns : Type 0 where
  pub course : CourseColumns
  pub words : List ℕ
  pub numbers : List Float

abbrev pub replay_columns : CourseColumns → List ℕ → List Float → ReplayColumns
replay_columns l ws ns = record { course = l; words = ws; numbers = ns }

unfoldable pub columns_after : Replay → ReplayColumns
columns_after r = replay_columns r.lent r.words r.numbers
