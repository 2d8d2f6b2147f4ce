-- Document 01, "Beside the run" (Run sheet) and "Refusals by cause" (sheet: 4 without its ended part). Assumes nothing.
use Rattle.std.specs.Prelude.{false, cond, ℕ, ◌*◌, ◌/◌, Result, Ok, Err}
use Rattle.course.specs.declared.cause.Cause.{Cause}
use Rattle.run.specs.Grader.State.{unfit}
use Rattle.run.specs.declared.state.Setup.{Setup}
use Rattle.run.specs.declared.state.Progress.{Progress}
use Rattle.run.specs.declared.sheet.RunSheet.{RunSheet}

-- 1000·credited/n, rounded down
unfoldable pub share_of : ℕ → ℕ → ℕ
share_of credited n = 1000 * credited / n

unfoldable pub figures_of : Setup → Progress → RunSheet
figures_of u p =
    record {
      tick = p.tick;
      credited = p.visited_count;
      n = u.n;
      lap = p.lap;
      ended = p.ended;
      fallback = u.fallback;
      share = share_of p.visited_count u.n;
    }

-- a refusal has none
abbrev pub no_figures : RunSheet
no_figures = record { tick = 0; credited = 0; n = 0; lap = false; ended = false; fallback = false; share = 0 }

-- ---- the call, on the parts that it reads; sets hold `most` tiles

unfoldable pub sheet_of : ℕ → Setup → Progress → Result RunSheet Cause
sheet_of most u p = cond (unfit most u p) (Err Cause.State) (Ok (figures_of u p))
