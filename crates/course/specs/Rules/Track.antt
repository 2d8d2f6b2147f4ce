-- Document 01, "Lay" (`try_generate`): from the steps of a walk to its track. Assumes nothing.
use Rattle.std.specs.Prelude.{ℕ, zero, suc, ◌-◌, Bool, cond, not, ◌&&◌, List, [], map, length, take, drop, Option, Some, None, slice_index_or, Float}
use Rattle.std.specs.Float.{nan}
use Rattle.std.specs.Float.Ieee.{lt, le, neg}
use Rattle.course.specs.Rules.Arithmetic.{◌⊕◌, ◌⊖◌, ◌⊗◌, ◌⊘◌, natural, decimal}
use Rattle.course.specs.Rules.Constants.{tau, track_detail_step, checkpoint_count}
use Rattle.course.specs.Rules.Trig.{sine_of, cosine_of}
use Rattle.course.specs.Rules.Root.{sqrt_of}
use Rattle.course.specs.Rules.Step.{TrackStep}

-- the Rust's start_alpha
unfoldable pub start_alpha : Float
start_alpha = tau ⊗ neg (decimal 1 2) ⊘ natural checkpoint_count

-- the angles pass through the start at i: above it, and not above it just before
unfoldable pub passes_at : List Float → ℕ → Bool
passes_at l i = lt start_alpha (slice_index_or l i nan) && le (slice_index_or l (i - 1) nan) start_alpha

-- the greatest number from 1 to n at which they do
unfoldable pub last_pass : List Float → ℕ → Option ℕ
last_pass l zero = None
last_pass l (suc n) = cond (passes_at l (suc n)) (Some (suc n)) (last_pass l n)

-- the columns of a list of steps
abbrev pub step_alphas : List TrackStep → List Float
step_alphas ps = map (λ (p : TrackStep). p.alpha) ps

abbrev pub step_betas : List TrackStep → List Float
step_betas ps = map (λ (p : TrackStep). p.beta) ps

abbrev pub step_xs : List TrackStep → List Float
step_xs ps = map (λ (p : TrackStep). p.x) ps

abbrev pub step_ys : List TrackStep → List Float
step_ys ps = map (λ (p : TrackStep). p.y) ps

-- the ends of the track, with the first point's heading beta, lie at most one step apart; so it is for a NaN
unfoldable pub glued_of : Float → Float → Float → Float → Float → Bool
glued_of beta x0 y0 x1 y1 =
    let p = cosine_of beta ⊗ (x0 ⊖ x1) in
    let q = sine_of beta ⊗ (y0 ⊖ y1) in
    not (lt track_detail_step (sqrt_of (p ⊗ p ⊕ q ⊗ q)))

unfoldable pub well_glued : List TrackStep → Bool
well_glued ps =
    glued_of (slice_index_or (step_betas ps) 0 nan)
    (slice_index_or (step_xs ps) 0 nan) (slice_index_or (step_ys ps) 0 nan)
    (slice_index_or (step_xs ps) (length ps - 1) nan) (slice_index_or (step_ys ps) (length ps - 1) nan)

-- the steps from number i1 to number i2, without the last; of these the track, empty where its ends do not meet
unfoldable pub between_passes : List TrackStep → ℕ → ℕ → List TrackStep
between_passes ps i1 i2 = take (i2 - 1 - i1) (drop i1 ps)

unfoldable pub if_glued : List TrackStep → List TrackStep
if_glued l = cond (well_glued l) l []

-- the last pass through the start, and the one before it: the Rust's i2 and i1
unfoldable pub from_earlier : List TrackStep → ℕ → Option ℕ → List TrackStep
from_earlier ps i2 None = []
from_earlier ps i2 (Some i1) = if_glued (between_passes ps i1 i2)

unfoldable pub to_later : List TrackStep → Option ℕ → List TrackStep
to_later ps None = []
to_later ps (Some i2) = from_earlier ps i2 (last_pass (step_alphas ps) (i2 - 1))

-- the track of a walk: empty where there are no two passes, nothing lies between them or the ends do not meet
unfoldable pub track_of : List TrackStep → List TrackStep
track_of ps = to_later ps (last_pass (step_alphas ps) (length ps - 1))
