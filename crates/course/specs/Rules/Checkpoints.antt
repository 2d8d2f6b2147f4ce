-- Document 01, "Lay" (Random numbers, `try_generate`): the twelve checkpoints of an attempt, two draws for each. Assumes nothing.
use Rattle.std.specs.Prelude.{ℕ, zero, suc, ◌+◌, ◌-◌, ◌*◌, cond, List, [], ◌∷◌, ◌++◌, ◌==◌, Float}
use Rattle.rng.specs.declared.SplitMix64.{SplitMix64}
use Rattle.rng.specs.Rules.SplitMix.{after}
use Rattle.rng.specs.Rules.Unit.{uniform_draw_of}
use Rattle.course.specs.Rules.Arithmetic.{◌⊕◌, ◌⊗◌, ◌⊘◌, natural, decimal, nought}
use Rattle.course.specs.Rules.Constants.{tau, track_rad, checkpoint_count}
use Rattle.course.specs.Rules.Trig.{sine_of, cosine_of}
use Rattle.course.specs.declared.checkpoints.Checkpoint.{Checkpoint}

-- the checkpoint at an angle and a radius
unfoldable pub spot_of : Float → Float → Checkpoint
spot_of angle rad = record { angle = angle; x = rad ⊗ cosine_of angle; y = rad ⊗ sine_of angle }

-- tau * c / CHECKPOINTS
unfoldable pub base_of : ℕ → Float
base_of c = tau ⊗ natural c ⊘ natural checkpoint_count

-- 1.5 * TRACK_RAD
unfoldable pub far_rad : Float
far_rad = decimal 15 10 ⊗ track_rad

-- checkpoint c, from its noise and its radius; for the first and the last both are overridden
unfoldable pub checkpoint_of : ℕ → Float → Float → Checkpoint
checkpoint_of c noise rad =
    cond (c == 0) (spot_of nought far_rad)
    (cond (c == checkpoint_count - 1) (spot_of (base_of c) far_rad)
    (spot_of (base_of c ⊕ noise) rad))

-- checkpoint c of a generator: its draws 2c and 2c + 1, counted from 0
unfoldable pub checkpoint_at : ℕ → SplitMix64 → Checkpoint
checkpoint_at c g =
    checkpoint_of c
    (uniform_draw_of (after (2 * c) g) nought (tau ⊘ natural checkpoint_count)).value
    (uniform_draw_of (after (2 * c + 1) g) (track_rad ⊘ natural 3) track_rad).value

-- the first n
unfoldable pub checkpoints_of : ℕ → SplitMix64 → List Checkpoint
checkpoints_of zero g = []
checkpoints_of (suc n) g = checkpoints_of n g ++ (checkpoint_at n g ∷ [])
