-- Document 01, "Beside the run" (Reward; the Rust's `step_reward`). Assumes nothing.
use Rattle.std.specs.Prelude.{ℕ, zero, suc, Bool, cond, Float}
use Rattle.std.specs.Float.Ieee.{neg}
use Rattle.course.specs.Rules.Arithmetic.{◌⊕◌, ◌⊗◌, ◌⊘◌, natural, decimal}
use Rattle.run.specs.declared.reward.Weights.{Weights}

-- max(n, 1)
unfoldable pub at_least_one : ℕ → ℕ
at_least_one zero = 1
at_least_one (suc n) = suc n

-- tile·new/max(n, 1) + step, or the off value alone
unfoldable pub reward_of : Weights → ℕ → ℕ → Bool → Float
reward_of w new n off = cond off w.off_playfield (w.tile ⊗ natural new ⊘ natural (at_least_one n) ⊕ w.step)

-- the Rust's default weights
unfoldable pub default_weights : Weights
default_weights = record { tile = natural 1000; step = neg (decimal 1 10); off_playfield = neg (natural 100) }
