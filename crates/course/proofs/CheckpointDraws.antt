-- The checkpoints of an attempt, one more at a time. Assumes nothing.
use Rattle.std.proofs.Common.{◌≡◌, ℕ, ◌+◌, ◌*◌, ◌<◌, List, [], ◌∷◌, ◌++◌, length, take, set, sym, refl, ap, ◌∙◌, ap₂, le_of_eq, add-one, arith, length-set, take_all, take-suc-set}
use lib.Ieee.{Float, binary64, of_bits}
use Rattle.rng.specs.declared.SplitMix64.{SplitMix64}
use Rattle.rng.specs.Rules.SplitMix.{after}
use Rattle.rng.specs.Rules.Unit.{uniform_draw_of}
use Rattle.rng.proofs.Draws.{after_next, after-zero}
use Rattle.course.specs.Rules.Arithmetic.{nought}
use Rattle.course.specs.Rules.Checkpoints.{checkpoint_of, checkpoint_at, checkpoints_of}
use Rattle.course.specs.declared.checkpoints.Checkpoint.{Checkpoint}
use Rattle.course.proofs.Literals.{tau12-bits, rad-bits, rad3-bits}

-- the bounds of the two draws, as the compiled code has them
abbrev most_noise : Float
most_noise = of_bits binary64 0x3fe0c152382d7365

abbrev least_rad : Float
least_rad = of_bits binary64 0x4049000000000000

abbrev most_rad : Float
most_rad = of_bits binary64 0x4062c00000000000

-- what holds after i of n checkpoints
pub record Drawing (n : ℕ) (g : SplitMix64) (cs : List Checkpoint) (r : SplitMix64) (i : ℕ) : Type 0 where
  pub long : length cs ≡ n
  pub so_far : take i cs ≡ checkpoints_of i g
  pub state : r ≡ after (2 * i) g

pub drawing-none : (g : SplitMix64) (cs : List Checkpoint) (n : ℕ) → length cs ≡ n → Drawing n g cs g 0
unfolding checkpoints_of
drawing-none g cs n e = record { long = e; so_far = refl; state = sym (after-zero g) }

-- the generator goes on after a uniform draw
uniform-next : (n : ℕ) (g : SplitMix64) (lo hi : Float) → (uniform_draw_of (after n g) lo hi).rng ≡ after (n + 1) g
unfolding uniform_draw_of
uniform-next n g lo hi = after_next n g

two-draws : (i : ℕ) (g : SplitMix64) {r r1 r2 : SplitMix64} {noise rad : Float} {p : Checkpoint} → r ≡ after (2 * i) g
    → noise ≡ (uniform_draw_of r nought most_noise).value → r1 ≡ (uniform_draw_of r nought most_noise).rng
    → rad ≡ (uniform_draw_of r1 least_rad most_rad).value → r2 ≡ (uniform_draw_of r1 least_rad most_rad).rng → p ≡ checkpoint_of i noise rad
    → (p ≡ checkpoint_at i g) × (r2 ≡ after (2 * (i + 1)) g)
unfolding checkpoint_at
two-draws i g {r} {r1} s u v w x c =
    let s1 : r1 ≡ after (2 * i + 1) g = v ∙ ap (λ (z : SplitMix64). (uniform_draw_of z nought most_noise).rng) s ∙ uniform-next (2 * i) g nought most_noise in
    let k : 2 * i + 1 + 1 ≡ 2 * (i + 1) = omega arith in (
      rw (tau12-bits, rad3-bits, rad-bits)
          (c ∙ ap₂ (checkpoint_of i) (u ∙ ap (λ (z : SplitMix64). (uniform_draw_of z nought most_noise).value) s) (w ∙ ap (λ (z : SplitMix64). (uniform_draw_of z least_rad most_rad).value) s1)),
      x ∙ ap (λ (z : SplitMix64). (uniform_draw_of z least_rad most_rad).rng) s1 ∙ uniform-next (2 * i + 1) g least_rad most_rad ∙ ap (λ (m : ℕ). after m g) k,
    )

next-list : (i : ℕ) (g : SplitMix64) (p : Checkpoint) → p ≡ checkpoint_at i g → checkpoints_of i g ++ (p ∷ []) ≡ checkpoints_of (i + 1) g
unfolding checkpoints_of
next-list i g p e = rw (add-one, e)

pub one_more : (n i : ℕ) {g r r1 r2 : SplitMix64} {cs : List Checkpoint} {noise rad : Float} {p : Checkpoint} → i < n → Drawing n g cs r i
    → noise ≡ (uniform_draw_of r nought most_noise).value → r1 ≡ (uniform_draw_of r nought most_noise).rng
    → rad ≡ (uniform_draw_of r1 least_rad most_rad).value → r2 ≡ (uniform_draw_of r1 least_rad most_rad).rng → p ≡ checkpoint_of i noise rad
    → Drawing n g (set cs i p) r2 (i + 1)
one_more n i {g} {cs = cs} {p = p} h f u v w x c =
    let t = two-draws i g f.state u v w x c in
    let l : i < length cs = rw f.long h in
    record {
      long = length-set cs i p ∙ f.long;
      so_far = ap (λ (m : ℕ). take m (set cs i p)) (add-one i) ∙ take-suc-set cs i p l ∙ ap (λ (z : List Checkpoint). z ++ (p ∷ [])) f.so_far ∙ next-list i g p t.0;
      state = t.1;
    }

-- after all of them
pub all-drawn : (n i : ℕ) {g r : SplitMix64} {cs : List Checkpoint} → i ≡ n → Drawing n g cs r i → cs ≡ checkpoints_of n g
all-drawn n i {g} {cs = cs} z f = sym (take_all i cs (le_of_eq (f.long ∙ sym z))) ∙ f.so_far ∙ ap (λ (m : ℕ). checkpoints_of m g) z
