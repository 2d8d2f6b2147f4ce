-- When a set kept as words has a member: laws for any number of words. Assumes nothing.
use mathlib.Core.Bool.{Bool, true, false, ◌||◌}
use mathlib.Core.List.{List}
use mathlib.Core.Path.{◌≡◌, refl, sym, ap, ap₂, ◌∙◌}
use Prim.Native.Nat.{ℕ, zero, suc, ◌+◌, ◌*◌, ◌/◌, ◌%◌, ◌^◌, ◌<◌}
use native.Mathlib.Omega.{arith}
use native.Mathlib.Decide.{ℕ_discrete}
use lib.Dec.{lit<}
use lib.ListN.{get_or}
use Rattle.run.specs.Rules.Below.{any_below}
use Rattle.run.specs.Grader.Words.{bit_of, member}
use Rattle.course.proofs.BoolLaws.{left_false, right-false, never-false}
use Rattle.run.proofs.WordLaws.{member-at, word-ext, bit-none}

pub any_none : (n : ℕ) (p : ℕ → Bool) → ((t : ℕ) → t < n → p t ≡ false) → any_below n p ≡ false
unfolding any_below
any_none zero p e = refl
any_none (suc n) p e = ap₂ ◌||◌ (any_none n p (λ t h. e t (omega arith))) (e n (omega arith))

pub any_false : (n : ℕ) (p : ℕ → Bool) (t : ℕ) → any_below n p ≡ false → t < n → p t ≡ false
unfolding any_below
any_false zero p t e h = absurd (omega arith)
any_false (suc n) p t e h =
    elim (ℕ_discrete t n) [
      | yes q ↦ ap p q ∙ right-false (any_below n p) (p n) e
      | no q ↦ any_false n p t (left_false (any_below n p) (p n) e) (omega arith)
    ]

-- a word that is not 0 has a bit that stands
pub any_found : (ws : List ℕ) (n i : ℕ) → i < n → get_or ws i 0 < 2 ^ 64 → (get_or ws i 0 ≡ 0 → ⊥) → any_below (64 * n) (member ws) ≡ true
any_found ws n i h f z =
    never-false (any_below (64 * n) (member ws))
    (λ e. z (word-ext 64 (get_or ws i 0) 0 f (lit< tt)
    (λ k l. sym (member-at ws i k l) ∙ any_false (64 * n) (member ws) (64 * i + k) e (omega arith) ∙ sym (bit-none k))))

pub none_found : (ws : List ℕ) (n : ℕ) → ((j : ℕ) → j < n → get_or ws j 0 ≡ 0) → any_below (64 * n) (member ws) ≡ false
unfolding member
none_found ws n z =
    any_none (64 * n) (member ws)
    (λ t h. ap (λ (w : ℕ). bit_of w (t % 64)) (z (t / 64) (omega arith)) ∙ bit-none (t % 64))
