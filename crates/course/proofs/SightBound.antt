-- The angle that the walk sees, and the one that is found with its next checkpoint: the first is a NaN or from 0 to 6.3, the second is within ±6.3. Assumes nothing.
use Rattle.std.proofs.Common.{◌≡◌, ℕ, suc, Bool, true, false, cond, ◌⊎◌, List, [], ◌∷◌, drop, Option, Some, None, sym, refl, ap, ◌∙◌, inl, inr}
use mathlib.Core.Bool.{false≢true}
use lib.Ieee.{Float, nan, neg, lt, le, round, of_int, of_bits, add, sub}
use Rattle.course.specs.Rules.Arithmetic.{◌⊕◌, ◌⊖◌, natural, decimal, nought}
use Rattle.course.specs.Rules.Constants.{tau}
use Rattle.course.specs.Rules.Trig.{atan2_of}
use Rattle.course.specs.Rules.Finder.{Destination, scan, or_again, dest_of}
use Rattle.course.specs.Rules.Step.{Walk, sight_of}
use Rattle.course.specs.declared.checkpoints.Checkpoint.{Checkpoint}
use Rattle.course.proofs.Intervals.{In, Near, wider, add-in, sub_in, below_in, not-below-in}
use Rattle.course.proofs.AngleBound.{atan2-near}
use Rattle.course.proofs.TurnLimits.{tau-in}

-- ---- the walk's angle: a NaN, or from 0 to 6.3
abbrev pub Seen : Float → Type 0
Seen a = (a ≡ nan) ⊎ In (natural 0) (decimal 63 10) a

raised : (a : Float) → (a ≡ nan) ⊎ Near (decimal 625 100) a → Seen (cond (lt a nought) (a ⊕ tau) a)
raised a (inl e) = inl (ap (λ (z : Float). cond (lt z nought) (z ⊕ tau) z) e ∙ (unfold lt in refl))
raised a (inr h) = go (lt a nought) refl
  where
    go : (b : Bool) → lt a nought ≡ b → (cond b (a ⊕ tau) a ≡ nan) ⊎ In (natural 0) (decimal 63 10) (cond b (a ⊕ tau) a)
    go true e = inr (add-in (below_in nought h e) tau-in (unfold of_bits natural of_int decimal round neg add le in tt))
    go false e = inr (wider (not-below-in nought h e (unfold of_bits decimal round neg in tt)) (unfold of_bits natural of_int decimal round le in tt))

pub sight-seen : (w : Walk) → Seen (sight_of w).alpha
unfolding sight_of
sight-seen w = raised (atan2_of w.y w.x) (atan2-near w.y w.x)

-- ---- the angle that is found with a checkpoint is within ±6.3: a NaN is found with none
abbrev pub Aimed : Option Destination → Type 0
Aimed None = Unit
Aimed (Some d) = Near (decimal 63 10) d.alpha

scan-aimed : (cs : List Checkpoint) (i : ℕ) (a : Float) → (a ≡ nan) ⊎ Near (decimal 63 10) a → Aimed (scan cs i a)
unfolding scan
scan-aimed [] i a h = tt
scan-aimed (c ∷ rest) i a h = go (le a c.angle) refl h (scan-aimed rest (suc i) a h)
  where
    go : (x : Bool) → le a c.angle ≡ x → (a ≡ nan) ⊎ Near (decimal 63 10) a → Aimed (scan rest (suc i) a) → Aimed (cond x (Some (record { place = i; alpha = a; checkpoint = c })) (scan rest (suc i) a))
    go false e k later = later
    go true e (inl z) later = absurd (false≢true (sym (ap (λ (u : Float). le u c.angle) z ∙ (unfold le in refl)) ∙ e))
    go true e (inr k) later = k

again-aimed : (r s : Option Destination) → Aimed r → Aimed s → Aimed (or_again r s)
unfolding or_again
again-aimed None s h k = k
again-aimed (Some d) s h k = h

pub dest-aimed : (cs : List Checkpoint) (i : ℕ) (a : Float) → Seen a → Aimed (dest_of cs i a)
unfolding dest_of
dest-aimed cs i a h =
    let first : (a ≡ nan) ⊎ Near (decimal 63 10) a = elim h [ inl e ↦ inl e | inr k ↦ inr (wider k (unfold natural of_int decimal round neg le in tt)) ] in
    let second : (a ⊖ tau ≡ nan) ⊎ Near (decimal 63 10) (a ⊖ tau) = elim h [
      | inl e ↦ inl (ap (λ (z : Float). z ⊖ tau) e ∙ (unfold sub in refl))
      | inr k ↦ inr (sub_in k tau-in (unfold natural of_int decimal round neg sub le in tt))
    ] in
    again-aimed (scan (drop i cs) i a) (scan cs 0 (a ⊖ tau)) (scan-aimed (drop i cs) i a first) (scan-aimed cs 0 (a ⊖ tau) second)
